-- The text of octal words of all banks is read again.
use Rattle.std.proofs.Common.{◌≡◌, ◌≢◌, ℕ, zero, suc, ◌+◌, ◌*◌, ◌%◌, ◌<◌, ◌≤◌, ◌==◌, ◌⊎◌, true, false, nat_lt}
use Rattle.std.proofs.Common.{List, [], ◌∷◌, ◌++◌, map, Option, Some, None, Ok, refl, sym, ◌∙◌, ap, arith, inl, inr, append_assoc}
use Rattle.std.specs.List.{range_with_len, flat_map}
use Rattle.std.proofs.lemmas.Bool.{cases_eq, ne_eqb}
use Rattle.std.proofs.lemmas.Bool.Decides.{nat_tests}
use Rattle.words.specs.Numerals.{octal_text}
use Rattle.agc_text.specs.Lines.{lines}
use Rattle.agc_text.proofs.LineLaws.{lines-ended, lines-none}
use Rattle.rope.specs.Places.{banks, bank_words, fixed_places, Words, no_words, slot_at, with_word, word_at}
use Rattle.rope.proofs.PlaceLaws.{slot_at-no_words, slot_at-with_word_other, slot_at-with_word_same}
use Rattle.audit.specs.Octals.{bank_head, bank_octals, octal_word, octal_words}
use Rattle.audit.specs.OctalsBack.{AreWords, ReadsBack}
use Rattle.audit.specs.OctalTexts.{begin_bank, is_free, put, put_all, put_word, read_lines, state, take_fields, take_line}
use Rattle.audit.proofs.OctalImages.{same_fronts}
use Rattle.audit.proofs.OctalRows.{five, fives, fields_of_head, fields_of_row, head, head_has_no_feed, number_of_two, others, row_has_no_feed}
use Rattle.audit.proofs.OctalRows.{takes_fives, word_of_five}
use Rattle.audit.proofs.OctalSteps.{puts_next, reads_next, reads_none}

-- ## Words that are put
-- the words of a bank from an offset on are put, so many of them
unfoldable pub put_words : Words → Words → ℕ → ℕ → ℕ → Words
put_words into words bank o zero = into
put_words into words bank o (suc k) = put_words (with_word into bank o (word_at words bank o)) words bank (o + 1) k

-- no word stands in a bank from an offset on
abbrev pub IsFree : Words → ℕ → ℕ → Type 0
IsFree into bank o = (p : ℕ) → o ≤ p → slot_at into bank p ≡ None

free_after : (into : Words) (bank o word : ℕ) → o < bank_words → IsFree into bank o → IsFree (with_word into bank o word) bank (o + 1)
free_after into bank o word lt free p le =
    slot_at-with_word_other into bank o word bank p lt (inr (λ same. omega (arith, same, le))) ∙ free p (omega (arith, le))

free_after_all : (words : Words) (bank k o : ℕ) (into : Words) → o + k ≤ bank_words → IsFree into bank o
    → IsFree (put_words into words bank o k) bank (o + k)
unfolding put_words
free_after_all words bank zero o into le free = λ p more. free p (omega (arith, more))
free_after_all words bank (suc k) o into le free = λ p more.
    free_after_all words bank k (o + 1) (with_word into bank o (word_at words bank o)) (omega (arith, le))
    (free_after into bank o (word_at words bank o) (omega (arith, le)) free) p (omega (arith, more))

-- other places are as they were
kept : (words : Words) (bank b p k o : ℕ) (into : Words) → o + k ≤ bank_words → (b ≢ bank) ⊎ (p < o)
    → slot_at (put_words into words bank o k) b p ≡ slot_at into b p
unfolding put_words
kept words bank b p zero o into le other = refl
kept words bank b p (suc k) o into le (inl banks_differ) =
    kept words bank b p k (o + 1) (with_word into bank o (word_at words bank o)) (omega (arith, le)) (inl banks_differ)
    ∙ slot_at-with_word_other into bank o (word_at words bank o) b p (omega (arith, le)) (inl banks_differ)
kept words bank b p (suc k) o into le (inr before) =
    kept words bank b p k (o + 1) (with_word into bank o (word_at words bank o)) (omega (arith, le)) (inr (omega (arith, before)))
    ∙ slot_at-with_word_other into bank o (word_at words bank o) b p (omega (arith, le)) (inr (λ same. omega (arith, same, before)))

-- and those that were put stand
there : (words : Words) (bank p k o : ℕ) (into : Words) → bank < banks → o + k ≤ bank_words → o ≤ p → p < o + k
    → slot_at (put_words into words bank o k) bank p ≡ Some (word_at words bank p)
unfolding put_words
there words bank p zero o into inside le from to = absurd (omega (arith, from, to))
there words bank p (suc k) o into inside le from to =
    elim (cases_eq p o) [
      | inl same ↦
          rw same (kept words bank bank o k (o + 1) (with_word into bank o (word_at words bank o)) (omega (arith, le)) (inr (omega arith))
          ∙ slot_at-with_word_same into bank o (word_at words bank o) inside (omega (arith, le)))
      | inr differs ↦
          there words bank p k (o + 1) (with_word into bank o (word_at words bank o)) inside (omega (arith, le))
          (omega (arith, from, differs)) (omega (arith, to))
    ]

-- ## A row
-- a word may be put where none stands
may_put : (into : Words) (bank o : ℕ) → bank < banks → o < bank_words → slot_at into bank o ≡ None → is_free into bank o ≡ true
may_put into bank o inside lt free =
    let in_banks : nat_lt bank banks ≡ true = grind (arith, nat_tests, inside) in
    let in_bank : nat_lt o bank_words ≡ true = grind (arith, nat_tests, lt) in
    rw (in_banks, in_bank, free) refl

puts_word : (into : Words) (bank o w : ℕ) → is_free into bank o ≡ true
    → put_word (state into (Some bank) o) (Some w) (Some bank) ≡ Some (state (with_word into bank o w) (Some bank) (o + 1))
puts_word into bank o w free = rw free refl

put_one : (words into : Words) (bank o : ℕ) → AreWords words → bank < banks → o < bank_words → IsFree into bank o
    → put (state into (Some bank) o) (five (word_at words bank o) [])
    ≡ Some (state (with_word into bank o (word_at words bank o)) (Some bank) (o + 1))
put_one words into bank o few inside lt free =
    ap (λ word. put_word (state into (Some bank) o) word (Some bank)) (word_of_five (word_at words bank o) (few bank o))
    ∙ puts_word into bank o (word_at words bank o) (may_put into bank o inside lt (free o (omega arith)))

puts_row : (words : Words) (bank k o last : ℕ) (into : Words) → AreWords words → bank < banks → o + k ≤ bank_words → IsFree into bank o
    → last ≡ o + k
    → put_all (state into (Some bank) o) (fives (map (word_at words bank) (range_with_len o k)))
    ≡ Some (state (put_words into words bank o k) (Some bank) last)
unfolding put_all put_words
puts_row words bank zero o last into few inside le free e = let same : last ≡ o = omega (arith, e) in rw same refl
puts_row words bank (suc k) o last into few inside le free e =
    puts_next (state into (Some bank) o) (state (with_word into bank o (word_at words bank o)) (Some bank) (o + 1))
    (fives (map (word_at words bank) (range_with_len o (suc k)))) (fives (map (word_at words bank) (range_with_len (o + 1) k)))
    (five (word_at words bank o) []) refl
    (put_one words into bank o few inside (omega (arith, le)) free)
    ∙ puts_row words bank k (o + 1) last (with_word into bank o (word_at words bank o)) few inside (omega (arith, le))
    (free_after into bank o (word_at words bank o) (omega (arith, le)) free) (omega (arith, e))

-- the line of eight words
abbrev pub row : Words → ℕ → ℕ → List ℕ
row words bank o = five (word_at words bank o) (others (map (word_at words bank) (range_with_len (o + 1) 7)))

takes_row : (words : Words) (bank o : ℕ) (into : Words) → AreWords words → bank < banks → o + 8 ≤ bank_words → IsFree into bank o
    → take_line (state into (Some bank) o) (row words bank o) ≡ Some (state (put_words into words bank o 8) (Some bank) (o + 8))
unfolding take_line
takes_row words bank o into few inside le free =
    ap (take_fields (state into (Some bank) o))
    (fields_of_row (map (word_at words bank) (range_with_len (o + 1) 7)) (word_at words bank o))
    ∙ takes_fives (state into (Some bank) o) (word_at words bank o) (map (word_at words bank) (range_with_len (o + 1) 7))
    ∙ puts_row words bank 8 o (o + 8) into few inside le free refl

-- eight more
abbrev pub eight_more : ℕ → ℕ
eight_more k = suc (suc (suc (suc (suc (suc (suc (suc k)))))))

abbrev pub eighth : ℕ → ℕ
eighth o = o + 1 + 1 + 1 + 1 + 1 + 1 + 1 + 1

-- eight words of the text are such a line
row_text : (words : Words) (bank o k : ℕ) (rest : List ℕ) → o % 8 ≡ 0
    → flat_map (octal_word words bank) (range_with_len o (eight_more k)) ++ rest
    ≡ row words bank o ++ 10 ∷ (flat_map (octal_word words bank) (range_with_len (eighth o) k) ++ rest)
unfolding octal_word octal_text
row_text words bank o k rest first =
    let a : o % 8 == 7 ≡ false = ne_eqb (o % 8) 7 (λ q. omega (arith, first, q)) in
    let b : (o + 1) % 8 == 7 ≡ false = ne_eqb ((o + 1) % 8) 7 (λ q. omega (arith, first, q)) in
    let c : (o + 1 + 1) % 8 == 7 ≡ false = ne_eqb ((o + 1 + 1) % 8) 7 (λ q. omega (arith, first, q)) in
    let d : (o + 1 + 1 + 1) % 8 == 7 ≡ false = ne_eqb ((o + 1 + 1 + 1) % 8) 7 (λ q. omega (arith, first, q)) in
    let e : (o + 1 + 1 + 1 + 1) % 8 == 7 ≡ false = ne_eqb ((o + 1 + 1 + 1 + 1) % 8) 7 (λ q. omega (arith, first, q)) in
    let f : (o + 1 + 1 + 1 + 1 + 1) % 8 == 7 ≡ false = ne_eqb ((o + 1 + 1 + 1 + 1 + 1) % 8) 7 (λ q. omega (arith, first, q)) in
    let g : (o + 1 + 1 + 1 + 1 + 1 + 1) % 8 == 7 ≡ false = ne_eqb ((o + 1 + 1 + 1 + 1 + 1 + 1) % 8) 7 (λ q. omega (arith, first, q)) in
    let h : (o + 1 + 1 + 1 + 1 + 1 + 1 + 1) % 8 ≡ 7 = omega (arith, first) in
    rw (a, b, c, d, e, f, g, h) refl

-- ## A bank
put_eight : (words : Words) (bank o k : ℕ) (into : Words)
    → put_words into words bank o (eight_more k) ≡ put_words (put_words into words bank o 8) words bank (o + 8) k
unfolding put_words
put_eight words bank o k into =
    let same : eighth o ≡ o + 8 = omega arith in
    ap (λ q. put_words (put_words into words bank o 8) words bank q k) same

reads_rows : (words : Words) (bank m count o n last end : ℕ) (into : Words) (rest : List ℕ) → AreWords words → bank < banks
    → count ≡ 8 * m → o + count ≤ bank_words → o % 8 ≡ 0 → IsFree into bank o → last ≡ n + m → end ≡ o + count
    → read_lines n (state into (Some bank) o) (lines (flat_map (octal_word words bank) (range_with_len o count) ++ rest))
    ≡ read_lines last (state (put_words into words bank o count) (Some bank) end) (lines rest)
unfolding put_words
reads_rows words bank zero count o n last end into rest few inside c le first free l e =
    let none : count ≡ 0 = omega (arith, c) in
    let same : last ≡ n = omega (arith, l) in
    let here : end ≡ o = omega (arith, e, c) in
    rw (none, same, here) refl
reads_rows words bank (suc m) count o n last end into rest few inside c le first free l e =
    let more : List ℕ = flat_map (octal_word words bank) (range_with_len (o + 8) (8 * m)) ++ rest in
    let whole : count ≡ eight_more (8 * m) = omega (arith, c) in
    let place : eighth o ≡ o + 8 = omega arith in
    let text : flat_map (octal_word words bank) (range_with_len o (eight_more (8 * m))) ++ rest ≡ row words bank o ++ 10 ∷ more
    = row_text words bank o (8 * m) rest first
    ∙ ap (λ q. row words bank o ++ 10 ∷ (flat_map (octal_word words bank) (range_with_len q (8 * m)) ++ rest)) place in
    let line : lines (flat_map (octal_word words bank) (range_with_len o count) ++ rest) ≡ row words bank o ∷ lines more
    = ap (λ q. lines (flat_map (octal_word words bank) (range_with_len o q) ++ rest)) whole
    ∙ ap lines text
    ∙ lines-ended (row words bank o) more
    (row_has_no_feed (map (word_at words bank) (range_with_len (o + 1) 7)) (word_at words bank o)) in
    let put_all_of : put_words into words bank o count ≡ put_words (put_words into words bank o 8) words bank (o + 8) (8 * m)
    = ap (put_words into words bank o) whole ∙ put_eight words bank o (8 * m) into in
    reads_next n (state into (Some bank) o) (state (put_words into words bank o 8) (Some bank) (o + 8)) _ (lines more)
    (row words bank o) line
    (takes_row words bank o into few inside (omega (arith, le, c)) free)
    ∙ reads_rows words bank m (8 * m) (o + 8) (n + 1) last end (put_words into words bank o 8) rest few inside refl (omega (arith, le, c))
    (omega (arith, first)) (free_after_all words bank 8 o into (omega (arith, le, c)) free) (omega (arith, l)) (omega (arith, e, c))
    ∙ ap (λ ws. read_lines last (state ws (Some bank) end) (lines rest)) (sym put_all_of)

head_is : (bank : ℕ) (rest : List ℕ) → bank_head bank ++ rest ≡ head bank ++ 10 ∷ rest
unfolding bank_head octal_text
head_is bank rest = refl

begins : (into : Words) (before : Option ℕ) (bank count : ℕ) → is_free into bank 0 ≡ true
    → begin_bank (state into before count) (Some bank) ≡ Some (state into (Some bank) 0)
begins into before bank count free = rw free refl

takes_head : (into : Words) (before : Option ℕ) (bank count : ℕ) → bank < banks → IsFree into bank 0
    → take_line (state into before count) (head bank) ≡ Some (state into (Some bank) 0)
unfolding take_line
takes_head into before bank count inside free =
    ap (take_fields (state into before count)) (fields_of_head bank)
    ∙ ap (begin_bank (state into before count)) (number_of_two bank (omega (arith, inside)))
    ∙ begins into before bank count (may_put into bank 0 inside (omega arith) (free 0 (omega arith)))

reads_bank : (words : Words) (bank n count : ℕ) (before : Option ℕ) (into : Words) (rest : List ℕ) → AreWords words → bank < banks
    → IsFree into bank 0
    → read_lines n (state into before count) (lines (bank_octals words bank ++ rest))
    ≡ read_lines (n + 1 + 128) (state (put_words into words bank 0 bank_words) (Some bank) bank_words) (lines rest)
unfolding bank_octals octal_words
reads_bank words bank n count before into rest few inside free =
    let more : List ℕ = flat_map (octal_word words bank) (range_with_len 0 bank_words) ++ rest in
    let text : bank_octals words bank ++ rest ≡ head bank ++ 10 ∷ more
    = append_assoc (bank_head bank) (flat_map (octal_word words bank) (range_with_len 0 bank_words)) rest ∙ head_is bank more in
    let line : lines (bank_octals words bank ++ rest) ≡ head bank ∷ lines more
    = ap lines text ∙ lines-ended (head bank) more (head_has_no_feed bank) in
    reads_next n (state into before count) (state into (Some bank) 0) _ (lines more) (head bank) line
    (takes_head into before bank count inside free)
    ∙ reads_rows words bank 128 bank_words 0 (n + 1) (n + 1 + 128) bank_words into rest few inside (omega arith) (omega arith) (omega arith)
    free refl (omega arith)

-- ## All banks
unfoldable pub put_banks : Words → Words → ℕ → ℕ → Words
put_banks into words b zero = into
put_banks into words b (suc k) = put_banks (put_words into words b 0 bank_words) words (b + 1) k

free_banks : (words into : Words) (b : ℕ) → ((c : ℕ) → b ≤ c → IsFree into c 0)
    → (c : ℕ) → b + 1 ≤ c → IsFree (put_words into words b 0 bank_words) c 0
free_banks words into b free c le p from =
    kept words b c p bank_words 0 into (omega arith) (inl (λ same. omega (arith, same, le))) ∙ free c (omega (arith, le)) p from

reads_banks : (words : Words) (k b n count : ℕ) (before : Option ℕ) (into : Words) → AreWords words → b + k ≤ banks
    → ((c : ℕ) → b ≤ c → IsFree into c 0)
    → read_lines n (state into before count) (lines (flat_map (bank_octals words) (range_with_len b k))) ≡ Ok (put_banks into words b k)
unfolding put_banks
reads_banks words zero b n count before into few le free = reads_none n (state into before count) _ (lines-none [] refl)
reads_banks words (suc k) b n count before into few le free =
    reads_bank words b n count before into (flat_map (bank_octals words) (range_with_len (b + 1) k)) few (omega (arith, le))
    (free b (omega arith))
    ∙ reads_banks words k (b + 1) (n + 1 + 128) bank_words (Some b) (put_words into words b 0 bank_words) few (omega (arith, le))
    (free_banks words into b free)

banks_kept : (words : Words) (k b c p : ℕ) (into : Words) → c < b → slot_at (put_banks into words b k) c p ≡ slot_at into c p
unfolding put_banks
banks_kept words zero b c p into lt = refl
banks_kept words (suc k) b c p into lt =
    banks_kept words k (b + 1) c p (put_words into words b 0 bank_words) (omega (arith, lt))
    ∙ kept words b c p bank_words 0 into (omega arith) (inl (λ same. omega (arith, same, lt)))

banks_there : (words : Words) (k b c p : ℕ) (into : Words) → b + k ≤ banks → b ≤ c → c < b + k → p < bank_words
    → slot_at (put_banks into words b k) c p ≡ Some (word_at words c p)
unfolding put_banks
banks_there words zero b c p into le from to lt = absurd (omega (arith, from, to))
banks_there words (suc k) b c p into le from to lt =
    elim (cases_eq c b) [
      | inl same ↦
          rw same (banks_kept words k (b + 1) b p (put_words into words b 0 bank_words) (omega arith)
          ∙ there words b p bank_words 0 into (omega (arith, le)) (omega arith) (omega arith) (omega (arith, lt)))
      | inr differs ↦
          banks_there words k (b + 1) c p (put_words into words b 0 bank_words) (omega (arith, le)) (omega (arith, from, differs))
          (omega (arith, to)) lt
    ]

pub reads_back : (words : Words) → AreWords words → ReadsBack words
reads_back words few =
    let same : (bank offset : ℕ) → bank < banks → offset < bank_words
    → slot_at (put_banks no_words words 0 banks) bank offset ≡ Some (word_at words bank offset)
    = λ bank offset inside lt. banks_there words banks 0 bank offset no_words (omega arith) (omega arith) (omega (arith, inside)) lt in
    record {
      given = put_banks no_words words 0 banks;
      taken = reads_banks words banks 0 0 0 None no_words few (omega arith) (λ c le p from. slot_at-no_words c p);
      same = same;
      images = λ version. same_fronts version (put_banks no_words words 0 banks) words
          (λ bank offset inside lt. rw (same bank offset inside lt) refl) fixed_places (omega arith);
    }
