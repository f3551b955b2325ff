-- A source of the words of some banks gives them.
use Rattle.std.proofs.Common.{◌≡◌, ◌<◌, ◌≤◌, ◌+◌, ◌*◌, ◌^◌, ◌==◌, ◌&&◌, eqb, nat_le, nat_lt, ℕ, zero, suc, List, [], ◌∷◌, ◌++◌, length, map}
use Rattle.std.proofs.Common.{Some, None, Ok, Bool, true, false, refl, arith, ◌∙◌, ap, sym, subst, inl, inr}
use Rattle.std.specs.Prelude.{flat_map, if◌then◌else◌}
use Rattle.std.specs.List.{list_all, list_any, range_with_len}
use Rattle.std.proofs.lemmas.Bool.{cases_eq}
use Rattle.std.proofs.lemmas.Bool.Decides.{nat_tests}
use Rattle.std.proofs.lemmas.List.{append-nil}
use Rattle.std.proofs.lemmas.List.Folds.{list_any-append}
use Rattle.std.proofs.lemmas.List.Sums.{fold-append}
use Rattle.std.proofs.lemmas.List.Concat.{flat_map-append}
use Rattle.agc_text.specs.Bytes.{is_text_byte, line_length}
use Rattle.agc_text.specs.Lines.{lines}
use Rattle.rope.specs.Places.{banks, bank_words, Words, Placed, place_number, no_words, with_words, slot_at, word_at}
use Rattle.rope.proofs.PlaceLaws.{slot_at-no_words, slot_at-with_word, with_words-append}
use Rattle.yayul.specs.Layout.{Request, Layout, start, stands_at, bank_end, text_faults, line_effect, statement_effect, line_faults}
use Rattle.yayul.specs.Layout.{layout_after, layout_faults, LineEffect}
use Rattle.yayul.specs.Words.{request_words, request_faults, word_faults}
use Rattle.yayul.specs.Program.{Program, program, placed}
use Rattle.yayul.specs.Language.{Language, Standard, Constant, Location, Statement}
use Rattle.yayul.proofs.Lines.{faultless_line}
use Rattle.yayul.proofs.WrittenStatements.{word_text, bank_text, word_said, bank_said}

-- a layout at a fixed place, without a symbol
abbrev pub at : ℕ → ℕ → List Request → Layout
at bank offset requests = record {
  language = Standard;
  location = Location.Fixed bank offset;
  symbols = [];
  promised = [];
  promises = [];
  requests = requests;
  extracode = false;
  eb = 0;
}

-- what the line of a word asks for
abbrev pub asked_word : ℕ → ℕ → ℕ → ℕ → Request
asked_word line bank offset word = record {
  line = line;
  bank = bank;
  offset = offset;
  content = Constant (Some word);
  extracode = false;
  eb
      = 0;
}

-- ## One line
-- a line that may stand in a source
pub record MayStand (line : ℕ) (text : List ℕ) : Type 0 where
  pub bytes : list_all is_text_byte text ≡ true
  pub short : length text ≤ 120
  pub early : line < 65537

no_text_faults : (line : ℕ) (language : Language) (text : List ℕ) → MayStand line text → language ≡ Standard
    → text_faults language line text ≡ []
no_text_faults line language text may standard = subst (λ (spoken : Language). text_faults spoken line text ≡ []) (sym standard) none
  where
    none : text_faults Standard line text ≡ []
    none =
        let short : nat_lt line_length (length text) ≡ false = grind (arith, nat_tests, may.short) in
        let early : eqb line 65537 ≡ false = grind (arith, nat_tests, may.early) in
        rw (may.bytes, short, early) refl

word_effect : (line bank offset word : ℕ) (rs : List Request) (comment : List ℕ) → word < 8 ^ 5 → offset < 0o2000
    → list_any (stands_at bank offset) rs ≡ false
    → line_effect line (at bank offset rs) (word_text word comment)
    ≡ record { faults = []; after = at bank (offset + 1) (rs ++ asked_word line bank offset word ∷ []) }
unfolding line_effect
word_effect line bank offset word rs comment lt within free =
    let room : nat_lt 0o2000 (offset + 1) ≡ false = grind (arith, nat_tests) in
    let here : nat_lt offset 0o2000 ≡ true = grind (arith, nat_tests) in
    ap (λ (said : Statement). statement_effect line (at bank offset rs) said.label said.operation) (word_said word comment lt)
    ∙ rw (room, here, free) refl

bank_effect : (line bank from offset : ℕ) (rs : List Request) → bank < banks → bank_end rs bank ≡ 0
    → line_effect line (at from offset rs) (bank_text bank) ≡ record { faults = []; after = at bank 0 rs }
unfolding line_effect
bank_effect line bank from offset rs lt end =
    let is : nat_lt bank banks ≡ true = grind (arith, nat_tests) in
    ap (λ (said : Statement). statement_effect line (at from offset rs) said.label said.operation) (bank_said bank (omega (arith, lt)))
    ∙ rw (is, end) refl

-- ## Requests
-- the words of the places from a first bank on, before a place, are asked for
pub record Reached (words : Words) (first q : ℕ) (rs : List Request) : Type 0 where
  pub faultless : word_faults [] rs ≡ []
  pub free : (b o : ℕ) → o < bank_words → q ≤ place_number b o → list_any (stands_at b o) rs ≡ false
  pub end : (b : ℕ) → q ≤ place_number b 0 → bank_end rs b ≡ 0
  pub given : (b o : ℕ) → b < banks → o < bank_words
      → slot_at (with_words no_words (flat_map (placed []) rs)) b o
      ≡ (if nat_le (place_number first 0) (place_number b o) && nat_lt (place_number b o) q then Some (word_at words b o) else None)

none_given : (first q b o : ℕ) (w : ℕ) → q ≤ place_number first 0
    → (if nat_le (place_number first 0) (place_number b o) && nat_lt (place_number b o) q then Some w else None) ≡ None
none_given first q b o w le = let fails : (nat_le (place_number first 0) (place_number b o) && nat_lt (place_number b o) q)
    ≡ false = grind (arith, nat_tests) in rw fails refl

pub reached_start : (words : Words) (first : ℕ) → Reached words first (place_number first 0) []
reached_start words first = record {
  faultless = refl;
  free = λ b o lt le. refl;
  end = λ b le. refl;
  given = λ b o lt within. slot_at-no_words b o ∙ sym (none_given first (place_number first 0) b o (word_at words b o) (omega arith));
}

request_placed : (line bank offset word : ℕ) → placed [] (asked_word line bank offset word)
    ≡ record { bank = bank; offset = offset; word = word } ∷ []
unfolding request_words
request_placed line bank offset word = refl

request_faultless : (line bank offset word : ℕ) → request_faults [] (asked_word line bank offset word) ≡ []
unfolding request_words request_faults
request_faultless line bank offset word = refl

-- the slot of a place after one word more
slot_more : (line bank offset word b o : ℕ) (rs : List Request) → bank < banks → offset < bank_words
    → slot_at (with_words no_words (flat_map (placed []) (rs ++ asked_word line bank offset word ∷ []))) b o
    ≡ (if b == bank && o == offset then Some word else slot_at (with_words no_words (flat_map (placed []) rs)) b o)
slot_more line bank offset word b o rs lt within =
    let p : Placed = record { bank = bank; offset = offset; word = word } in
    let more : flat_map (placed []) (rs ++ asked_word line bank offset word ∷ []) ≡ flat_map (placed []) rs ++ p ∷ [] =
    flat_map-append (placed []) rs (asked_word line bank offset word ∷ [])
    ∙ ap (λ ps. flat_map (placed []) rs ++ ps) (append-nil (placed [] (asked_word line bank offset word))
    ∙ request_placed line bank offset word) in
    ap (λ ps. slot_at (with_words no_words ps) b o) more
    ∙ ap (λ ws. slot_at ws b o) (with_words-append no_words (flat_map (placed []) rs) (p ∷ []))
    ∙ slot_at-with_word (with_words no_words (flat_map (placed []) rs)) bank offset word b o lt within

-- whether the word of a place is given
abbrev is_given : ℕ → ℕ → ℕ → ℕ → Bool
is_given first q b o = nat_le (place_number first 0) (place_number b o) && nat_lt (place_number b o) q

given_more : (words : Words) (first line bank offset b o : ℕ) (rs : List Request) → bank < banks → offset < bank_words → first ≤ bank
    → o < bank_words → Reached words first (place_number bank offset) rs → b < banks
    → slot_at (with_words no_words (flat_map (placed []) (rs ++ asked_word line bank offset (word_at words bank offset) ∷ []))) b o
    ≡ (if is_given first (place_number bank offset + 1) b o then Some (word_at words b o) else None)
given_more words first line bank offset b o rs lt within after inside before small =
    slot_more line bank offset (word_at words bank offset) b o rs lt within ∙ elim (cases_eq b bank) [
      | inl same ↦ elim (cases_eq o offset) [
        | inl here ↦ (
            let both : (eqb b bank && eqb o offset) ≡ true = grind (arith, nat_tests) in
            let test : is_given first (place_number bank offset + 1) b o ≡ true = grind (arith, nat_tests) in
            rw (both, test, same, here) refl)
        | inr there ↦ (
            let not_both : (eqb b bank && eqb o offset) ≡ false = grind (arith, nat_tests) in
            let test : is_given first (place_number bank offset + 1) b o
            ≡ is_given first (place_number bank offset) b o = grind (arith, nat_tests) in
            rw (not_both, test) (before.given b o small inside))
      ]
      | inr other ↦ (
          let not_both : (eqb b bank && eqb o offset) ≡ false = grind (arith, nat_tests) in
          let test : is_given first (place_number bank offset + 1) b o
          ≡ is_given first (place_number bank offset) b o = grind (arith, nat_tests) in
          rw (not_both, test) (before.given b o small inside))
    ]

pub reached_more : (words : Words) (first line bank offset : ℕ) (rs : List Request) → bank < banks → offset < bank_words → first ≤ bank
    → Reached words first (place_number bank offset) rs
    → Reached words first (place_number bank offset + 1) (rs ++ asked_word line bank offset (word_at words bank offset) ∷ [])
reached_more words first line bank offset rs lt within after before = record {
  faultless = flat_map-append _ rs (r ∷ []) ∙ rw (before.faultless, request_faultless line bank offset (word_at words bank offset)) refl;
  free = λ b o small le.
      let none : stands_at b o r ≡ false = grind (arith, nat_tests) in
      list_any-append (stands_at b o) rs (r ∷ []) ∙ rw (before.free b o small (omega (arith, le)), none) refl;
  end = λ b le.
      let other : eqb b bank ≡ false = grind (arith, nat_tests) in
      fold-append _ 0 rs (r ∷ []) ∙ rw (before.end b (omega (arith, le)), other) refl;
  given = λ b o small inside. given_more words first line bank offset b o rs lt within after inside before small;
}
  where
    r : Request
    r = asked_word line bank offset (word_at words bank offset)

-- ## Lines
-- a line without a fault
one_line : (line : ℕ) (s after : Layout) (text : List ℕ) (rest : List (List ℕ)) → MayStand line text → s.language ≡ Standard
    → line_effect line s text ≡ record { faults = []; after = after }
    → (layout_faults line s (text ∷ rest) ≡ layout_faults (line + 1) after rest)
    × (layout_after line s (text ∷ rest) ≡ layout_after (line + 1) after rest)
one_line line s after text rest may standard effect =
    let none : line_faults line s text ≡ [] = rw (no_text_faults line s.language text may standard)
    (ap (λ (e : LineEffect). e.faults) effect) in (
      faultless_line line s text rest none ∙ ap (λ (e : LineEffect). layout_faults (line + 1) e.after rest) effect,
      ap (λ (e : LineEffect). layout_after (line + 1) e.after rest) effect,
    )

-- the lines of a bank's words from an offset on, each with a comment
abbrev pub word_texts : Words → (ℕ → ℕ → List ℕ) → ℕ → ℕ → ℕ → List (List ℕ)
word_texts words comment bank offset n = map (λ o. word_text (word_at words bank o) (comment bank o)) (range_with_len offset n)

-- the lines of a bank
abbrev pub bank_texts : Words → (ℕ → ℕ → List ℕ) → ℕ → List (List ℕ)
bank_texts words comment bank = bank_text bank ∷ word_texts words comment bank 0 bank_words

-- each of its lines may stand in a source
pub record MayBeWritten (words : Words) (comment : ℕ → ℕ → List ℕ) : Type 0 where
  pub few : (b o : ℕ) → word_at words b o < 8 ^ 5
  pub bytes : (b o : ℕ) → list_all is_text_byte (word_text (word_at words b o) (comment b o)) ≡ true
  pub short : (b o : ℕ) → length (word_text (word_at words b o) (comment b o)) ≤ 120
  pub bank_bytes : (b : ℕ) → list_all is_text_byte (bank_text b) ≡ true
  pub bank_short : (b : ℕ) → length (bank_text b) ≤ 120

-- some lines are passed over, and the words up to a place are asked for
record Passes (words : Words) (first line : ℕ) (from : Layout) (texts : List (List ℕ)) (next q : ℕ) (rest : List (List ℕ)) : Type 0 where
  bank : ℕ
  offset : ℕ
  requests : List Request
  reached : Reached words first q requests
  faults : layout_faults line from texts ≡ layout_faults next (at bank offset requests) rest
  layout : layout_after line from texts ≡ layout_after next (at bank offset requests) rest

words_pass : (words : Words) (comment : ℕ → ℕ → List ℕ) (first bank : ℕ) → MayBeWritten words comment → bank < banks → first ≤ bank
    → (n line offset next : ℕ) (rs : List Request) (rest : List (List ℕ))
    → n + offset ≡ bank_words → next ≡ line + n → next ≤ 65537 → Reached words first (place_number bank offset) rs
    → Passes words first line (at bank offset rs) (word_texts words comment bank offset n ++ rest) next (place_number bank bank_words) rest
words_pass words comment first bank may lt after zero line offset next rs rest whole is most before =
    let same : next ≡ line = omega (arith, is) in
    let end : offset ≡ bank_words = omega (arith, whole) in
    record { bank = bank; offset = offset; requests = rs; reached = rw end at before; faults = rw same refl; layout = rw same refl }
words_pass words comment first bank may lt after (suc n) line offset next rs rest whole is most before =
    let word = word_at words bank offset in
    let texts = word_texts words comment bank (offset + 1) n ++ rest in
    let step = one_line line (at bank offset rs) (at bank (offset + 1) (rs ++ asked_word line bank offset word ∷ []))
    (word_text word (comment bank offset)) texts
    (record { bytes = may.bytes bank offset; short = may.short bank offset; early = omega (arith, is, most) }) refl
    (word_effect line bank offset word rs (comment bank offset) (may.few bank offset) (omega (arith, whole))
    (before.free bank offset (omega (arith, whole)) (omega arith))) in
    let more : place_number bank offset + 1 ≡ place_number bank (offset + 1) = omega arith in
    let later = words_pass words comment first bank may lt after n (line + 1) (offset + 1) next
    (rs ++ asked_word line bank offset word ∷ []) rest (omega (arith, whole)) (omega (arith, is)) most
    (rw more at (reached_more words first line bank offset rs lt (omega (arith, whole)) after before)) in
    record {
      bank = later.bank;
      offset = later.offset;
      requests = later.requests;
      reached = later.reached;
      faults = step.0
          ∙ later.faults;
      layout = step.1 ∙ later.layout;
    }

-- the lines of some banks, one after another
abbrev pub banks_texts : Words → (ℕ → ℕ → List ℕ) → ℕ → ℕ → List (List ℕ)
banks_texts words comment bank n = flat_map (bank_texts words comment) (range_with_len bank n)

banks_pass : (words : Words) (comment : ℕ → ℕ → List ℕ) (first : ℕ) → MayBeWritten words comment
    → (n bank line from offset next : ℕ) (rs : List Request)
    → n + bank ≤ banks → first ≤ bank → next ≡ line + 1025 * n → next ≤ 65537 → Reached words first (place_number bank 0) rs
    → Passes words first line (at from offset rs) (banks_texts words comment bank n) next (place_number (bank + n) 0) []
banks_pass words comment first may zero bank line from offset next rs few after is most before =
    let end : bank + 0 ≡ bank = omega arith in
    record { bank = from; offset = offset; requests = rs; reached = rw end before; faults = refl; layout = refl }
banks_pass words comment first may (suc n) bank line from offset next rs few after is most before =
    let rest = banks_texts words comment (bank + 1) n in
    let step = one_line line (at from offset rs) (at bank 0 rs) (bank_text bank) (word_texts words comment bank 0 bank_words ++ rest)
    (record { bytes = may.bank_bytes bank; short = may.bank_short bank; early = omega (arith, is, most) }) refl
    (bank_effect line bank from offset rs (omega (arith, few)) (before.end bank (omega arith))) in
    let middle : ℕ = line + 1 + bank_words in
    let here = words_pass words comment first bank may (omega (arith, few)) after bank_words (line + 1) 0 middle rs rest (omega arith) refl
    (omega (arith, is, most)) before in
    let place : place_number bank bank_words ≡ place_number (bank + 1) 0 = omega arith in
    let later = banks_pass words comment first may n (bank + 1) middle here.bank here.offset next here.requests (omega (arith, few))
    (omega (arith, after)) (omega (arith, is)) most (rw place at here.reached) in
    let end : bank + 1 + n ≡ bank + suc n = omega arith in
    record {
      bank = later.bank;
      offset = later.offset;
      requests = later.requests;
      reached = rw end at later.reached;
      faults = step.0 ∙ here.faults ∙ later.faults;
      layout = step.1 ∙ here.layout ∙ later.layout;
    }

-- ## The program
-- a source assembles, and the words of some banks stand in its program, and no others
pub record GivesBanks (words : Words) (first n : ℕ) (source : List ℕ) : Type 0 where
  pub given : Program
  pub assembles : program Standard source ≡ Ok given
  pub same : (b o : ℕ) → b < banks → o < bank_words
      → slot_at given.rope b o ≡ (if nat_le first b && nat_lt b (first + n) then Some (word_at words b o) else None)

pub gives_banks : (words : Words) (comment : ℕ → ℕ → List ℕ) (first n : ℕ) (source : List ℕ) → MayBeWritten words comment
    → n + first ≤ banks → lines source ≡ banks_texts words comment first n → GivesBanks words first n source
unfolding program
gives_banks words comment first n source may few whole =
    let passes = banks_pass words comment first may n first 1 2 0 (1 + 1025 * n) [] few (omega arith) refl (omega (arith, few))
    (reached_start words first) in
    let faults : layout_faults 1 (start Standard) (lines source) ≡ [] = rw whole passes.faults in
    let layout : layout_after 1 (start Standard) (lines source) ≡ at passes.bank passes.offset passes.requests = rw whole passes.layout in
    record {
      given = record {
        rope = with_words no_words (flat_map (placed []) passes.requests);
        symbols = [];
        source = record
            { language = Standard; text = source };
      };
      assembles = rw (faults, layout, passes.reached.faultless) refl;
      same = λ b o inside small.
          let test : is_given first (place_number (first + n) 0) b o
          ≡ (nat_le first b && nat_lt b (first + n)) = grind (arith, nat_tests) in
          passes.reached.given b o inside small ∙ rw test refl;
    }
