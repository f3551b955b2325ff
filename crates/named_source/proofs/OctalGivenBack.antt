-- A source that fixed memory was written as gives its words.
use Rattle.std.proofs.Common.{◌≡◌, ◌<◌, ◌≤◌, ◌+◌, ◌&&◌, nat_le, nat_lt, ℕ, zero, suc, List, [], ◌∷◌, ◌++◌, length, Option, Some, None, true}
use Rattle.std.proofs.Common.{false, refl, arith, ◌∙◌, ap, sym, append_assoc, length-append, inl, inr}
use Rattle.std.specs.Prelude.{codes}
use Rattle.std.specs.List.{list_all, range_with_len, flat_map}
use Rattle.std.proofs.lemmas.List.{append-nil}
use Rattle.std.proofs.lemmas.Bool.{cases_Bool}
use Rattle.std.proofs.lemmas.Bool.Decides.{nat_tests}
use Rattle.words.specs.Numerals.{octal_text}
use Rattle.words.proofs.Digits.{length-octal_text}
use Rattle.space.specs.Places.{window}
use Rattle.space.specs.declared.place.Linear.TheVariants.{Fixed}
use Rattle.agc_text.specs.Bytes.{is_text_byte, line_feed}
use Rattle.agc_text.specs.Lines.{lines, HasNoFeed}
use Rattle.agc_text.proofs.LineLaws.{lines-ended, lines-none}
use Rattle.rope.specs.Places.{banks, bank_words, Words, word_at}
use Rattle.audit.specs.WordLines.{place_text, instruction_at, extracode_at}
use Rattle.audit.specs.SourceLines.{bank_line, octal_line, octal_lines, bank_source, source_text}
use Rattle.yayul.proofs.WrittenStatements.{word_text, bank_text}
use Rattle.yayul.proofs.WrittenWords.{word_texts, bank_texts, banks_texts, MayBeWritten, GivesBanks, gives_banks}
use Rattle.named_source.specs.GivenBack.{AreWords, IsBank, is_written, GivesBack}
use Rattle.named_source.proofs.Bytes.{text_append, octal_is_text, instruction_is_text, instruction_is_short}

-- the comment of a word's line
abbrev comment_of : Words → ℕ → ℕ → List ℕ
comment_of words bank offset = codes " " ++ place_text bank offset ++ codes " " ++ instruction_at words bank offset

-- a line as text holds no line feed
no_feed : (xs : List ℕ) → list_all is_text_byte xs ≡ true → HasNoFeed xs
no_feed [] all = tt
no_feed (x ∷ xs) all = elim (cases_Bool (is_text_byte x)) [
  | inl passes ↦ (λ same. (let never : false ≡ true = rw same at passes in cc), no_feed xs (rw passes at all))
  | inr fails ↦ absurd (let never : false ≡ true = rw fails at all in cc)
]

-- ## The bytes of the lines
place_is_text : (bank offset : ℕ) → list_all is_text_byte (place_text bank offset) ≡ true
unfolding place_text
place_is_text bank offset =
    text_append (octal_text 2 bank ++ codes ",") (octal_text 4 (window (Fixed bank offset)))
    (text_append (octal_text 2 bank) (codes ",") (octal_is_text 2 bank) refl)
    (octal_is_text 4 (window (Fixed bank offset)))

place_long : (bank offset : ℕ) → length (place_text bank offset) ≡ 7
unfolding place_text
place_long bank offset =
    let high = length-octal_text 2 bank in
    let low = length-octal_text 4 (window (Fixed bank offset)) in
    let front = length-append (octal_text 2 bank) (codes ",") in
    length-append (octal_text 2 bank ++ codes ",") (octal_text 4 (window (Fixed bank offset))) ∙ omega (arith, high, low, front)

comment_is_text : (words : Words) (bank offset : ℕ) → list_all is_text_byte (comment_of words bank offset) ≡ true
unfolding instruction_at
comment_is_text words bank offset =
    text_append (codes " " ++ place_text bank offset ++ codes " ") (instruction_at words bank offset)
    (text_append (codes " " ++ place_text bank offset) (codes " ")
    (text_append (codes " ") (place_text bank offset) refl (place_is_text bank offset)) refl)
    (instruction_is_text (extracode_at words bank offset) (word_at words bank offset))

comment_short : (words : Words) (bank offset : ℕ) → length (comment_of words bank offset) ≤ 19
unfolding instruction_at
comment_short words bank offset =
    let place = place_long bank offset in
    let instruction : length (instruction_at words bank offset)
    ≤ 10 = instruction_is_short (extracode_at words bank offset) (word_at words bank offset) in
    let first = length-append (codes " ") (place_text bank offset) in
    let front = length-append (codes " " ++ place_text bank offset) (codes " ") in
    let long = length-append (codes " " ++ place_text bank offset ++ codes " ") (instruction_at words bank offset) in
    omega (arith, place, instruction, first, front, long)

front_is_text : (word : ℕ) → list_all is_text_byte (codes "        OCT     " ++ octal_text 5 word ++ codes "   ") ≡ true
front_is_text word = text_append (codes "        OCT     " ++ octal_text 5 word) (codes "   ")
    (text_append (codes "        OCT     ") (octal_text 5 word) refl (octal_is_text 5 word)) refl

front_long : (word : ℕ) → length (codes "        OCT     " ++ octal_text 5 word ++ codes "   ") ≡ 24
front_long word =
    let digits = length-octal_text 5 word in
    let front = length-append (codes "        OCT     ") (octal_text 5 word) in
    length-append (codes "        OCT     " ++ octal_text 5 word) (codes "   ") ∙ omega (arith, digits, front)

may_be_written : (words : Words) → AreWords words → MayBeWritten words (comment_of words)
may_be_written words few = record {
  few = λ b o. few b o;
  bytes = λ b o. text_append (codes "        OCT     " ++ octal_text 5 (word_at words b o) ++ codes "   ") (0o43 ∷ comment_of words b o)
      (front_is_text (word_at words b o)) (comment_is_text words b o);
  short = λ b o.
      let comment = comment_short words b o in
      let front = front_long (word_at words b o) in
      let long = length-append (codes "        OCT     " ++ octal_text 5 (word_at words b o) ++ codes "   ") (0o43 ∷ comment_of words b o)
      in
      omega (arith, comment, front, long);
  bank_bytes = λ b. text_append (codes "        BANK    ") (octal_text 2 b) refl (octal_is_text 2 b);
  bank_short = λ b. let digits = length-octal_text 2 b in let long = length-append (codes "        BANK    ") (octal_text 2 b) in omega
      (arith, digits, long);
}

-- ## The lines of the text
join : (P d B C p S i N : List ℕ) → P ++ d ++ (B ++ C) ++ p ++ S ++ i ++ N ≡ (P ++ d ++ B) ++ ((C ++ p) ++ S ++ i) ++ N
join P d B C p S i N = simp append_assoc

-- a line that a line feed ends is the line of a word
octal_line_is : (words : Words) (bank offset : ℕ)
    → octal_line words bank offset ≡ word_text (word_at words bank offset) (comment_of words bank offset) ++ line_feed ∷ []
unfolding octal_line
octal_line_is words bank offset =
    join (codes "        OCT     ") (octal_text 5 (word_at words bank offset)) (codes "   ") (codes "# ") (place_text bank offset)
    (codes " ") (instruction_at words bank offset) (line_feed ∷ [])

bank_line_is : (bank : ℕ) → bank_line bank ≡ bank_text bank ++ line_feed ∷ []
unfolding bank_line
bank_line_is bank = refl

-- a line first, and what follows it
line_then : (line rest : List ℕ) → list_all is_text_byte line ≡ true → lines ((line ++ line_feed ∷ []) ++ rest) ≡ line ∷ lines rest
line_then line rest all = ap lines (append_assoc line (line_feed ∷ []) rest) ∙ lines-ended line rest (no_feed line all)

words_lines : (words : Words) (bank : ℕ) → AreWords words → (n offset : ℕ) (rest : List ℕ)
    → lines (flat_map (octal_line words bank) (range_with_len offset n) ++ rest)
    ≡ word_texts words (comment_of words) bank offset n ++ lines rest
words_lines words bank few zero offset rest = refl
words_lines words bank few (suc n) offset rest =
    let more = flat_map (octal_line words bank) (range_with_len (offset + 1) n) in
    ap lines (append_assoc (octal_line words bank offset) more rest)
    ∙ ap (λ line. lines (line ++ (more ++ rest))) (octal_line_is words bank offset)
    ∙ line_then (word_text (word_at words bank offset) (comment_of words bank offset)) (more ++ rest)
    ((may_be_written words few).bytes bank offset)
    ∙ ap (λ ls. word_text (word_at words bank offset) (comment_of words bank offset) ∷ ls) (words_lines words bank few n (offset + 1) rest)

bank_lines_are : (words : Words) (bank : ℕ) (rest : List ℕ) → AreWords words
    → lines (bank_source words bank ++ rest) ≡ bank_texts words (comment_of words) bank ++ lines rest
unfolding bank_source octal_lines
bank_lines_are words bank rest few =
    ap lines (append_assoc (bank_line bank) (octal_lines words bank) rest)
    ∙ ap (λ line. lines (line ++ (octal_lines words bank ++ rest))) (bank_line_is bank)
    ∙ line_then (bank_text bank) (octal_lines words bank ++ rest) ((may_be_written words few).bank_bytes bank)
    ∙ ap (λ ls. bank_text bank ∷ ls) (words_lines words bank few bank_words 0 rest)

banks_lines : (words : Words) → AreWords words → (n bank : ℕ)
    → lines (flat_map (bank_source words) (range_with_len bank n)) ≡ banks_texts words (comment_of words) bank n
banks_lines words few zero bank = lines-none [] refl
banks_lines words few (suc n) bank =
    bank_lines_are words bank (flat_map (bank_source words) (range_with_len (bank + 1) n)) few
    ∙ ap (λ ls. bank_texts words (comment_of words) bank ++ ls) (banks_lines words few n (bank + 1))

-- ## The law
back : (words : Words) (bank : Option ℕ) (first n : ℕ) (source : List ℕ) → GivesBanks words first n source
    → ((b : ℕ) → b < banks → (nat_le first b && nat_lt b (first + n)) ≡ is_written bank b) → GivesBack words bank source
back words bank first n source gives which = record {
  given = gives.given;
  assembles = gives.assembles;
  same = λ b o inside small. gives.same b o inside small ∙ rw (which b inside) refl;
}

-- the source of all banks gives their words
pub all_given : (words : Words) → AreWords words → GivesBanks words 0 banks (source_text words None)
all_given words few = gives_banks words (comment_of words) 0 banks (source_text words None) (may_be_written words few) (omega arith)
    (banks_lines words few banks 0)

pub given_back : (words : Words) (bank : Option ℕ) → AreWords words → IsBank bank → GivesBack words bank (source_text words bank)
given_back words None few is =
    back words None 0 banks (source_text words None) (all_given words few) (λ b lt. grind (arith, nat_tests))
given_back words (Some bank) few is =
    let one : flat_map (bank_source words) (range_with_len bank 1) ≡ bank_source words bank = append-nil (bank_source words bank) in
    let whole : lines (bank_source words bank) ≡ banks_texts words (comment_of words) bank 1 = ap lines (sym one)
    ∙ banks_lines words few 1 bank in
    back words (Some bank) bank 1 (bank_source words bank)
    (gives_banks words (comment_of words) bank 1 (bank_source words bank) (may_be_written words few) (omega (arith, is)) whole)
    (λ b lt. grind (arith, nat_tests))
