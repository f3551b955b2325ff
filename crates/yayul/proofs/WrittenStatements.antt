-- What the lines of such a source say.
use Rattle.std.proofs.Common.{◌≡◌, ◌<◌, ◌≤◌, ◌+◌, ◌/◌, ◌%◌, ◌^◌, not, eqb, nat_le, ℕ, List, [], ◌∷◌, ◌++◌, length, take, drop, get_or, Some}
use Rattle.std.proofs.Common.{None, Bool, true, false, refl, arith, ◌∙◌, ap, sym, inl, inr}
use Rattle.std.specs.Prelude.{codes}
use Rattle.std.specs.List.{list_all, position_or_len}
use Rattle.std.proofs.lemmas.Bool.{cases_Bool}
use Rattle.std.proofs.lemmas.Bool.Decides.{nat_tests}
use Rattle.std.proofs.Math.Seq.{take-append_seam, drop-append_seam, take-length}
use Rattle.std.proofs.lemmas.List.{append-nil, length-append, get_or_append_left}
use Rattle.std.proofs.lemmas.List.Folds.{list_all-append}
use Rattle.std.specs.Option.{option_map}
use Rattle.words.specs.Numerals.{octal_text}
use Rattle.words.proofs.Digits.{length-octal_text}
use Rattle.agc_text.specs.Digits.{digits_value, is_digit}
use Rattle.agc_text.specs.Fields.{Piece, is_blank, before_comment, runs, texts, label_of, others_of}
use Rattle.agc_text.specs.Tables.{value_in}
use Rattle.agc_text.proofs.Splits.{texts-skip, texts-take}
use Rattle.yayul.specs.Operators.{operators, operator_rows}
use Rattle.yayul.specs.Forms.{statement_of, label_in, operation_in, operation_of, octal_in, number_in, greatest_number, is_marked_decimal}
use Rattle.yayul.specs.Language.{All, Bank, Constant, Gives, Is, Missing, Statement}
use Rattle.yayul.proofs.Octals.{octal_all, octal_number}

-- where the first byte that passes a test stands, after bytes that do not
past : (p : ℕ → Bool) (xs ys : List ℕ) → list_all (λ b. not (p b)) xs ≡ true
    → position_or_len p (xs ++ ys) ≡ length xs + position_or_len p ys
past p [] ys all = omega arith
past p (x ∷ xs) ys all =
    elim (cases_Bool (p x)) [
      | inl passes ↦ absurd (let never : false ≡ true = rw passes at all in cc)
      | inr fails ↦ (
          let rest : list_all (λ b. not (p b)) xs ≡ true = rw fails at all in
          let more = past p xs ys rest in
          rw fails (omega (arith, more)))
    ]

-- ## The fields
before_hash : (xs rest : List ℕ) → list_all (λ b. not (eqb b 0o43)) xs ≡ true → before_comment (xs ++ 0o43 ∷ rest) ≡ xs
before_hash xs rest all =
    let at : position_or_len (λ b. eqb b 0o43) (xs ++ 0o43 ∷ rest)
    ≡ length xs = past (λ b. eqb b 0o43) xs (0o43 ∷ rest) all ∙ omega arith in
    ap (λ n. take n (xs ++ 0o43 ∷ rest)) at ∙ take-append_seam xs (0o43 ∷ rest)

no_hash : (xs : List ℕ) → list_all (λ b. not (eqb b 0o43)) xs ≡ true → before_comment xs ≡ xs
no_hash xs all =
    let whole = past (λ b. eqb b 0o43) xs [] all in
    let at : position_or_len (λ b. eqb b 0o43) xs ≡ length xs = rw append-nil at whole ∙ omega arith in
    ap (λ n. take n xs) at ∙ take-length xs

-- a field alone, and what follows it
field_then : (xs t : List ℕ) → 0 < length xs → is_blank (get_or xs 0 0) ≡ false → list_all (λ b. not (is_blank b)) xs ≡ true
    → position_or_len is_blank t ≡ 0 → texts (runs t) ≡ [] → texts (runs (xs ++ t)) ≡ xs ∷ []
field_then xs t some first all blank none =
    let at : position_or_len is_blank (xs ++ t) ≡ length xs = past is_blank xs t all ∙ omega (arith, blank) in
    let long = length-append xs t in
    let head : is_blank (get_or (xs ++ t) 0 0) ≡ false = rw (get_or_append_left xs t 0 0 some) first in
    texts-take (xs ++ t) (length xs) (omega (arith, long, some)) head (sym at)
    ∙ rw (take-append_seam xs t, drop-append_seam xs t, none) refl

-- what some fields say
by_texts : (pieces : List Piece) (o : List ℕ) (rest : List (List ℕ)) → texts pieces ≡ o ∷ rest
    → operation_in pieces ≡ operation_of (value_in operators o) rest
by_texts [] o rest same = absurd (cc)
by_texts (p ∷ ps) o rest same = let first : p.text ≡ o = cc in let others : texts ps ≡ rest = cc in rw (first, others) refl

-- ## Octal numbers
blank_digit : (d : ℕ) → d < 8 → not (is_blank (48 + d)) ≡ true
blank_digit d lt = grind (arith, nat_tests)

hash_digit : (d : ℕ) → d < 8 → not (eqb (48 + d) 0o43) ≡ true
hash_digit d lt = grind (arith, nat_tests)

is_octal : (d : ℕ) → d < 8 → is_digit 8 (48 + d) ≡ true
is_octal d lt = grind (arith, nat_tests)

octal_value : (k n : ℕ) → 1 ≤ k → n < 8 ^ k → digits_value 8 (octal_text k n) ≡ Some n
octal_value k n some lt =
    let long : nat_le 1 (length (octal_text k n)) ≡ true = rw length-octal_text (grind (arith, nat_tests)) in
    rw (long, octal_all (is_digit 8) is_octal k n, octal_number k n lt) refl

word_is : (n : ℕ) → n < 8 ^ 5 → octal_in (octal_text 5 n) ≡ Is n
word_is n lt =
    let few : nat_le n greatest_number ≡ true = grind (arith, nat_tests) in
    rw (octal_value 5 n (omega arith) lt, few) refl

unmarked : (n : ℕ) → is_marked_decimal (octal_text 2 n) ≡ false
unfolding octal_text
unmarked n = let low : n % 8 < 8 = omega arith in grind (arith, nat_tests, low)

bank_is : (n : ℕ) → n < 8 ^ 2 → number_in (octal_text 2 n) ≡ Is n
bank_is n lt =
    let few : nat_le n greatest_number ≡ true = grind (arith, nat_tests) in
    rw (unmarked n, octal_value 2 n (omega arith) lt, few) refl

-- ## The lines
-- the line of a word, before its comment
abbrev word_front : ℕ → List ℕ
word_front word = codes "        OCT     " ++ octal_text 5 word ++ codes "   "

-- the line of a word, with a comment
abbrev pub word_text : ℕ → List ℕ → List ℕ
word_text word comment = word_front word ++ 0o43 ∷ comment

-- the line of a bank
abbrev pub bank_text : ℕ → List ℕ
bank_text bank = codes "        BANK    " ++ octal_text 2 bank

digit_stands : (d : ℕ) → d < 8 → is_blank (48 + d) ≡ false
digit_stands d lt = grind (arith, nat_tests)

no_bytes : texts (runs []) ≡ []
unfolding runs
no_bytes = refl

blanks_alone : texts (runs (codes "   ")) ≡ []
unfolding runs
blanks_alone = refl

five_blanks : (d : ℕ) (rest : List ℕ) → is_blank d ≡ false → 5 ≡ position_or_len (λ b. not (is_blank b)) (codes "     " ++ d ∷ rest)
five_blanks d rest stands = rw stands refl

four_blanks : (d : ℕ) (rest : List ℕ) → is_blank d ≡ false → 4 ≡ position_or_len (λ b. not (is_blank b)) (codes "    " ++ d ∷ rest)
four_blanks d rest stands = rw stands refl

word_fields : (word : ℕ) → texts (runs (word_front word)) ≡ codes "OCT" ∷ octal_text 5 word ∷ []
unfolding octal_text
word_fields word =
    let first : is_blank (48 + word / 8 / 8 / 8 / 8 % 8) ≡ false = digit_stands (word / 8 / 8 / 8 / 8 % 8) (omega arith) in
    texts-skip (word_front word) 8 refl
    ∙ texts-take (drop 8 (word_front word)) 3 (omega arith) refl refl
    ∙ ap (λ ts. codes "OCT" ∷ ts) (texts-skip (drop 11 (word_front word)) 5
    (five_blanks (48 + word / 8 / 8 / 8 / 8 % 8) (drop 1 (octal_text 5 word ++ codes "   ")) first)
    ∙ field_then (octal_text 5 word) (codes "   ") (omega arith) first (octal_all (λ b. not (is_blank b)) blank_digit 5 word) refl
    blanks_alone)

bank_fields : (bank : ℕ) → texts (runs (bank_text bank)) ≡ codes "BANK" ∷ octal_text 2 bank ∷ []
unfolding octal_text
bank_fields bank =
    let first : is_blank (48 + bank / 8 % 8) ≡ false = digit_stands (bank / 8 % 8) (omega arith) in
    texts-skip (bank_text bank) 8 refl
    ∙ texts-take (drop 8 (bank_text bank)) 4 (omega arith) refl refl
    ∙ ap (λ ts. codes "BANK" ∷ ts) (texts-skip (drop 12 (bank_text bank)) 4
    (four_blanks (48 + bank / 8 % 8) (drop 1 (octal_text 2 bank)) first)
    ∙ field_then (octal_text 2 bank) [] (omega arith) first (octal_all (λ b. not (is_blank b)) blank_digit 2 bank) refl no_bytes)

all_append : (p : ℕ → Bool) (xs ys : List ℕ) → list_all p xs ≡ true → list_all p ys ≡ true → list_all p (xs ++ ys) ≡ true
all_append p xs ys all others = list_all-append p xs ys ∙ rw (all, others) refl

word_front_plain : (word : ℕ) → list_all (λ b. not (eqb b 0o43)) (word_front word) ≡ true
word_front_plain word =
    all_append (λ b. not (eqb b 0o43)) (codes "        OCT     ") (octal_text 5 word ++ codes "   ") refl
    (all_append (λ b. not (eqb b 0o43)) (octal_text 5 word) (codes "   ") (octal_all (λ b. not (eqb b 0o43)) hash_digit 5 word) refl)

bank_plain : (bank : ℕ) → list_all (λ b. not (eqb b 0o43)) (bank_text bank) ≡ true
bank_plain bank = all_append (λ b. not (eqb b 0o43)) (codes "        BANK    ") (octal_text 2 bank) refl
    (octal_all (λ b. not (eqb b 0o43)) hash_digit 2 bank)

-- what some fields say as a line
abbrev said_by : List Piece → Statement
said_by pieces = record {
  label = label_in (option_map (λ piece. piece.text) (label_of pieces));
  operation = operation_in
      (others_of pieces);
}

word_without_label : (word : ℕ) → label_of (runs (word_front word)) ≡ None
unfolding runs octal_text
word_without_label word = refl

word_others : (word : ℕ) → others_of (runs (word_front word)) ≡ runs (word_front word)
unfolding runs octal_text
word_others word = refl

bank_without_label : (bank : ℕ) → label_of (runs (bank_text bank)) ≡ None
unfolding runs octal_text
bank_without_label bank = refl

bank_others : (bank : ℕ) → others_of (runs (bank_text bank)) ≡ runs (bank_text bank)
unfolding runs octal_text
bank_others bank = refl

octal_says : (text : List ℕ) (word : ℕ) → octal_in text ≡ Is word
    → operation_of (value_in operators (codes "OCT")) (text ∷ []) ≡ Gives (Some (Constant (Some word)))
unfolding operators operator_rows
octal_says text word is = rw is refl

bank_says : (text : List ℕ) (bank : ℕ) → number_in text ≡ Is bank
    → operation_of (value_in operators (codes "BANK")) (text ∷ []) ≡ Bank All (Is bank)
unfolding operators operator_rows
bank_says text bank is = ap (Bank All) is

pub word_said : (word : ℕ) (comment : List ℕ) → word < 8 ^ 5
    → statement_of (word_text word comment) ≡ record { label = Missing; operation = Gives (Some (Constant (Some word))) }
unfolding statement_of
word_said word comment lt =
    let operation : operation_in (others_of (runs (word_front word))) ≡ Gives (Some (Constant (Some word))) =
    ap operation_in (word_others word) ∙ by_texts (runs (word_front word)) (codes "OCT") (octal_text 5 word ∷ []) (word_fields word)
    ∙ octal_says (octal_text 5 word) word (word_is word lt) in
    ap (λ text. said_by (runs text)) (before_hash (word_front word) comment (word_front_plain word))
    ∙ (λ j. record { label = label_in (option_map (λ piece. piece.text) (word_without_label word j)); operation = operation j })

pub bank_said : (bank : ℕ) → bank < 8 ^ 2 → statement_of (bank_text bank) ≡ record { label = Missing; operation = Bank All (Is bank) }
unfolding statement_of
bank_said bank lt =
    let operation : operation_in (others_of (runs (bank_text bank))) ≡ Bank All (Is bank) =
    ap operation_in (bank_others bank) ∙ by_texts (runs (bank_text bank)) (codes "BANK") (octal_text 2 bank ∷ []) (bank_fields bank)
    ∙ bank_says (octal_text 2 bank) bank (bank_is bank lt) in
    ap (λ text. said_by (runs text)) (no_hash (bank_text bank) (bank_plain bank))
    ∙ (λ j. record { label = label_in (option_map (λ piece. piece.text) (bank_without_label bank j)); operation = operation j })
