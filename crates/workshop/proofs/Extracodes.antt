-- Assembler and machine agree on extracode: this is tested row by row, by computing.
use Rattle.std.proofs.Common.{◌≡◌, ℕ, List, [], ◌∷◌, Bool, true, false, not, ◌&&◌, ◌||◌, refl, ◌∙◌, ap, sym}
use Rattle.std.specs.List.{AllByRecursion, list_all}
use Rattle.std.proofs.lemmas.Bool.{and_parts}
use Rattle.cpu.specs.Codes.{Range, basic_rows, extracode_rows, code_of}
use Rattle.cpu.specs.Next.{extra_after, extracode_after}
use Rattle.cpu.specs.declared.instruction.Instruction.{Instruction}
use Rattle.yayul.specs.Laws.{GivesAlone, GivesWith, LeavesExtracode, instructions}
use Rattle.yayul.specs.Operators.{operators, operator_rows}
use Rattle.yayul.proofs.GivenWords.{Says, stands_alone, word_alone, extends_alone, stands_with, takes_number, kind_of, least_of, size_of}
use Rattle.yayul.proofs.GivenWords.{stays_with, gives_alone, leaves_alone, given_stands, gives_with, leaves_with}
use Rattle.workshop.specs.Laws.{is_own, IsAgreedAfter, AreAgreed}
use Rattle.workshop.proofs.OperatorTexts.{rows_are_right, row_of_given, either_way, where_it_stands}

abbrev same : Bool → Bool → Bool
same true b = b
same false b = not b

if_same : (a b : Bool) → same a b ≡ true → a ≡ b
if_same true true e = refl
if_same true false e = absurd (cc)
if_same false true e = absurd (cc)
if_same false false e = refl

-- a row's instruction leaves extracode in force as an operator with an operand does
abbrev leaves_alike : Says → Bool → Range → Bool
leaves_alike operator extracode r = same (stays_with operator extracode) (extra_after r.instruction extracode)

abbrev is_agreed_alone : Says → Bool → Bool
is_agreed_alone operator extracode =
    not (stands_alone operator extracode) || same (extends_alone operator) (extracode_after extracode (word_alone operator))

abbrev is_agreed_with : Says → Bool → Bool
is_agreed_with operator extracode =
    not (stands_with operator extracode)
    || (takes_number operator
    && rows_are_right extracode (kind_of operator) (least_of operator) (size_of operator extracode) (leaves_alike operator extracode))

abbrev is_agreed : Says → Bool
is_agreed operator =
    (is_agreed_alone operator false && is_agreed_alone operator true) && (is_agreed_with operator false && is_agreed_with operator true)

left_alone : (operator : Says) (extracode : Bool) (word : ℕ) → is_agreed_alone operator extracode ≡ true
    → GivesAlone operator extracode word → LeavesExtracode operator extracode (extracode_after extracode word)
left_alone operator extracode word e given =
    let g = gives_alone operator extracode word given in
    let after = extracode_after extracode (word_alone operator) in
    let alike = where_it_stands (stands_alone operator extracode) (same (extends_alone operator) after) e g.0 in
    leaves_alone operator extracode word (extracode_after extracode word) given
    (if_same (extends_alone operator) after alike ∙ ap (extracode_after extracode) (sym g.1))

left_with : (operator : Says) (extracode : Bool) (n word : ℕ) → is_agreed_with operator extracode ≡ true
    → GivesWith operator extracode n word → is_own extracode word ≡ false
    → LeavesExtracode operator extracode (extracode_after extracode word)
unfolding code_of
left_with operator extracode n word e given own =
    let kind = kind_of operator in
    let test = leaves_alike operator extracode in
    let right = rows_are_right extracode kind (least_of operator) (size_of operator extracode) test in
    let stands = given_stands operator extracode n word given in
    let both = and_parts (takes_number operator) right
    (where_it_stands (stands_with operator extracode) (takes_number operator && right) e stands) in
    let r = row_of_given extracode kind (least_of operator) (size_of operator extracode) test both.1 n word
    (gives_with operator extracode n word both.0 given) own in
    leaves_with operator extracode n word (extracode_after extracode word) given
    (if_same (stays_with operator extracode) (extra_after r.0.instruction extracode) r.1.1
    ∙ ap (λ (i : Instruction). extra_after i extracode) (sym r.1.0))

if_agreed : (operator : Says) → is_agreed operator ≡ true
    → IsAgreedAfter (GivesAlone operator) (GivesWith operator) (LeavesExtracode operator)
if_agreed operator e =
    let parts = and_parts (is_agreed_alone operator false && is_agreed_alone operator true)
    (is_agreed_with operator false && is_agreed_with operator true) e in
    record {
      alone = λ extracode word given.
          left_alone operator extracode word (either_way (is_agreed_alone operator) parts.0 extracode) given;
      with_number = λ extracode n word given own.
          left_with operator extracode n word (either_way (is_agreed_with operator) parts.1 extracode) given own;
    }

each_agreed : (rows : List (List ℕ × Says)) → list_all (λ row. is_agreed row.1) rows ≡ true
    → AllByRecursion (λ row. IsAgreedAfter (GivesAlone row.1) (GivesWith row.1) (LeavesExtracode row.1)) rows
each_agreed [] e = tt
each_agreed (row ∷ rows) e =
    let parts = and_parts (is_agreed row.1) (list_all (λ row. is_agreed row.1) rows) e in
    (if_agreed row.1 parts.0, each_agreed rows parts.1)

pub are_agreed : AreAgreed
unfolding operators operator_rows basic_rows extracode_rows code_of
are_agreed = each_agreed instructions refl
