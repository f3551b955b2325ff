-- Each word lies in exactly one row of each code table.
use Rattle.std.proofs.Common.{◌≡◌, ◌≤◌, ◌<◌, ◌+◌, ◌^◌, ℕ, List, [], ◌∷◌, Bool, true, false, refl, arith, rules, ◌%◌, ◌&&◌, eqb, leb, filter}
use Rattle.std.proofs.Common.{length, ⊎_elim}
use Rattle.std.proofs.lemmas.Bool.{leb-true, eqb-true, cases_lt}
use Rattle.std.proofs.lemmas.Bool.Decides.{nat_tests}
use Rattle.cpu.specs.declared.instruction.Instruction.{Instruction}
use Rattle.cpu.specs.Codes.{Range, basic_rows, extracode_rows, serves, rows_serving, row_of, operand_of}
use Rattle.cpu.specs.Next.{written_by}

-- rows that follow one another from a number to the greatest word
abbrev tiles : ℕ → List Range → Bool
tiles from [] = eqb from (2 ^ 15)
tiles from (r ∷ rs) = eqb r.least from && (leb from r.greatest && tiles (r.greatest + 1) rs)

pub first_part : (b c : Bool) → (b && c) ≡ true → b ≡ true
first_part true c e = refl
first_part false c e = e

pub second_part : (b c : Bool) → (b && c) ≡ true → c ≡ true
second_part true c e = e
second_part false c e = absurd (cc)

-- rows further on serve no word
none : (from : ℕ) (rs : List Range) (word : ℕ) → tiles from rs ≡ true → word < from → length (filter (serves word) rs) ≡ 0
none from [] word t lt = refl
none from (r ∷ rs) word t lt =
    let least : eqb r.least from ≡ true = first_part _ _ t in
    let rest = second_part (eqb r.least from) _ t in
    let order : leb from r.greatest ≡ true = first_part _ _ rest in
    let more : tiles (r.greatest + 1) rs ≡ true = second_part (leb from r.greatest) _ rest in
    let at : r.least ≡ from = eqb-true _ _ least in
    let below : from ≤ r.greatest = leb-true _ _ order in
    let no : serves word r ≡ false = grind (arith, nat_tests) in
    let later : length (filter (serves word) rs) ≡ 0 = none (r.greatest + 1) rs word more (omega arith) in
    rw no later

-- rows from below a word serve it once
one : (from : ℕ) (rs : List Range) (word : ℕ) → tiles from rs ≡ true → from ≤ word → word < 2 ^ 15
    → length (filter (serves word) rs) ≡ 1
one from [] word t low high = let at : from ≡ 2 ^ 15 = eqb-true _ _ t in absurd (omega arith)
one from (r ∷ rs) word t low high =
    let least : eqb r.least from ≡ true = first_part _ _ t in
    let rest = second_part (eqb r.least from) _ t in
    let more : tiles (r.greatest + 1) rs ≡ true = second_part (leb from r.greatest) _ rest in
    let at : r.least ≡ from = eqb-true _ _ least in
    ⊎_elim
    (λ (after : r.greatest < word).
    let no : serves word r ≡ false = grind (arith, nat_tests) in
    rw no (one (r.greatest + 1) rs word more (omega arith) high))
    (λ (here : word ≤ r.greatest).
    let yes : serves word r ≡ true = grind (arith, nat_tests) in
    let later : length (filter (serves word) rs) ≡ 0 = none (r.greatest + 1) rs word more (omega arith) in
    rw yes (omega (arith, later)))
    (cases_lt r.greatest word)

basic_tiles : tiles 0 basic_rows ≡ true
unfolding basic_rows
basic_tiles = refl

extracode_tiles : tiles 0 extracode_rows ≡ true
unfolding extracode_rows
extracode_tiles = refl

pub one_row : (extracode : Bool) (word : ℕ) → word < 2 ^ 15 → rows_serving extracode word ≡ 1
unfolding rows_serving
one_row false word high = one 0 basic_rows word basic_tiles (omega arith) high
one_row true word high = one 0 extracode_rows word extracode_tiles (omega arith) high

-- the operand of what puts out is a channel
pub written_operand : (instruction : Instruction) (word : ℕ)
    → written_by (row_of instruction).role (word % 2 ^ 9) ≡ written_by (row_of instruction).role (operand_of instruction word)
written_operand instruction word = search rules
