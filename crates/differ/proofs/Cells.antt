-- The first cell that is not the same.
use Rattle.std.proofs.Common.{◌≡◌, ℕ, zero, suc, ◌+◌, ◌-◌, ◌<◌, true, false, Option, Some, None, refl, arith, ap, ◌∙◌, add-one}
use Rattle.std.proofs.Common.{if◌then◌else◌}
use Rattle.std.specs.Option.{option_or}
use Rattle.space.specs.Cells.{Cells}
use Rattle.differ.specs.States.{first_cell, is_apart}

-- the cell of a number, where it is not the same
abbrev this : Cells → Cells → ℕ → Option ℕ
this here there n = if is_apart here there n then Some n else None

pub none_first : (here there : Cells) → first_cell here there 0 ≡ None
unfolding first_cell
none_first here there = refl

pub none_more : (here there : Cells) (n : ℕ) → first_cell here there n ≡ None → is_apart here there n ≡ false
    → first_cell here there (n + 1) ≡ None
unfolding first_cell
none_more here there n none away =
    rw (add-one n) (ap (λ (o : Option ℕ). option_or o (this here there n)) none ∙ ap (λ b. if b then Some n else None) away)

found_later : (here there : Cells) (n k m : ℕ) → m ≡ suc (n + k) → first_cell here there n ≡ None → is_apart here there n ≡ true
    → first_cell here there m ≡ Some n
unfolding first_cell
found_later here there n zero m e none found =
    let last : m ≡ suc n = omega (arith, e) in
    rw last (ap (λ (o : Option ℕ). option_or o (this here there n)) none ∙ ap (λ b. if b then Some n else None) found)
found_later here there n (suc k) m e none found =
    let last : m ≡ suc (suc (n + k)) = omega (arith, e) in
    rw last (ap (λ (o : Option ℕ). option_or o (this here there (suc (n + k)))) (found_later here there n k (suc (n + k)) refl none found))

pub first_found : (here there : Cells) (n count : ℕ) → n < count → first_cell here there n ≡ None → is_apart here there n ≡ true
    → first_cell here there count ≡ Some n
first_found here there n count lt none found = found_later here there n (count - suc n) count (omega (arith, lt)) none found

pub ruleset first_steps = (first_found, none_first, none_more)
