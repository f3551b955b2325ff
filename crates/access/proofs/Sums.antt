-- All counts add up to the reads and writes of a run.
use Rattle.std.proofs.Common.{◌≡◌, ℕ, zero, suc, ◌+◌, ◌<◌, ◌≤◌, ◌==◌, List, [], ◌∷◌, ◌++◌, length, refl, ap, ◌∙◌, inl, inr, arith}
use Rattle.std.proofs.Common.{if◌then◌else◌}
use Rattle.std.specs.List.{flat_map}
use Rattle.std.proofs.lemmas.Bool.Decides.{eqb_tells}
use Rattle.std.proofs.lemmas.List.{length-append}
use Rattle.cpu.specs.Links.{link, targets}
use Rattle.cpu.specs.NextStep.{next_step}
use Rattle.cpu.specs.Run.{run}
use Rattle.cpu.specs.State.{Scenario}
use Rattle.cover.specs.Tallies.{account_number}
use Rattle.access.specs.declared.view.View.TheVariants.{All}
use Rattle.access.specs.Accesses.{accesses, AccessesAddUp, account_in, read_cells, slot_count, slots, slots_after, slots_at}
use Rattle.access.specs.Accesses.{sum_below, times, times_in}
use Rattle.access.specs.Levels.{last_entered, level_by}
use Rattle.access.specs.Below.{AreBelow}

sum_of_sums : (f g : ℕ → ℕ) (n : ℕ) → sum_below (λ i. f i + g i) n ≡ sum_below f n + sum_below g n
sum_of_sums f g zero = refl
sum_of_sums f g (suc n) = let before = sum_of_sums f g n in omega (arith, before)

sum_of_none : (n : ℕ) → sum_below (λ i. 0) n ≡ 0
sum_of_none zero = refl
sum_of_none (suc n) = let before = sum_of_none n in omega (arith, before)

abbrev is_it : ℕ → ℕ → ℕ
is_it j i = if i == j then 1 else 0

-- a number that is not less stands nowhere below
sum_before : (j n : ℕ) → n ≤ j → sum_below (is_it j) n ≡ 0
sum_before j zero h = refl
sum_before j (suc n) h =
    let before = sum_before j n (omega (arith, h)) in
    elim (eqb_tells n j) [
      | inl same ↦ absurd (omega (arith, h, same.1))
      | inr apart ↦ rw apart.0 (omega (arith, before))
    ]

sum_of_one : (j n : ℕ) → j < n → sum_below (is_it j) n ≡ 1
sum_of_one j zero h = absurd (omega (arith, h))
sum_of_one j (suc n) h =
    elim (eqb_tells n j) [
      | inl same ↦ let before = sum_before j n (omega (arith, same.1)) in rw same.0 (omega (arith, before))
      | inr apart ↦ let before = sum_of_one j n (omega (arith, h, apart.1)) in rw apart.0 (omega (arith, before))
    ]

sum_of_times : (most : ℕ) (is : List ℕ) → AreBelow most is → sum_below (λ i. times_in i is) most ≡ length is
sum_of_times most [] below = sum_of_none most
sum_of_times most (j ∷ is) below =
    let first = sum_of_one j most below.0 in
    let rest = sum_of_times most is below.1 in
    let both = sum_of_sums (is_it j) (λ i. times_in i is) most in
    omega (arith, first, rest, both)

length_of_each : (level kind : ℕ) (number : ℕ) (cells : List ℕ) → length (flat_map (slots All number level kind) cells) ≡ length cells
length_of_each level kind number [] = refl
length_of_each level kind number (c ∷ cells) = ap suc (length_of_each level kind number cells)

length_at : (scenario : Scenario) (n : ℕ) → length (slots_at All scenario n)
    ≡ length (read_cells (link scenario (run scenario n))) + length (targets (link scenario (run scenario n)))
unfolding slots_after
length_at scenario n =
    let s = run scenario n in
    let step = next_step scenario s in
    let number = account_number (account_in step) in
    let level = level_by step s (last_entered scenario n) in
    let reads = flat_map (slots All number level 0) (read_cells (link scenario s)) in
    let writes = flat_map (slots All number level 1) (targets (link scenario s)) in
    let both : length (reads ++ writes) ≡ length reads + length writes = length-append reads writes in
    let first = length_of_each level 0 number (read_cells (link scenario s)) in
    let second = length_of_each level 1 number (targets (link scenario s)) in
    omega (arith, both, first, second)

pub add_up : (scenario : Scenario) (n : ℕ) → ((t : ℕ) → t < n → AreBelow (slot_count All) (slots_at All scenario t))
    → AccessesAddUp scenario n
unfolding times accesses
add_up scenario zero known = sum_of_none (slot_count All)
add_up scenario (suc n) known =
    let before = add_up scenario n (λ t lt. known t (omega (arith, lt))) in
    let here = sum_of_times (slot_count All) (slots_at All scenario n) (known n (omega arith)) in
    let both = sum_of_sums (times All scenario n) (λ i. times_in i (slots_at All scenario n)) (slot_count All) in
    let long = length_at scenario n in
    both ∙ ap (λ k. k + sum_below (λ i. times_in i (slots_at All scenario n)) (slot_count All)) before
    ∙ ap (λ k. accesses scenario n + k) (here ∙ long)
