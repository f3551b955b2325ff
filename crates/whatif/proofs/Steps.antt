-- A run, step by step.
use Rattle.std.proofs.Common.{◌≡◌, ℕ, zero, suc, ◌+◌, ◌≤◌, true, false, ltb, refl, sym, ◌∙◌, add-one, arith}
use Rattle.std.proofs.lemmas.Bool.Decides.{nat_tests}
use Rattle.cpu.specs.Run.{run}
use Rattle.cpu.specs.State.{Scenario, State, start}
use Rattle.cpu.proofs.RunLaws.{run-zero}
use Rattle.whatif.specs.Looked.{More, looked, step_more}

pub looked_next : {A : Type 0} (begun : A) (more : More A) (from : ℕ) (scenario : Scenario) (n : ℕ) → from ≤ n
    → looked begun more from scenario (suc n) ≡ step_more more scenario (run scenario n) (looked begun more from scenario n)
unfolding looked
looked_next begun more from scenario n on = let late : ltb n from ≡ false = grind (arith, nat_tests, on) in rw late refl

looked_add_one : {A : Type 0} (begun : A) (more : More A) (from : ℕ) (scenario : Scenario) (n : ℕ) → from ≤ n
    → looked begun more from scenario (n + 1) ≡ step_more more scenario (run scenario n) (looked begun more from scenario n)
looked_add_one begun more from scenario n on = rw add-one (looked_next begun more from scenario n on)

pub looked_more : {A : Type 0} (begun : A) (more : More A) (from : ℕ) (scenario now : Scenario) (n : ℕ) (s : State) (a b : A) → from ≤ n
    → now ≡ scenario → s ≡ run scenario n → a ≡ looked begun more from scenario n → b ≡ step_more more now s a
    → b ≡ looked begun more from scenario (n + 1)
looked_more begun more from scenario now n s a b on same at_n of_n made = rw (looked_add_one begun more from scenario n on)
    (rw (same, at_n, of_n) at made)

-- before the first step that is looked at
none_yet : {A : Type 0} (begun : A) (more : More A) (from : ℕ) (scenario : Scenario) (n : ℕ) → n ≤ from
    → looked begun more from scenario n ≡ begun
unfolding looked
none_yet begun more from scenario zero early = refl
none_yet begun more from scenario (suc n) early = let before : ltb n from ≡ true = grind (arith, nat_tests, early) in rw before refl

pub looked_begins : {A : Type 0} (begun : A) (more : More A) (scenario : Scenario) (a : A) (from n : ℕ) → a ≡ begun → from ≡ n
    → a ≡ looked begun more from scenario n
looked_begins begun more scenario a from n is at = is ∙ sym (none_yet begun more from scenario n (omega (arith, at)))

pub run_zero : (scenario : Scenario) (s : State) (n : ℕ) → s ≡ start → n ≡ 0 → s ≡ run scenario n
run_zero scenario s n is none = rw none (is ∙ sym (run-zero scenario))
