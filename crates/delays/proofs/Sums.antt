-- The cycles of all causes add up to those of a run.
use Rattle.std.proofs.Common.{◌≡◌, ℕ, zero, suc, ◌+◌, ◌<◌, ◌≤◌, List, [], ◌∷◌, length, replicate, get_or, set, refl, sym, ap, ◌∙◌, arith}
use Rattle.std.proofs.lemmas.List.{length-replicate, length-set}
use Rattle.cpu.specs.Profiles.{step_cycles}
use Rattle.cpu.specs.Run.{run}
use Rattle.cpu.specs.State.{Scenario, start}
use Rattle.cpu.proofs.RunLaws.{rise-next}
use Rattle.delays.specs.Causes.{causes}
use Rattle.delays.specs.Spans.{cause_at, CyclesAddUp, spent_more, spents, sum_of}

pub length_spents : (scenario : Scenario) (n : ℕ) → length (spents scenario n) ≡ causes
unfolding spents
length_spents scenario zero = refl
length_spents scenario (suc n) = length-set (spents scenario n) (cause_at scenario n) _ ∙ length_spents scenario n

sum_more : (ks : List ℕ) (i d : ℕ) → i < length ks → sum_of (set ks i (get_or ks i 0 + d)) ≡ sum_of ks + d
sum_more [] i d lt = absurd (omega (arith, lt))
sum_more (k ∷ ks) zero d lt = omega arith
sum_more (k ∷ ks) (suc i) d lt = let rest = sum_more ks i d (omega (arith, lt)) in omega (arith, rest)

pub at_most_sum : (ks : List ℕ) (i : ℕ) → get_or ks i 0 ≤ sum_of ks
at_most_sum [] i = omega arith
at_most_sum (k ∷ ks) zero = omega arith
at_most_sum (k ∷ ks) (suc i) = let rest = at_most_sum ks i in omega (arith, rest)

pub adds_up : (scenario : Scenario) (n : ℕ) → ((t : ℕ) → t < n → cause_at scenario t < causes) → CyclesAddUp scenario n
unfolding spents run start
adds_up scenario zero known = refl
adds_up scenario (suc n) known =
    let before = adds_up scenario n (λ t lt. known t (omega (arith, lt))) in
    let here = known n (omega arith) in
    let long = length_spents scenario n in
    let more = sum_more (spents scenario n) (cause_at scenario n) (step_cycles scenario (run scenario n)) (omega (arith, here, long)) in
    let rise = rise-next scenario (run scenario n) in
    omega (arith, before, more, rise)
