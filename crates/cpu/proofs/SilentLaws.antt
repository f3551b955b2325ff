-- The reference run, many steps at once.
use Rattle.std.proofs.Common.{◌≡◌, ◌<◌, ◌≤◌, ◌+◌, ◌++◌, ◌^◌, ℕ, zero, suc, Option, None, add-one, append-nil, arith, ap, refl, sym, ◌∙◌}
use Rattle.std.proofs.Common.{inl, inr, ◌⊎◌}
use Rattle.std.specs.Option.{option_to_list}
use Rattle.cpu.specs.Next.{most_cycles, next}
use Rattle.cpu.specs.Run.{run, out, outs}
use Rattle.cpu.specs.Silent.{IsSilent}
use Rattle.cpu.specs.State.{FitsRun, Scenario, State}
use Rattle.cpu.specs.declared.output.Output.{Output}
use Rattle.cpu.proofs.RunLaws.{cycles-run, out-add-one, outs-add-one, run-add-one}
use Rattle.cpu.proofs.TakenLaws.{run-fits}

-- a machine that stands at a step of the run fits it, and has few cycles
pub few_at : (p : Scenario) (n : ℕ) (s : State) → s ≡ run p n → n ≤ 2 ^ 40 → s.cycles ≤ most_cycles
few_at p n s e h =
    let same = ap (λ (t : State). t.cycles) e in
    omega (arith, same, h, cycles-run p n)

pub fits_at : (p : Scenario) (n : ℕ) (s : State) → s ≡ run p n → FitsRun p s
fits_at p n s e = rw e (run-fits p n)

-- the step from there
pub state_next : (scenario : Scenario) (n : ℕ) (s t : State) (o : Option Output) → s ≡ run scenario n → (t, o) ≡ next scenario s
    → t ≡ run scenario (n + 1)
state_next scenario n s t o e h =
    ap (λ (p : State × Option Output). p.0) h ∙ ap (λ (u : State). (next scenario u).0) e ∙ sym (run-add-one scenario n)

pub out_next : (scenario : Scenario) (n : ℕ) (s t : State) (o : Option Output) → s ≡ run scenario n → (t, o) ≡ next scenario s
    → o ≡ out scenario (n + 1)
out_next scenario n s t o e h =
    ap (λ (p : State × Option Output). p.1) h ∙ ap (λ (u : State). (next scenario u).1) e ∙ sym (out-add-one scenario n)

pub silent_none : (scenario : Scenario) (n : ℕ) → IsSilent scenario n n
silent_none scenario n = λ k low high. absurd (omega (arith, low, high))

earlier_or_last : (k n : ℕ) → k ≤ n + 1 → (k ≤ n) ⊎ (k ≡ n + 1)
earlier_or_last k n h = grind arith

pub silent_more : (scenario : Scenario) (m n : ℕ) → IsSilent scenario m n → out scenario (n + 1) ≡ None → IsSilent scenario m (n + 1)
silent_more scenario m n before none = λ k low high. elim (earlier_or_last k n high) [
  | inl less ↦ before k low less
  | inr same ↦ rw same none
]

within_or_behind : (k m : ℕ) → (k ≤ m) ⊎ (m < k)
within_or_behind k m = grind arith

pub silent_then : (scenario : Scenario) (l m n : ℕ) → IsSilent scenario l m → IsSilent scenario m n → IsSilent scenario l n
silent_then scenario l m n before behind = λ k low high. elim (within_or_behind k m) [
  | inl within ↦ before k low within
  | inr after ↦ behind k after high
]

-- they add no output
pub silent_outs : (scenario : Scenario) (m n : ℕ) → m ≤ n → IsSilent scenario m n → outs scenario n ≡ outs scenario m
silent_outs scenario m zero h silent = let same : m ≡ 0 = omega (arith, h) in rw same refl
silent_outs scenario m (suc n) h silent = elim (earlier_or_last m n (omega (arith, h))) [
  | inl less ↦
      let none : out scenario (n + 1) ≡ None = silent (n + 1) (omega (arith, less)) (omega arith) in
      let before = silent_outs scenario m n less (λ k low high. silent k low (omega (arith, high))) in
      sym (ap (outs scenario) (add-one n)) ∙ outs-add-one scenario n ∙ ap (λ (o : Option Output). outs scenario n ++ option_to_list o) none
      ∙ append-nil (outs scenario n) ∙ before
  | inr same ↦ sym (ap (outs scenario) (same ∙ add-one n))
]
