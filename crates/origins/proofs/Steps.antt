-- A run, step by step.
use Rattle.std.proofs.Common.{◌≡◌, ℕ, ◌+◌, ◌^◌, ◌<◌, ◌≤◌, Option, None, refl, sym, ap, ◌∙◌, add-one, arith}
use Rattle.cpu.specs.Next.{next}
use Rattle.cpu.specs.Run.{run}
use Rattle.cpu.specs.State.{FitsRun, Scenario, State, start}
use Rattle.cpu.proofs.RunLaws.{cycles-run, run-add-one, run-zero}
use Rattle.cpu.proofs.TakenLaws.{run-fits}
use Rattle.origins.specs.Served.{served, served_after, served_then}
use Rattle.origins.specs.Walks.{IsOfRun}
use Rattle.origins.specs.declared.image.Image.{Image}

pub few_cycles : (scenario : Scenario) (n : ℕ) (s : State) → s ≡ run scenario n → n < 2 ^ 40 → s.cycles ≤ 2 ^ 62
few_cycles scenario n s is few = rw is (omega (arith, cycles-run scenario n))

pub fits_after : (scenario : Scenario) (n : ℕ) (s : State) → s ≡ run scenario n → FitsRun scenario s
fits_after scenario n s is = rw is (run-fits scenario n)

pub state_more : (scenario : Scenario) (n : ℕ) (s t : State) → s ≡ run scenario n → t ≡ (next scenario s).0 → t ≡ run scenario (n + 1)
state_more scenario n s t is made = rw (run-add-one scenario n) (rw is at made)

-- what is served after a step more
pub served_more : (scenario : Scenario) (n : ℕ) (s t : State) (k : Option ℕ) → s ≡ run scenario n → t ≡ run scenario (n + 1)
    → k ≡ served scenario n → served_after t.inside (served_then scenario s k) ≡ served scenario (n + 1)
unfolding served
served_more scenario n s t k at_n after is = rw (at_n, after, is, add-one) refl

pub begins : (scenario : Scenario) (image : Image) → image.machine ≡ start → image.served ≡ None → image.step ≡ 0 → IsOfRun scenario image
unfolding served
begins scenario image machine none zeroth = record {
  machine = machine ∙ sym (run-zero scenario) ∙ ap (run scenario) (sym zeroth);
  served = none ∙ ap (served scenario) (sym zeroth);
}
