-- A run that is made step by step: what a step asks of the state where it is made, and the state that it leads to.
use Rattle.std.proofs.Common.{◌≡◌, ℕ, ◌+◌, ◌^◌, ◌<◌, ◌≤◌, arith}
use Rattle.cpu.specs.Next.{next}
use Rattle.cpu.specs.Run.{run}
use Rattle.cpu.specs.State.{FitsRun, Scenario, State}
use Rattle.cpu.proofs.RunLaws.{cycles-run, run-add-one}
use Rattle.cpu.proofs.TakenLaws.{run-fits}

pub few_cycles : (scenario : Scenario) (n : ℕ) (s : State) → s ≡ run scenario n → n < 2 ^ 40 → s.cycles ≤ 2 ^ 62
few_cycles scenario n s is few = rw is (omega (arith, cycles-run scenario n))

pub fits_after : (scenario now : Scenario) (n : ℕ) (s : State) → now ≡ scenario → s ≡ run scenario n → FitsRun now s
fits_after scenario now n s same is = rw (same, is) (run-fits scenario n)

pub state_more : (scenario now : Scenario) (n : ℕ) (s t : State) → now ≡ scenario → s ≡ run scenario n → t ≡ (next now s).0
    → t ≡ run scenario (n + 1)
state_more scenario now n s t same is made = rw (run-add-one scenario n) (rw (same, is) at made)
