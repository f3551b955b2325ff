-- States that an onlooker saw, one more.
use Rattle.std.proofs.Common.{◌≡◌, ℕ, suc, ◌+◌, arith}
use Rattle.cpu.specs.State.{State, Scenario}
use Rattle.cpu.specs.Run.{run}
use Rattle.replay.specs.Looked.{Looked}

pub looked_more : {L : Type 0} (sees : L → Scenario → State → L → Type 0) (scenario : Scenario) (m : ℕ) (old between new : L)
    (state : State) → Looked sees scenario m old between → state ≡ run scenario m → sees between scenario state new
    → Looked sees scenario (m + 1) old new
looked_more sees scenario m old between new state seen is more =
    let e : m + 1 ≡ suc m = omega arith in
    rw e (between, seen, rw is at more)
