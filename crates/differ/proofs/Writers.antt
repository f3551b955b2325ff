-- The last step that wrote a cell.
use Rattle.std.proofs.Common.{◌≡◌, ℕ, zero, suc, ◌+◌, Bool, Option, Some, None, refl, add-one, if◌then◌else◌}
use Rattle.cpu.specs.Links.{link, writes}
use Rattle.cpu.specs.Run.{run}
use Rattle.cpu.specs.State.{Scenario, State}
use Rattle.differ.specs.Causes.{last_writer}

pub none_wrote : (scenario : Scenario) (c : ℕ) → last_writer scenario c 0 ≡ None
unfolding last_writer
none_wrote scenario c = refl

one_more : (scenario : Scenario) (c n : ℕ)
    → last_writer scenario c (n + 1) ≡ (if writes (link scenario (run scenario n)) c then Some (n + 1) else last_writer scenario c n)
unfolding last_writer
one_more scenario c n = rw (add-one n) refl

-- after a step more
pub wrote_more : (scenario now : Scenario) (c n : ℕ) (s : State) (b : Bool) (last new : Option ℕ) → now ≡ scenario → s ≡ run scenario n
    → b ≡ writes (link now s) c → last ≡ last_writer scenario c n → new ≡ (if b then Some (n + 1) else last)
    → new ≡ last_writer scenario c (n + 1)
wrote_more scenario now c n s b last new same is writing before found =
    rw (one_more scenario c n, ← before, ← is, ← same, ← writing) found
