-- A list stays where an element past its end is set.
use Rattle.std.proofs.Common.{◌≡◌, ◌≤◌, ℕ, Bool, List, length, set, sym}
use Rattle.std.proofs.Math.Seq.{set_out}

pub set_past : (marks : List Bool) (place : ℕ) (is : Bool) → length marks ≤ place → marks ≡ set marks place is
set_past marks place is past = sym (set_out marks place is past)
