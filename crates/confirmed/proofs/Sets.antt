-- A list stays where an element past its end is set.
use Rattle.std.proofs.Common.{◌≡◌, ◌≤◌, ℕ, length, set, sym, Option}
use Rattle.std.proofs.Math.Seq.{set_out}
use Rattle.assumed.specs.declared.wording.Wording.{Wording}
use Rattle.confirmed.specs.Confirmed.{AssumedWords}

pub set_past : (held : AssumedWords) (place : ℕ) (wording : Option Wording) → length held ≤ place → held ≡ set held place wording
set_past held place wording past = sym (set_out held place wording past)
