-- What the low eight bits of Z alone tell of the breakpoints that may hold. These bits of an address are those of the place where
-- it leads. Only the contracts of the debugger's parts stand on this.
use Rattle.std.specs.Prelude.{◌≡◌, ℕ, ◌%◌, ◌<◌, ◌==◌, Bool, true, false, List, slice_index_or}
use Rattle.std.specs.List.{list_any}
use Rattle.space.specs.declared.place.Linear.{Linear}
use Rattle.space.specs.declared.place.Linear.TheVariants.{Erasable, Fixed}
use Rattle.commands.specs.declared.command.Breakpoint.{Breakpoint}
use Rattle.commands.specs.declared.command.Breakpoint.TheVariants.{Place, Word, Channel, Bits, Cycles, Returned, Outside, Executed, Changed}
use Rattle.debugger.specs.Stopping.{asks}

-- the low eight bits of the number of a place
abbrev pub low_bits : Linear → ℕ
low_bits (Erasable p) = p % 0o400
low_bits (Fixed bank offset) = offset % 0o400

-- a breakpoint may hold after a step before which, or after which, Z has these low bits
abbrev pub may_hold_at : ℕ → Breakpoint → Bool
may_hold_at low (Place place) = low_bits place == low
may_hold_at low (Word p w) = true
may_hold_at low (Channel c w) = true
may_hold_at low (Bits c w mask) = true
may_hold_at low (Cycles cycles) = true
may_hold_at low (Returned place inside) = low_bits place == low
may_hold_at low Outside = true
may_hold_at low (Executed place) = low_bits place == low
may_hold_at low (Changed subject) = true

-- the marks of some breakpoints: whether one of them asks what a step did, and by the low bits of Z whether one may hold
pub record AreMarks (breakpoints : List Breakpoint) (looks : Bool) (marks : List Bool) : Type 0 where
  pub looks_is : looks ≡ list_any asks breakpoints
  pub marked : (low : ℕ) → low < 0o400 → slice_index_or marks low false ≡ list_any (may_hold_at low) breakpoints
