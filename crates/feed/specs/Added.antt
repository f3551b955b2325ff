-- An input that is added to those of a feed.
use Rattle.std.specs.Prelude.{ℕ, ◌<◌, ◌≡◌, List, None, take}
use Rattle.feed.specs.Merged.{inserted}
use Rattle.feed.specs.Order.{IsAmong}
use Rattle.feed.specs.declared.entry.Entry.{Entry}
use Rattle.feed.specs.declared.input.Input.{Input}

-- each line is below this one
abbrev pub LinesBelow : List Entry → ℕ → Type 0
LinesBelow list line = (x : Entry) → IsAmong x list → x.line < line

-- each of the entries taken is below a cycle
abbrev pub TakenBelow : List Entry → ℕ → ℕ → Type 0
TakenBelow list taken cycle = (x : Entry) → IsAmong x (take taken list) → x.cycle < cycle

-- a plain input on a line
abbrev pub plain_on : ℕ → ℕ → Input → Entry
plain_on line cycle input = record { cycle = cycle; line = line; number = 0; input = input; series = None }

-- A plain input was added on a line after all others.
pub record AddsLast (old : List Entry) (cycle : ℕ) (input : Input) (new : List Entry) : Type 0 where
  pub line : ℕ
  pub after : LinesBelow old line
  pub new_is : new ≡ inserted (plain_on line cycle input) old
