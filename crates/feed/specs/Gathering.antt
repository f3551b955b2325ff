-- What the lines of a feed add to what the lines before them gave.
use Rattle.std.specs.Prelude.{◌≡◌, ℕ, ◌++◌, Option, None, Some, Result, Ok, Err, ⊤}
use Rattle.feed.specs.Feed.{plain_in, series_in, fault_after}
use Rattle.feed.specs.Heads.{IsRule}
use Rattle.feed.specs.Merged.{series_on}
use Rattle.feed.specs.declared.entry.Rule.{Rule}
use Rattle.feed.specs.declared.fault.FeedFault.{FeedFault}
use Rattle.feed.specs.declared.fault.FeedFault.TheVariants.{NoMemory, ReadFailed, BadLine, OutOfOrder, TooMany, WrongCounter, TooLong}
use Rattle.feed.specs.declared.fault.FeedFault.TheVariants.{TooManySeries}
use Rattle.feed.specs.declared.reading.Gathered.{Gathered}
use Rattle.feed.specs.declared.statement.Statement.{Statement}
use Rattle.feed.specs.declared.statement.Statement.TheVariants.{Nothing, Faulty, Gives, Repeats}

-- a rule is one of a series, whatever its line
abbrev pub IsRuled : Rule → Type 0
IsRuled rule = (line : ℕ) → IsRule (series_on line rule)

-- a rule that a line gives is one of a series
abbrev pub HasRule : Statement → Type 0
HasRule Nothing = Unit {0}
HasRule (Faulty fault) = Unit {0}
HasRule (Gives cycle input) = Unit {0}
HasRule (Repeats rule) = IsRuled rule

-- what is told of lines with this first fault: it, or that memory ran out
abbrev pub Tells : Option FeedFault → FeedFault → Type 0
Tells found NoMemory = ⊤
Tells found ReadFailed = ⊥
Tells found (BadLine line) = found ≡ Some (BadLine line)
Tells found (OutOfOrder line) = found ≡ Some (OutOfOrder line)
Tells found TooMany = found ≡ Some TooMany
Tells found (WrongCounter line) = found ≡ Some (WrongCounter line)
Tells found TooLong = ⊥
Tells found (TooManySeries line) = found ≡ Some (TooManySeries line)

-- A line without a fault was taken: what it gives stands after what the lines before it gave.
pub record TakesGood (old : Gathered) (said : Statement) (new : Gathered) : Type 0 where
  pub faultless : fault_after old.plain.items old.sources.items old.line said ≡ None
  pub plain : new.plain.items ≡ old.plain.items ++ plain_in old.line said
  pub series : new.sources.items ≡ old.sources.items ++ series_in old.line said

-- a line was taken, or its fault is told
abbrev pub TakesLine : Gathered → Statement → Gathered → Result (Unit {0}) FeedFault → Type 0
TakesLine old said new (Ok x) = TakesGood old said new
TakesLine old said new (Err fault) = Tells (fault_after old.plain.items old.sources.items old.line said) fault
