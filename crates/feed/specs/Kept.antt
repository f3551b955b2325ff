-- What a feed keeps.
use Rattle.std.specs.Prelude.{ℕ, ◌+◌, ◌-◌, ◌^◌, ◌<◌, ◌≤◌, ◌≡◌, List, length, slice_get, Option, None, Some, IfSome}
use Rattle.feed.specs.Added.{LinesBelow}
use Rattle.feed.specs.Feed.{most_inputs}
use Rattle.feed.specs.Heads.{AreSources}
use Rattle.feed.specs.Merged.{merged, due}
use Rattle.feed.specs.declared.entry.Entry.{Entry}
use Rattle.feed.specs.declared.entry.Plain.{Plain}
use Rattle.feed.specs.declared.entry.Series.{Series}

-- entry k is due at no cycle below this one
abbrev pub NoneDue : List Entry → ℕ → ℕ → Type 0
NoneDue list k cycle = (now : ℕ) → now < cycle → due list k now ≡ None

-- the cycle from which on an entry is due, or the greatest, where none stands
abbrev pub due_from : Option Entry → ℕ
due_from None = 2 ^ 64 - 1
due_from (Some e) = e.cycle

-- Sources that were gathered: they may be merged, they are few, and all their lines are below one.
pub record AreGathered (plain : List Plain) (series : List Series) (line : ℕ) : Type 0 where
  pub sources : AreSources plain series
  pub plainly : length plain ≤ most_inputs
  pub few : length series ≤ 16
  pub lines : LinesBelow (merged plain series) line

-- The place after all plain inputs that are due no later than a cycle.
pub record IsPlaceOf (plain : List Plain) (cycle place : ℕ) : Type 0 where
  pub within : place ≤ length plain
  pub before : (k : ℕ) → (q : Plain) → k < place → slice_get plain k ≡ Some q → q.cycle ≤ cycle
  pub after : (q : Plain) → slice_get plain place ≡ Some q → cycle < q.cycle

-- an entry, where it stands, is entry k
abbrev pub IsEntry : List Entry → ℕ → Option Entry → Type 0
IsEntry list k kept = IfSome kept (λ e. slice_get list k ≡ Some e)

-- What is kept beside the sources: where no entry is due, an entry, and a line after all lines.
pub record IsFeed (plain : List Plain) (series : List Series) (known cycle line : ℕ) (kept : Option Entry) : Type 0 where
  pub gathered : AreGathered plain series line
  pub none : NoneDue (merged plain series) known cycle
  pub next : IsEntry (merged plain series) known kept
  pub room : line ≤ 2 ^ 40 + length plain
