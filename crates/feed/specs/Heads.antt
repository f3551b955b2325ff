-- The sources of a feed's inputs, and the first entry of each that was not taken.
use Rattle.std.specs.Prelude.{ℕ, zero, suc, true, ◌==◌, ◌||◌, ◌-◌, ◌<◌, ◌^◌, if◌then◌else◌, ◌≡◌, Bool, false, List, [], map, Option, Some}
use Rattle.std.specs.Prelude.{None, IfSome, is_some, ◌≤◌, slice_get, slice_index, sum, length, filter}
use Rattle.feed.specs.declared.entry.Entry.{Entry}
use Rattle.feed.specs.declared.entry.Plain.{Plain}
use Rattle.feed.specs.declared.entry.Series.{Series}
use Rattle.feed.specs.Merged.{plain_entry, cycle_of, entries_of, merged, is_before}
use Rattle.feed.specs.Order.{IsInOrder, IsAmong}

-- the entries of series j, where it stands
abbrev pub entries_at : ℕ → Option Series → List Entry
entries_at j None = []
entries_at j (Some s) = entries_of j s

-- the entries of a source: the plain inputs, or a series by its number
abbrev pub source : List Plain → List Series → Option ℕ → List Entry
source plain series None = map plain_entry plain
source plain series (Some j) = entries_at j (slice_get series j)

-- how many of a source's entries were taken
abbrev pub number_taken : ℕ → List ℕ → Option ℕ → ℕ
number_taken taken counts None = taken - sum counts
number_taken taken counts (Some j) = slice_index counts j

-- the first entry of a source that was not taken
abbrev pub head : List Plain → List Series → ℕ → List ℕ → Option ℕ → Option Entry
head plain series taken counts s = slice_get (source plain series s) (number_taken taken counts s)

-- where it stands, an entry is not before e
abbrev pub IsntBefore : Entry → Option Entry → Type 0
IsntBefore e None = Unit {0}
IsntBefore e (Some f) = is_before f e ≡ false

-- an entry is the head of its source and no other head is before it; or there is none, as there is no head
abbrev pub IsLeast : (Option ℕ → Option Entry) → Option Entry → Type 0
IsLeast heads None = (s : Option ℕ) → heads s ≡ None
IsLeast heads (Some e) = (heads e.series ≡ Some e) × ((s : Option ℕ) → IsntBefore e (heads s))

-- how many entries are before an entry; all of them, where it doesn't stand
abbrev pub number_before : Option Entry → List Entry → ℕ
number_before None list = length list
number_before (Some x) list = length (filter (λ e. is_before e x) list)

-- the entry before a place, where one stands
abbrev pub entry_before : List Entry → ℕ → Option Entry
entry_before list zero = None
entry_before list (suc k) = slice_get list k

-- the earlier of two entries that may stand
abbrev pub earlier : Option Entry → Option Entry → Option Entry
earlier None o = o
earlier (Some e) None = Some e
earlier (Some e) (Some f) = if is_before f e then Some f else Some e

-- the later of two entries that may stand
abbrev pub later : Option Entry → Option Entry → Option Entry
later None o = o
later (Some e) None = Some e
later (Some e) (Some f) = if is_before e f then Some f else Some e

-- an entry is before another, where both stand
abbrev pub passes : Option Entry → Option Entry → Bool
passes None o = true
passes (Some last) None = true
passes (Some last) (Some next) = is_before last next

-- an entry stands, where any were taken
abbrev pub stands : ℕ → Option Entry → Bool
stands number last = number == 0 || is_some last

-- an entry is not after another: where it stands, that stands too and is not before it
abbrev pub IsntAfter : Option Entry → Option Entry → Type 0
IsntAfter None o = Unit {0}
IsntAfter (Some e) None = ⊥
IsntAfter (Some e) (Some f) = is_before f e ≡ false

-- the last entry of a source that was taken
abbrev pub last_taken : List Plain → List Series → ℕ → List ℕ → Option ℕ → Option Entry
last_taken plain series taken counts s = entry_before (source plain series s) (number_taken taken counts s)

-- of a source as many entries stand as were taken, and the last of these is not after e
abbrev pub IsEnded : List Plain → List Series → ℕ → List ℕ → Option Entry → Option ℕ → Type 0
IsEnded plain series taken counts e s = (stands (number_taken taken counts s) (last_taken plain series taken counts s) ≡ true)
    × IsntAfter (last_taken plain series taken counts s) e

-- So many were taken in all as the counts add up to at least, and each source is ended by e.
pub record AreEnded (plain : List Plain) (series : List Series) (taken : ℕ) (counts : List ℕ) (e : Option Entry) : Type 0 where
  pub enough : sum counts ≤ taken
  pub ended : (s : Option ℕ) → IsEnded plain series taken counts e s

-- An entry is the head of its source, and no head of the plain inputs and the first n series is before it; or there is
-- none, as there is no such head.
abbrev pub IsLeastUpTo : ℕ → (Option ℕ → Option Entry) → Option Entry → Type 0
IsLeastUpTo n heads None = (heads None ≡ None) × ((j : ℕ) → j < n → heads (Some j) ≡ None)
IsLeastUpTo n heads (Some e) = (heads e.series ≡ Some e) × IsntBefore e (heads None) × ((j : ℕ) → j < n → IsntBefore e (heads (Some j)))

-- A rule of a series: no divisor is zero, and its cycles can be told.
pub record IsRule (s : Series) : Type 0 where
  pub first : s.first < 10 ^ 15
  pub num : s.num < 10 ^ 9
  pub den : 0 < s.den
  pub count : s.count < 10 ^ 9

-- What is kept of a series: the cycles of an entry and of the one before it.
pub record IsKept (s : Series) (place at before : ℕ) : Type 0 where
  pub rule : IsRule s
  pub cycle : at ≡ cycle_of s place
  pub last : before ≡ cycle_of s (place - 1)

-- Sources that may be merged: the plain inputs are in order, each series is by a rule, and a line tells the source.
pub record AreSources (plain : List Plain) (series : List Series) : Type 0 where
  pub plain_in_order : IsInOrder (map plain_entry plain)
  pub rules : (j : ℕ) → IfSome (slice_get series j) (λ s. IsRule s)
  pub lines_tell : (x y : Entry) → IsAmong x (merged plain series) → IsAmong y (merged plain series) → x.line ≡ y.line → x.series ≡ y.series
