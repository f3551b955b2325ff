-- The inputs of a run as one list, in order.
use Rattle.std.specs.Prelude.{ℕ, ◌+◌, ◌*◌, ◌/◌, Bool, ◌==◌, ◌&&◌, ◌||◌, nat_le, nat_lt, List, [], ◌∷◌, ◌++◌, map, Option, Some, None}
use Rattle.std.specs.Prelude.{if◌then◌else◌, slice_get}
use Rattle.std.specs.List.{range_with_len}
use Rattle.feed.specs.declared.input.Input.{Input}
use Rattle.feed.specs.declared.entry.Entry.{Entry}
use Rattle.feed.specs.declared.entry.Plain.{Plain}
use Rattle.feed.specs.declared.entry.Rule.{Rule}
use Rattle.feed.specs.declared.entry.Series.{Series}

-- a plain input as an entry
abbrev pub plain_entry : Plain → Entry
plain_entry p = record { cycle = p.cycle; line = p.line; number = 0; input = p.input; series = None }

-- a series by a rule, on a line
abbrev pub series_on : ℕ → Rule → Series
series_on line rule = record { line = line; first = rule.first; num = rule.num; den = rule.den; count = rule.count; input = rule.input }

-- the cycle of entry i of a series
abbrev pub cycle_of : Series → ℕ → ℕ
cycle_of s i = s.first + (i * s.num) / s.den

-- entry i of series j
abbrev pub series_entry : ℕ → Series → ℕ → Entry
series_entry j s i = record { cycle = cycle_of s i; line = s.line; number = i; input = s.input; series = Some j }

-- the entries of series j
unfoldable pub entries_of : ℕ → Series → List Entry
entries_of j s = map (series_entry j s) (range_with_len 0 s.count)

-- the entries of the series from number j on
unfoldable pub entries_from : ℕ → List Series → List Entry
entries_from j [] = []
entries_from j (s ∷ more) = entries_of j s ++ entries_from (j + 1) more

-- all entries
abbrev pub entries : List Plain → List Series → List Entry
entries plain series = map plain_entry plain ++ entries_from 0 series

-- an entry stands before another: by its cycle, then its line, then its number in its series
unfoldable pub is_before : Entry → Entry → Bool
is_before a b =
    nat_lt a.cycle b.cycle
    || (a.cycle == b.cycle && (nat_lt a.line b.line || (a.line == b.line && nat_lt a.number b.number)))

-- an entry at its place in a list in order
unfoldable pub inserted : Entry → List Entry → List Entry
inserted x [] = x ∷ []
inserted x (y ∷ ys) = if is_before y x then y ∷ inserted x ys else x ∷ y ∷ ys

-- entries in order
unfoldable pub in_order : List Entry → List Entry
in_order [] = []
in_order (x ∷ xs) = inserted x (in_order xs)

-- the inputs of a run: all entries in order
unfoldable pub merged : List Plain → List Series → List Entry
merged plain series = in_order (entries plain series)

-- what an entry gives, and the series that it is from
abbrev pub given_by : Entry → Input × Option ℕ
given_by e = (e.input, e.series)

-- what an entry gives, where it stands and its cycle has come
abbrev pub when_come : ℕ → Option Entry → Option (Input × Option ℕ)
when_come cycles None = None
when_come cycles (Some e) = if nat_le e.cycle cycles then Some (given_by e) else None

-- what entry k gives, counted from 0, where it stands and its cycle has come
unfoldable pub due : List Entry → ℕ → ℕ → Option (Input × Option ℕ)
due list k cycles = when_come cycles (slice_get list k)
