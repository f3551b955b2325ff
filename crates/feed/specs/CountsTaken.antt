-- What a machine knows of the inputs that it took.
use Rattle.std.specs.Prelude.{ℕ, ◌+◌, ◌^◌, ◌<◌, ◌≤◌, ◌≡◌, ◌==◌, Bool, true, false, List, Option, Some, None, IfSome, length, filter, take}
use Rattle.std.specs.Prelude.{slice_get, slice_index, set}
use Rattle.feed.specs.Order.{IsInOrder}
use Rattle.feed.specs.declared.entry.Entry.{Entry}

-- one source is another: the plain inputs, or a series by its number
abbrev pub is_source : Option ℕ → Option ℕ → Bool
is_source None None = true
is_source None (Some k) = false
is_source (Some j) None = false
is_source (Some j) (Some k) = j == k

-- an entry is from a source
abbrev pub is_from : Option ℕ → Entry → Bool
is_from source e = is_source source e.series

-- how many entries are from a source
abbrev pub number_from : Option ℕ → List Entry → ℕ
number_from source list = length (filter (is_from source) list)

-- A number of entries taken and counts fit a list: so many entries stand, and the counts tell for each series that has a
-- count how many of them are its own.
pub record CountsTaken (list : List Entry) (taken : ℕ) (counts : List ℕ) : Type 0 where
  pub stand : taken ≤ length list
  pub tell : (j : ℕ) → j < length counts → slice_index counts j ≡ number_from (Some j) (take taken list)

-- the counts after an entry of a source was taken
abbrev pub counts_after : List ℕ → Option ℕ → List ℕ
counts_after counts None = counts
counts_after counts (Some j) = set counts j (slice_index counts j + 1)

-- each entry is plain or of one of sixteen series
abbrev pub AreOfSixteen : List Entry → Type 0
AreOfSixteen list = (k : ℕ) → (e : Entry) → slice_get list k ≡ Some e → IfSome e.series (λ j. j < 16)

-- What the inputs of every feed are: in order, each of them plain or of one of sixteen series, and not too many.
pub record AreInputs (list : List Entry) : Type 0 where
  pub order : IsInOrder list
  pub sixteen : AreOfSixteen list
  pub plainly : number_from None list ≤ 65536
  pub serially : (j : ℕ) → number_from (Some j) list < 10 ^ 9
