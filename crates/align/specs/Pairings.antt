-- Which words of two ropes are paired: each with at most one of the other, in runs that are equal and cannot be grown. A place is
-- told by its number, and what is compared there stands in a list for each rope.
use Rattle.std.specs.Prelude.{ℕ, zero, suc, ◌+◌, ◌-◌, ◌%◌, ◌==◌, nat_lt, nat_le, Bool, true, false, not, ◌&&◌, ◌||◌, List, Option, Some}
use Rattle.std.specs.Prelude.{None, slice_index_or}
use Rattle.rope.specs.Places.{bank_words, fixed_places}

-- for each place of one rope what stands there: a token, or the place in the other rope with which it is paired
abbrev pub Entries : Type 0
Entries = List (Option ℕ)

-- the entry of a place, none outside
abbrev pub at : Entries → ℕ → Option ℕ
at entries place = slice_index_or entries place None

-- whether a place is the first of its bank
abbrev pub is_first : ℕ → Bool
is_first place = place % bank_words == 0

-- whether two tokens stand, and are equal
abbrev pub is_equal : Option ℕ → Option ℕ → Bool
is_equal (Some token) (Some other) = token == other
is_equal _ _ = false

-- whether an entry is a place
abbrev pub is_entry : Option ℕ → ℕ → Bool
is_entry (Some entry) place = entry == place
is_entry None place = false

-- whether a place is paired with none
abbrev pub is_free : Option ℕ → Bool
is_free None = true
is_free (Some place) = false

-- whether the second of two entries is the place after the first, in the same bank
abbrev pub is_next : Option ℕ → Option ℕ → Bool
is_next (Some place) (Some next) = next == place + 1 && not (is_first next)
is_next _ _ = false

-- whether a run goes on from a place to the one after it: these lie in one bank, and so do those with which they are paired
unfoldable pub goes_on : Entries → ℕ → Bool
goes_on pairs place = not (is_first (place + 1)) && is_next (at pairs place) (at pairs (place + 1))

-- whether a run goes on n times from a place
unfoldable pub goes_on_for : Entries → ℕ → ℕ → Bool
goes_on_for pairs place zero = true
goes_on_for pairs place (suc n) = goes_on pairs (place + n) && goes_on_for pairs place n

-- whether a run begins at a paired place
abbrev pub begins : Entries → ℕ → Bool
begins pairs place = is_first place || not (goes_on pairs (place - 1))

-- whether the run that begins at a paired place, where one does, has at least so many words, or is paired with the same place
unfoldable pub is_long : ℕ → Entries → ℕ → Bool
is_long least pairs place = is_entry (at pairs place) place || (not (begins pairs place) || goes_on_for pairs place (least - 1))

-- both ropes' tokens, those of the old one also with its own addresses, and with which places of the other rope each one's are paired
pub record Pairing : Type 0 where
  pub own : Entries
  pub old : Entries
  pub new : Entries
  pub to_old : Entries
  pub to_new : Entries

-- whether two tokens are addresses of places of bank 4 to 37 that are paired with each other, as CADR makes them: the numbers of these
-- places
abbrev pub follows : Entries → Option ℕ → Option ℕ → Bool
follows to_new (Some address) (Some other) =
    nat_le 0o10000 address && (nat_lt address 0o100000 && (nat_lt other 0o100000 && is_entry (at to_new address) other))
follows to_new _ _ = false

-- whether the words at two places agree: they are equal, or lead to places that are paired
abbrev pub agree : Pairing → ℕ → ℕ → Bool
agree p i j = is_equal (at p.old i) (at p.new j) || follows p.to_new (at p.own i) (at p.new j)

-- whether the words at two places are equal, and no check words, so that they name the same but for how it is called
abbrev pub name_alike : Pairing → ℕ → ℕ → Bool
name_alike p i j = is_equal (at p.old i) (at p.new j) && not (is_entry (at p.old i) 0o2000)

-- whether two places could be paired as well: neither is, and they are equal
abbrev pub could_pair : Pairing → ℕ → ℕ → Bool
could_pair p i j = is_equal (at p.old i) (at p.new j) && is_free (at p.to_new i) && is_free (at p.to_old j)

-- whether the run of two paired places could have the places after them too, or those before them
unfoldable pub could_grow_ahead : Pairing → ℕ → ℕ → Bool
could_grow_ahead p i j = not (is_first (i + 1)) && not (is_first (j + 1)) && could_pair p (i + 1) (j + 1)

unfoldable pub could_grow_back : Pairing → ℕ → ℕ → Bool
could_grow_back p i j = not (is_first i) && not (is_first j) && could_pair p (i - 1) (j - 1)

-- whether all is right at a place of the new rope: where it is paired, it is with a word that agrees, which is paired with it and no other,
-- in a run that has so many words, or stands where it stood, and cannot be grown
abbrev pub is_right_new : ℕ → Pairing → ℕ → Option ℕ → Bool
is_right_new least p j None = true
is_right_new least p j (Some i) =
    agree p i j && is_entry (at p.to_new i) j && is_long least p.to_old j && not (could_grow_ahead p i j) && not (could_grow_back p i j)

-- whether all is right at a place of the old one: what it is paired with is paired with it
abbrev pub is_right_old : Pairing → ℕ → Option ℕ → Bool
is_right_old p i None = true
is_right_old p i (Some j) = is_entry (at p.to_old j) i

unfoldable pub is_right_at : ℕ → Pairing → ℕ → Bool
is_right_at least p place = is_right_new least p place (at p.to_old place) && is_right_old p place (at p.to_new place)

-- whether all is right at the first n places
unfoldable pub is_right_before : ℕ → Pairing → ℕ → Bool
is_right_before least p zero = true
is_right_before least p (suc n) = is_right_at least p n && is_right_before least p n

-- a right pairing of two ropes: each word is paired with at most one of the other rope, and that one with it; paired words are equal, or
-- are addresses of places that are paired; each run has so many words or more, or stands where it stood, lies in one bank of each rope, and
-- cannot be grown at an end by words that are paired with none
abbrev pub is_right : ℕ → Pairing → Bool
is_right least p = is_right_before least p fixed_places

-- the pairing of some tokens by some pairs
abbrev pub pairing : Entries → Entries → Entries → Entries → Entries → Pairing
pairing own old new to_old to_new = record { own = own; old = old; new = new; to_old = to_old; to_new = to_new }
