-- The names of the old rope's places at the places of the new one.
use Rattle.std.specs.Prelude.{ℕ, zero, suc, ◌+◌, ◌-◌, ◌/◌, ◌%◌, Bool, true, not, ◌&&◌, ◌||◌, nat_lt, List, ◌++◌, codes, Option, Some, None}
use Rattle.std.specs.Prelude.{if◌then◌else◌}
use Rattle.rope.specs.Places.{bank_words, fixed_places}
use Rattle.symbols.specs.Values.{value_text}
use Rattle.symbols.specs.declared.values.Value.{Value}
use Rattle.symbols.specs.declared.values.Value.TheVariants.{Fixed}
use Rattle.align.specs.AlignLines.{stands_free}
use Rattle.align.specs.Pairings.{Entries, at, goes_on, is_entry, is_first, is_free, Pairing}

-- whether a place is the last of its bank where something is compared
unfoldable pub is_last : Entries → ℕ → Bool
is_last tokens place = is_first (place + 1) || is_free (at tokens (place + 1))

-- whether words of one bank in each rope have changed alone: something stands at both places, and neither is paired
abbrev pub has_changed : Pairing → ℕ → ℕ → Bool
has_changed p i j = stands_free p.to_new p.old i && stands_free p.to_old p.new j

-- whether after two paired places one word of each bank has changed, and the next two are paired
unfoldable pub resumes : Pairing → ℕ → ℕ → Bool
resumes p i j =
    has_changed p (i + 1) (j + 1) && (not (is_first (i + 2)) && (not (is_first (j + 2)) && is_entry (at p.to_new (i + 2)) (j + 2)))

-- whether before two paired places, which are no first ones of banks, one word of each bank has changed, and the two before are paired
unfoldable pub has_resumed : Pairing → ℕ → ℕ → Bool
has_resumed p i j = not (is_first j) && (has_changed p (i - 1) (j - 1) && is_entry (at p.to_new (i - 2)) (j - 2))

-- whether a run goes on from two paired places n times, where one changed word is passed over, or up to the last words of both banks
unfoldable pub is_sure_ahead : Pairing → ℕ → ℕ → ℕ → Bool
is_sure_ahead p i j zero = true
is_sure_ahead p i j (suc n) =
    if goes_on p.to_new i then is_sure_ahead p (i + 1) (j + 1) n
    else ((is_last p.old i && is_last p.new j) || (resumes p i j && is_sure_ahead p (i + 2) (j + 2) n))

-- whether it comes so from n places before them, or from the first words of both banks
unfoldable pub is_sure_back : Pairing → ℕ → ℕ → ℕ → Bool
is_sure_back p i j zero = true
is_sure_back p i j (suc n) =
    if is_first i then is_first j
    else (if goes_on p.to_new (i - 1) then is_sure_back p (i - 1) (j - 1) n else (has_resumed p i j && is_sure_back p (i - 2) (j - 2) n))

-- whether a name is surely carried from a place to another: four words of the run stand before it and four behind it, single changed words
-- left out, or fewer up to an end of both banks
abbrev pub is_sure : Pairing → ℕ → ℕ → Bool
is_sure p i j = is_sure_ahead p i j 4 && is_sure_back p i j 4

-- a name, and what it stands for
abbrev pub name_line : List ℕ → Value → List ℕ
name_line name value = name ++ codes " " ++ value_text value ++ codes "\n"

-- a place of fixed memory by its number
abbrev pub fixed_at : ℕ → Value
fixed_at place = Fixed (place / bank_words) (place % bank_words)

-- where the word of a place that is paired with none has changed alone: right behind the partner of the one before it
abbrev pub changed_after : Pairing → ℕ → Option ℕ → Option ℕ
changed_after p i None = None
changed_after p i (Some j) = if nat_lt (j + 1) fixed_places && resumes p (i - 1) j then Some (j + 1) else None

abbrev pub changed_to : Pairing → ℕ → Option ℕ
changed_to p i = if is_first i then None else changed_after p i (at p.to_new (i - 1))

-- the line of a name whose place is paired with none
abbrev pub unpaired_line : List ℕ → ℕ → Option ℕ → List ℕ
unpaired_line name i None = codes "# GONE " ++ name_line name (fixed_at i)
unpaired_line name i (Some j) = codes "# UNSURE " ++ name_line name (fixed_at j)

-- the line of a name of fixed memory: where its place is carried to, in a comment where that is not sure, or that it is gone
abbrev pub fixed_line : Pairing → List ℕ → ℕ → Option ℕ → List ℕ
fixed_line p name i None = unpaired_line name i (changed_to p i)
fixed_line p name i (Some j) =
    if nat_lt j fixed_places then (if is_sure p i j then name_line name (fixed_at j) else codes "# UNSURE " ++ name_line name (fixed_at j))
    else codes "# GONE " ++ name_line name (fixed_at i)
