-- Sets of names, and the name that is near to a text.
use Rattle.std.specs.Prelude.{ℕ, ◌+◌, ◌-◌, ◌==◌, ◌&&◌, ◌||◌, not, Bool, false, nat_le, List, [], ◌∷◌, ◌++◌, length, map, Option, None}
use Rattle.std.specs.Prelude.{if◌then◌else◌}
use Rattle.std.specs.List.{find, list_any}
use Rattle.std.specs.Option.{option_map_or, option_or}
use Rattle.agc_text.specs.Fields.{Piece}
use Rattle.agc_text.specs.Tables.{same_name}
use Rattle.near_names.specs.declared.nearness.Closeness.{Closeness}
use Rattle.near_names.specs.declared.nearness.Closeness.TheVariants.{AsLong, InCapitals, Near}

-- ## Sets
-- a text is one of some names
abbrev pub is_among : List (List ℕ) → List ℕ → Bool
is_among names text = list_any (same_name text) names

-- no longer than a label
abbrev pub is_short : List ℕ → Bool
is_short text = nat_le (length text) 8

-- some names and one more, each once
abbrev pub with_name : List (List ℕ) → List ℕ → List (List ℕ)
with_name names text = if is_short text && not (is_among names text) then names ++ text ∷ [] else names

-- some names, and a field where it stands
abbrev pub with_field : List (List ℕ) → Option Piece → List (List ℕ)
with_field names field = option_map_or (λ p. with_name names p.text) field names

-- ## Names that are near
abbrev pub capital : ℕ → ℕ
capital byte = if nat_le 0o141 byte && nat_le byte 0o172 then byte - 0o40 else byte

-- a text in capitals is a name
abbrev pub is_in_capitals : List ℕ → List ℕ → Bool
is_in_capitals text name = same_name (map capital text) name

-- the first two bytes of two texts are exchanged, and the others the same
abbrev pub is_exchanged : List ℕ → List ℕ → Bool
is_exchanged (a ∷ b ∷ rest) (c ∷ d ∷ others) = a == d && b == c && same_name rest others
is_exchanged _ _ = false

-- one byte differs, or is one too many in either; or two beside one another are exchanged
abbrev pub is_near : List ℕ → List ℕ → Bool
is_near [] others = length others == 1
is_near (a ∷ rest) [] = length rest == 0
is_near (a ∷ rest) (b ∷ others) =
    if a == b then is_near rest others
    else same_name rest others || same_name rest (b ∷ others) || same_name (a ∷ rest) others || is_exchanged (a ∷ rest) (b ∷ others)

-- a text that a name is in capitals; one that is near and as long; or one that is near
abbrev pub is_close : Closeness → List ℕ → List ℕ → Bool
is_close InCapitals text name = length text == length name && is_in_capitals text name
is_close AsLong text name = length text == length name && is_near text name
is_close Near text name = nat_le (length text) (length name + 1) && nat_le (length name) (length text + 1) && is_near text name

-- the first of some names that is a text in capitals; else, for a text of three bytes or more, one that is near, as long where there is one
abbrev pub near_name : List (List ℕ) → List ℕ → Option (List ℕ)
near_name names text =
    option_or (find (is_close InCapitals text) names)
    (if nat_le 3 (length text) then option_or (find (is_close AsLong text) names) (find (is_close Near text) names) else None)
