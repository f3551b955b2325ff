-- What a word of a call looks like.
use Rattle.std.specs.Prelude.{ℕ, ◌==◌, ◌&&◌, ◌||◌, Bool, true, false, not, List, [], ◌∷◌, length, nat_le, nat_lt, Option, Some, None}
use Rattle.std.specs.Prelude.{if◌then◌else◌, option_and_then}
use Rattle.std.specs.List.{position_or_len, before_first, after_first}

-- what follows a first hyphen
abbrev pub behind_hyphen : List ℕ → Option (List ℕ)
behind_hyphen [] = None
behind_hyphen (byte ∷ text) = if byte == 45 then Some text else None

-- the byte is an equals sign
abbrev pub is_equals : ℕ → Bool
is_equals byte = byte == 61

-- the name of an option, and its value where one stands behind a first `=`
abbrev pub name_and_value : List ℕ → List ℕ × Option (List ℕ)
name_and_value text =
    if nat_lt (position_or_len is_equals text) (length text)
    then (before_first is_equals text, Some (after_first is_equals text)) else (text, None)

abbrev pub option_behind : List ℕ → Option (List ℕ × Option (List ℕ))
option_behind [] = None
option_behind (byte ∷ text) = Some (name_and_value (byte ∷ text))

-- `--name` or `--name=value`; two hyphens alone are none
abbrev pub option_in : List ℕ → Option (List ℕ × Option (List ℕ))
option_in word = option_and_then option_behind (option_and_then behind_hyphen (behind_hyphen word))

-- the letters of `-abc`; of a hyphen alone, and of two, there are none
abbrev pub letters_behind : List ℕ → Option (List ℕ)
letters_behind [] = None
letters_behind (byte ∷ text) = if byte == 45 then None else Some (byte ∷ text)

abbrev pub letters_in : List ℕ → Option (List ℕ)
letters_in word = option_and_then letters_behind (behind_hyphen word)

abbrev pub is_digit : ℕ → Bool
is_digit byte = nat_le 48 byte && nat_le byte 57

-- more of a number, where a point and an exponent stand before or not: a point stands once, and before an exponent; an
-- exponent stands once, and something follows
abbrev pub is_more_number : Bool → Bool → List ℕ → Bool
is_more_number point exponent [] = true
is_more_number point exponent (byte ∷ text) =
    if is_digit byte then is_more_number point exponent text
    else (if byte == 46 && not point && not exponent then is_more_number true exponent text
    else (if (byte == 101 || byte == 69) && not exponent && not (length text == 0) then is_more_number point true text
    else false))

-- digits with a point or an exponent, as `1.5e3`, or nothing
abbrev pub is_number : List ℕ → Bool
is_number [] = true
is_number (byte ∷ text) = is_digit byte && is_more_number false false text
