-- Texts as strings of JSON.
use Rattle.std.specs.Prelude.{ℕ, ◌+◌, ◌/◌, ◌%◌, ◌==◌, ◌||◌, Bool, nat_lt, List, [], ◌∷◌, ◌++◌, codes, Option, None, Some, if◌then◌else◌}
use Rattle.std.specs.List.{flat_map}

-- the quote, and the backslash
abbrev pub quote : ℕ
quote = 0o42

abbrev pub backslash : ℕ
backslash = 0o134

-- the digit of a number below 16: 0 to 9, and then a to f
abbrev pub hex_digit : ℕ → ℕ
hex_digit n = if nat_lt n 10 then 48 + n else 87 + n

-- whether a byte is no character that prints in ASCII
abbrev pub is_unprinted : ℕ → Bool
is_unprinted byte = nat_lt byte 0o40 || nat_lt 0o176 byte

-- what stands within quotes for a byte: itself, after a backslash where it is the quote or the backslash; and for one that is no
-- character that prints its number, as \u0009
unfoldable pub escaped_byte : ℕ → List ℕ
escaped_byte byte =
    if byte == quote || byte == backslash then backslash ∷ byte ∷ []
    else (if is_unprinted byte then codes "\\u00" ++ hex_digit (byte / 16) ∷ hex_digit (byte % 16) ∷ [] else byte ∷ [])

-- what stands within quotes for a text
unfoldable pub escaped : List ℕ → List ℕ
escaped text = flat_map escaped_byte text

-- a text as a string
abbrev pub json_string : List ℕ → List ℕ
json_string text = codes "\"" ++ (escaped text ++ codes "\"")

-- a text as a string, or that there is none
abbrev pub string_or_null : Option (List ℕ) → List ℕ
string_or_null None = codes "null"
string_or_null (Some text) = json_string text
