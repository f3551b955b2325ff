-- The bytes of the fields of a line.
use Rattle.std.specs.Prelude.{ℕ, ◌==◌, ◌||◌, Bool, false, List, [], Option, slice_get}
use Rattle.std.specs.Option.{option_map_or}
use Rattle.agc_text.specs.Fields.{Piece}

-- the bytes of a field, none where it does not stand
abbrev pub text_of : Option Piece → List ℕ
text_of field = option_map_or (λ p. p.text) field []

-- a text begins with a byte
abbrev pub begins : ℕ → List ℕ → Bool
begins byte text = option_map_or (λ first. first == byte) (slice_get text 0) false

-- a plus or a minus sign stands first
abbrev pub is_signed : List ℕ → Bool
is_signed text = begins 0o53 text || begins 0o55 text
