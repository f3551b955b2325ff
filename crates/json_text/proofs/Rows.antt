-- Strings worked by hand.
use Rattle.std.proofs.Common.{◌≡◌, [], ◌∷◌, Some, None, map, refl}
use Rattle.std.specs.Prelude.{codes}
use Rattle.json_text.specs.Strings.{escaped, escaped_byte, json_string, string_or_null}

-- the quote, the backslash, a tab, the first byte, the last one of ASCII, and what is no ASCII
escapes : map escaped_byte (0o42 ∷ 0o134 ∷ 9 ∷ 0 ∷ 127 ∷ 255 ∷ [])
    ≡ codes "\\\"" ∷ codes "\\\\" ∷ codes "\\u0009" ∷ codes "\\u0000" ∷ codes "\\u007f" ∷ codes "\\u00ff" ∷ []
unfolding escaped_byte
escapes = refl

-- the blank and the tilde print, and the slash needs no backslash
prints : map escaped_byte (32 ∷ 126 ∷ 47 ∷ []) ≡ codes " " ∷ codes "~" ∷ codes "/" ∷ []
unfolding escaped_byte
prints = refl

-- a name with both, an empty text, and none
a_name : json_string (codes "A\"B\\C") ≡ codes "\"A\\\"B\\\\C\""
unfolding escaped escaped_byte
a_name = refl

an_empty : string_or_null (Some []) ≡ codes "\"\""
unfolding escaped
an_empty = refl

no_text : string_or_null None ≡ codes "null"
no_text = refl
