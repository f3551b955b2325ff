-- The fields of a line that was put together from them.
use Rattle.std.proofs.Common.{◌≡◌, not, eqb, ℕ, List, ◌∷◌, true}
use Rattle.std.proofs.Common.{◌∙◌, ap}
use Rattle.std.specs.List.{list_all}
use Rattle.agc_text.specs.Bytes.{is_text_byte}
use Rattle.agc_text.specs.Fields.{fields, before_comment, runs, texts}
use Rattle.debugger.proofs.InputsRead.{AreFields, all_weaker, fields_joined, is_open, joined, joined_open, no_hash}
use Rattle.debugger.proofs.InputsRead.{text_of, unhash_of}
use Rattle.notation_laws.specs.Named.{IsField}

-- such a text has no comment, and each byte may stand
pub without_comment : (text : List ℕ) → list_all is_open text ≡ true → before_comment text ≡ text
without_comment text opened = no_hash text (all_weaker is_open (λ b. not (eqb b 0o43)) unhash_of text opened)

pub bytes_open : (text : List ℕ) → list_all is_open text ≡ true → list_all is_text_byte text ≡ true
bytes_open text opened = all_weaker is_open is_text_byte text_of text opened

pub line_joined : (w : List ℕ) (ws : List (List ℕ)) → IsField w → AreFields ws → texts (fields (joined w ws)) ≡ w ∷ ws
line_joined w ws f fs = ap (λ text. texts (runs text)) (without_comment (joined w ws) (joined_open w ws f fs)) ∙ fields_joined w ws f fs
