-- Symbols that can be asked for by their names.
use Rattle.std.specs.Prelude.{◌≡◌, ℕ, ◌<◌, ◌==◌, ◌&&◌, not, Bool, true, List, [], length, None, Some, All, IfSome}
use Rattle.std.specs.List.{list_all}
use Rattle.agc_text.specs.Bytes.{comment_sign, is_text_byte}
use Rattle.agc_text.specs.Fields.{is_blank}
use Rattle.symbols.specs.Values.{SymbolTable, place_of}
use Rattle.symbols.specs.declared.values.Value.{Value}
use Rattle.yayul.specs.Laws.{StandOnce}
use Rattle.commands.specs.NamedPlaces.{named_place}
use Rattle.commands.specs.Subjects.{channel_by}

-- a byte of a field: one that a line may hold, no blank, and none that begins a comment
abbrev pub is_field_byte : ℕ → Bool
is_field_byte byte = is_text_byte byte && (not (is_blank byte) && not (byte == comment_sign))

-- a field: such bytes, one at least
abbrev pub IsField : List ℕ → Type 0
IsField text = (0 < length text) × (list_all is_field_byte text ≡ true)

-- what its name is read as where there are no symbols, if it is a place, is the place of the symbol; and it is no channel
abbrev pub IsApart : List ℕ × Value → Type 0
IsApart symbol = IfSome (named_place [] symbol.0) (λ place. place_of symbol.1 ≡ Some place) × (channel_by symbol.0 ≡ None)

-- no two symbols have one name; each name is a field, and none is that of another place or of a channel
pub record AreApart (symbols : SymbolTable) : Type 0 where
  pub once : StandOnce symbols
  pub fields : All (λ symbol. IsField symbol.0) symbols
  pub apart : All IsApart symbols
