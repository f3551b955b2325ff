-- The symbols of a listing are read as a table of names.
use Rattle.std.specs.Prelude.{◌≡◌, ℕ, ◌^◌, ◌<◌, ◌≤◌, List, ◌++◌, length, flat_map, Ok, All}
use Rattle.symbols.specs.Values.{SymbolTable}
use Rattle.symbols.specs.declared.values.Value.{Value}
use Rattle.symbols.specs.declared.values.Value.TheVariants.{Num, Erasable, Fixed}
use Rattle.yayul.specs.Laws.{StandOnce}
use Rattle.yayul.specs.Listing.{symbol_row, symbols_head}
use Rattle.names.specs.Tables.{table_of}
use Rattle.notation_laws.specs.Named.{IsField}

-- what a symbol can stand for
abbrev pub IsValue : Value → Type 0
IsValue (Num n) = n < 2 ^ 15
IsValue (Erasable p) = p < 0o4000
IsValue (Fixed bank offset) = (bank < 0o44) × (offset < 0o2000)

-- the name of a symbol is a field of at most 8 bytes
pub record IsListed (symbol : List ℕ × Value) : Type 0 where
  pub field : IsField symbol.0
  pub short : length symbol.0 ≤ 8
  pub value : IsValue symbol.1

-- what a listing has of symbols is the table of these
abbrev pub SymbolsReadBack : SymbolTable → Type 0
SymbolsReadBack symbols = StandOnce symbols → All IsListed symbols → length symbols < 2 ^ 64
    → table_of (symbols_head symbols ++ flat_map symbol_row symbols) ≡ Ok symbols
