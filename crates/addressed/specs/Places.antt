-- The places of fixed memory that the address words of a source name, in the order of its lines.
use Rattle.std.specs.Prelude.{ℕ, ◌+◌, ◌%◌, ◌&&◌, nat_lt, List, [], ◌∷◌, ◌++◌, fold, Option, None, Some, option_and_then, if◌then◌else◌}
use Rattle.rope.specs.Places.{Words, word_at}
use Rattle.space.specs.declared.place.Linear.TheVariants as linear
use Rattle.symbols.specs.Values.{SymbolTable}
use Rattle.yayul.specs.declared.language.Language.{Language}
use Rattle.yayul.specs.Program.{Source}
use Rattle.yayul.specs.Readings.{Parts, parts_for}
use Rattle.yayul.specs.PlaceMargin.{is_second, place_before, placed_rows, text_on}
use Rattle.addressed.specs.Words.{Place, named_by}

-- what the words of a line name, the first of which stands at a place
abbrev pub named_at : SymbolTable → Words → Parts → Place → Option Place
named_at table words parts p =
    if nat_lt p.0 0o50 && nat_lt p.1 0o2000
    then named_by table parts (linear.Fixed p.0 p.1) (word_at words p.0 p.1) (word_at words p.0 ((p.1 + 1) % 0o2000))
    else None

-- what the line of a number names, by its row
abbrev pub named_on : Language → SymbolTable → Words → ℕ → List ℕ → Option Place
named_on language table words line row =
    option_and_then (named_at table words (parts_for language (text_on line row))) (place_before row)

-- what is known once some rows are passed: the line of the last one, and the places that are named
pub record Walk : Type 0 where
  pub line : ℕ
  pub places : List Place

abbrev pub before_lines : Walk
before_lines = record { line = 0; places = [] }

abbrev pub with_place : List Place → Option Place → List Place
with_place places None = places
with_place places (Some p) = places ++ p ∷ []

-- the first row of a line
abbrev pub with_line : Language → SymbolTable → Words → Walk → ℕ → List ℕ → Walk
with_line language table words walk line row =
    record { line = line; places = with_place walk.places (named_on language table words line row) }

-- one row more; that of a second word has no text
unfoldable pub row_passed : Language → SymbolTable → Words → Walk → List ℕ → Walk
row_passed language table words walk row =
    if is_second walk.line row then walk else with_line language table words walk (walk.line + 1) row

-- some rows more
abbrev pub rows_passed : Language → SymbolTable → Words → Walk → List (List ℕ) → Walk
rows_passed language table words walk rows = fold (row_passed language table words) walk rows

-- the places that the address words of a source name, whose words stand in a fixed memory
unfoldable pub addressed : Language → SymbolTable → Source → Words → List Place
addressed language table source words = (rows_passed language table words before_lines (placed_rows source words)).places
