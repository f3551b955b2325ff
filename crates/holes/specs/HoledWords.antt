-- The words of an image beside a source with holes: a line for each as with names, but that of a hole shows no instruction.
use Rattle.std.specs.Prelude.{ℕ, List, ◌++◌, codes, Option, if◌then◌else◌}
use Rattle.std.specs.List.{range_with_len, flat_map}
use Rattle.rope.specs.Places.{bank_words, Words}
use Rattle.symbols.specs.Values.{SymbolTable}
use Rattle.yayul.specs.Listing.{word_columns}
use Rattle.audit.specs.ByBank.{by_bank}
use Rattle.names.specs.NamedLines.{named_line}
use Rattle.holes.specs.Holes.{is_hole_at}

-- the line of a word that is a hole: its place, the word, and that it is one
unfoldable pub hole_line : Words → ℕ → ℕ → List ℕ
hole_line image bank offset = word_columns image bank offset ++ codes " HOLE\n"

-- the line of a word of an image. The holes are the places where a word of a source stands, and other words have another one. The line
-- of any other place is that of plain words: those of the image around the holes, so that no hole's word puts extracode in force
unfoldable pub holed_line : SymbolTable → Words → Words → Words → Words → ℕ → ℕ → List ℕ
holed_line names words other image plain bank offset =
    if is_hole_at words other bank offset then hole_line image bank offset else named_line names plain bank offset

-- the lines of a bank's words, each of its places once, by rising offsets
unfoldable pub holed_bank_lines : SymbolTable → Words → Words → Words → Words → ℕ → List ℕ
holed_bank_lines names words other image plain bank =
    flat_map (holed_line names words other image plain bank) (range_with_len 0 bank_words)

-- the lines of one bank, or of all by their numbers
abbrev pub holed_lines : SymbolTable → Words → Words → Words → Words → Option ℕ → List ℕ
holed_lines names words other image plain bank = by_bank (holed_bank_lines names words other image plain) bank
