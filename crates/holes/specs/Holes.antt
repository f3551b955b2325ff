-- The places of lines of the interpretive language: those whose words differ with the word that is put in place of such lines; and
-- their words of another fixed memory.
use Rattle.std.specs.Prelude.{◌≡◌, ℕ, zero, suc, ◌==◌, ◌&&◌, ◌⊎◌, not, Bool, true, false, List, ◌++◌, length, decimal, codes}
use Rattle.std.specs.Prelude.{Result, Ok, Err, if◌then◌else◌}
use Rattle.std.specs.List.{flat_map}
use Rattle.rope.specs.Places.{banks, bank_words, Words, stands, with_word, word_at}
use Rattle.audit.specs.Differences.{differing}
use Rattle.audit.specs.declared.differences.Extent.TheVariants.{Filled}
use Rattle.yayul.specs.declared.faults.Fault.{Fault}
use Rattle.yayul.specs.declared.language.Language.TheVariants.{Flight}
use Rattle.yayul.specs.Listing.{word_columns}
use Rattle.yayul.specs.Program.{Program, no_memory, program}
use Rattle.space.specs.declared.place.Linear.TheVariants as linear
use Rattle.holes.specs.HoleLines.{source_with_holes}

-- the program of a source with a word in place of each line of the interpretive language, or its least fault
abbrev pub program_with : List ℕ → List ℕ → Result Program Fault
program_with word source = program Flight (source_with_holes word source)

-- the same where lines of the interpretive language are holes, and else the program of the source as it stands
abbrev pub program_as : Bool → List ℕ → List ℕ → Result Program Fault
program_as true word source = program_with word source
program_as false word source = program Flight source

-- a program with 0 in its holes, and fixed memory with 1 in them; or the least fault of either, unless memory ran out
abbrev pub GivesHoles : Result Program Fault → Result Program Fault → Result (Program × Words) Fault → Type 0
GivesHoles (Ok first) (Ok second) (Ok p) = (p.0 ≡ first) × (p.1 ≡ second.rope)
GivesHoles first second (Ok p) = ⊥
GivesHoles first second (Err fault) = (fault ≡ no_memory) ⊎ ((first ≡ Err fault) ⊎ (second ≡ Err fault))

-- a word stands at a place, and another one where other words are in the holes
abbrev pub is_hole_at : Words → Words → ℕ → ℕ → Bool
is_hole_at words other bank offset = stands words bank offset && not (word_at words bank offset == word_at other bank offset)

-- the places that differ
abbrev pub holes : Words → Words → List (ℕ × ℕ)
holes words other = differing Filled words other

-- ## Words from elsewhere
-- a hole at a place has the word of another fixed memory
unfoldable pub filled_at : Words → Words → Words → ℕ → ℕ → Words
filled_at words other from bank offset =
    if is_hole_at words other bank offset then with_word words bank offset (word_at from bank offset) else words

-- so have those of the first n places of a bank
unfoldable pub filled_in : Words → Words → Words → ℕ → ℕ → Words
filled_in words other from bank zero = words
filled_in words other from bank (suc n) = filled_at (filled_in words other from bank n) other from bank n

-- so have those of the first n banks
unfoldable pub filled_banks : Words → Words → Words → ℕ → Words
filled_banks words other from zero = words
filled_banks words other from (suc n) = filled_in (filled_banks words other from n) other from n bank_words

-- so have all
abbrev pub filled : Words → Words → Words → Words
filled words other from = filled_banks words other from banks

-- ## The words of an image around holes
-- a place that is no hole has the word of the image
unfoldable pub around_at : Words → Words → Words → ℕ → ℕ → Words
around_at words other image bank offset =
    if is_hole_at words other bank offset then words else with_word words bank offset (word_at image bank offset)

-- so have those of the first n places of a bank
unfoldable pub around_in : Words → Words → Words → ℕ → ℕ → Words
around_in words other image bank zero = words
around_in words other image bank (suc n) = around_at (around_in words other image bank n) other image bank n

-- so have those of the first n banks
unfoldable pub around_banks : Words → Words → Words → ℕ → Words
around_banks words other image zero = words
around_banks words other image (suc n) = around_in (around_banks words other image n) other image n bank_words

-- so have all, and a hole the word that stands there, whatever the image has in its place
abbrev pub around_holes : Words → Words → Words → Words
around_holes words other image = around_banks words other image banks

-- ## Text
-- a comment that tells a hole: its place, and the word of the image there
unfoldable pub hole_row : Words → ℕ × ℕ → List ℕ
hole_row words place = codes "# HOLE " ++ word_columns words place.0 place.1 ++ codes "\n"

-- the comments of some places
abbrev pub hole_rows : Words → List (ℕ × ℕ) → List ℕ
hole_rows words places = flat_map (hole_row words) places

-- how many holes there are
unfoldable pub holes_count : ℕ → List ℕ
holes_count count = codes "# HOLES " ++ decimal count ++ codes "\n"

-- the holes, and how many they are
unfoldable pub holes_text : Words → Words → Words → List ℕ
holes_text words other image = hole_rows image (holes words other) ++ holes_count (length (holes words other))
