-- The places at which two fixed memories differ, as text.
use Rattle.std.specs.Prelude.{ℕ, ◌==◌, Bool, true, List, [], ◌∷◌, ◌++◌, length, codes, decimal, if◌then◌else◌}
use Rattle.std.specs.List.{range_with_len, flat_map}
use Rattle.words.specs.Numerals.{octal_text}
use Rattle.rope.specs.Places.{banks, bank_words, Words, stands, word_at}
use Rattle.audit.specs.declared.differences.Extent.{Extent}
use Rattle.audit.specs.declared.differences.Extent.TheVariants.{All, Filled}
use Rattle.audit.specs.WordLines.{place_text, instruction_at}

-- whether words are compared at a place: at all, or at those alone where one stands in the old memory
abbrev pub is_compared : Extent → Words → ℕ → ℕ → Bool
is_compared All old bank offset = true
is_compared Filled old bank offset = stands old bank offset

-- a bank and an offset, where the words there are compared and differ
unfoldable pub differing_at : Extent → Words → Words → ℕ → ℕ → List (ℕ × ℕ)
differing_at extent old new bank offset =
    if is_compared extent old bank offset then (if word_at old bank offset == word_at new bank offset then [] else (bank, offset) ∷ []) else
    []

-- the places of a bank where they do, by rising offsets
unfoldable pub differing_in : Extent → Words → Words → ℕ → List (ℕ × ℕ)
differing_in extent old new bank = flat_map (differing_at extent old new bank) (range_with_len 0 bank_words)

-- all places where they do, by the numbers of their banks
unfoldable pub differing : Extent → Words → Words → List (ℕ × ℕ)
differing extent old new = flat_map (differing_in extent old new) (range_with_len 0 banks)

-- a place, both words, and the instruction that each is among the words of its own memory
unfoldable pub difference_text : Words → Words → ℕ × ℕ → List ℕ
difference_text old new place =
    place_text place.0 place.1 ++ codes " " ++ octal_text 5 (word_at old place.0 place.1) ++ codes " "
    ++ octal_text 5 (word_at new place.0 place.1)
    ++ codes " " ++ instruction_at old place.0 place.1 ++ codes ", " ++ instruction_at new place.0 place.1

-- the line of a place
unfoldable pub difference_line : Words → Words → ℕ × ℕ → List ℕ
difference_line old new place = difference_text old new place ++ codes "\n"

-- the lines of some places
abbrev pub difference_lines : Words → Words → List (ℕ × ℕ) → List ℕ
difference_lines old new places = flat_map (difference_line old new) places

-- the line that tells how many places differ
abbrev pub count_line : ℕ → List ℕ
count_line count = codes "COUNT " ++ decimal count ++ codes "\n"

-- a line for each place where the words are compared and differ, and then how many there are
unfoldable pub differences : Extent → Words → Words → List ℕ
differences extent old new = difference_lines old new (differing extent old new) ++ count_line (length (differing extent old new))
