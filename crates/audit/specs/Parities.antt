-- The words of an image whose two bytes have an even number of one bits, as text.
use Rattle.std.specs.Prelude.{ℕ, List, [], ◌∷◌, ◌++◌, length, codes, decimal, if◌then◌else◌}
use Rattle.std.specs.List.{range_with_len, flat_map}
use Rattle.words.specs.Numerals.{octal_text}
use Rattle.rope.specs.Places.{banks, bank_words}
use Rattle.rope.specs.Dumps.{byte_of, has_parity, word_of}
use Rattle.audit.specs.Differences.{count_line}
use Rattle.audit.specs.WordLines.{place_text}

-- a bank and an offset, where the parity there is wrong
abbrev pub wrong_at : List ℕ → ℕ → ℕ → List (ℕ × ℕ)
wrong_at image bank offset = if has_parity image bank offset then [] else (bank, offset) ∷ []

-- the places of a bank where the parity is wrong, by rising offsets
unfoldable pub wrong_in : List ℕ → ℕ → List (ℕ × ℕ)
wrong_in image bank = flat_map (wrong_at image bank) (range_with_len 0 bank_words)

-- all places where the parity is wrong, by the numbers of their banks
unfoldable pub wrong : List ℕ → List (ℕ × ℕ)
wrong image = flat_map (wrong_in image) (range_with_len 0 banks)

-- the line of a place: the word there, and the number of its first byte
unfoldable pub parity_line : List ℕ → ℕ × ℕ → List ℕ
parity_line image place =
    place_text place.0 place.1 ++ codes " " ++ octal_text 5 (word_of image place.0 place.1) ++ codes " BYTE "
    ++ decimal (byte_of place.0 place.1) ++ codes "\n"

-- a line for each place where the parity is wrong, and then how many there are
unfoldable pub parities : List ℕ → List ℕ
parities image = flat_map (parity_line image) (wrong image) ++ count_line (length (wrong image))
