-- The image of fixed memory: the bytes that its words are written as.
use Rattle.std.specs.Prelude.{ℕ, ◌+◌, ◌-◌, ◌*◌, ◌/◌, ◌%◌, List, [], ◌∷◌, nat_lt, if◌then◌else◌, count_ones}
use Rattle.std.specs.List.{range_with_len, flat_map}
use Rattle.rope.specs.Places.{bank_words, fixed_places, Words, word_at}
use Rattle.rope.specs.declared.spelling.Version.{Version}
use Rattle.rope.specs.declared.spelling.Version.TheVariants.{One, Two}

-- the banks in the order of the image: 2, 3, 0, 1, and then each from 4 on
abbrev pub bank_of_entry : ℕ → ℕ
bank_of_entry entry = if nat_lt entry 2 then entry + 2 else (if nat_lt entry 4 then entry - 2 else entry)

-- the word at a position of the image: bank after bank, in each by rising offsets
unfoldable pub word_of_position : Words → ℕ → ℕ
word_of_position words position = word_at words (bank_of_entry (position / bank_words)) (position % bank_words)

-- the lowest bit of a word's two bytes: 0 in version 1; in version 2 the parity bit, 1 where the word has an even number of one
-- bits
abbrev pub lowest_bit : Version → ℕ → ℕ
lowest_bit One word = 0
lowest_bit Two word = (count_ones word + 1) % 2

-- the two bytes of a word: twice the word and the lowest bit, the high byte first
abbrev pub spelled : Version → ℕ → List ℕ
spelled version word =
    (2 * word + lowest_bit version word) / 0o400 ∷ (2 * word + lowest_bit version word) % 0o400 ∷ []

-- the bytes of n positions, the first of them with a number
unfoldable pub image_part : Version → Words → ℕ → ℕ → List ℕ
image_part version words first n =
    flat_map (λ position. spelled version (word_of_position words position)) (range_with_len first n)

-- the bytes of the first n positions
abbrev pub image_front : Version → Words → ℕ → List ℕ
image_front version words n = image_part version words 0 n

-- the bytes of all positions
abbrev pub image : Version → Words → List ℕ
image version words = image_front version words fixed_places
