-- The bytes of an image, whatever words they spell.
use Rattle.std.specs.Prelude.{◌≡◌, ℕ, ◌+◌, ◌*◌, ◌/◌, ◌<◌, Bool, List, [], length, drop, slice_index, Result, Ok, Err}
use Rattle.words.specs.Readings.{TakesAtMost}
use Rattle.rope.specs.Places.{bank_words}
use Rattle.rope.specs.Image.{bank_of_entry}
use Rattle.rope.specs.Reading.{image_length, spells_word}
use Rattle.rope.specs.declared.spelling.Version.TheVariants.{Two}
use Rattle.rope.specs.declared.fault.RopeFault.{RopeFault}
use Rattle.rope.specs.declared.fault.RopeFault.TheVariants.{NoMemory, Short, Long, LowBit, BadParity, ReadFailed}

-- the number of a word's first byte: the entry of a bank is the bank of the entry with its number
abbrev pub byte_of : ℕ → ℕ → ℕ
byte_of bank offset = 2 * (bank_words * bank_of_entry bank + offset)

-- whether the two bytes at a place have an odd number of one bits
abbrev pub has_parity : List ℕ → ℕ → ℕ → Bool
has_parity image bank offset = spells_word Two (slice_index image (byte_of bank offset)) (slice_index image (byte_of bank offset + 1))

-- the word of the two bytes at a place, whatever their lowest bit
abbrev pub word_of : List ℕ → ℕ → ℕ → ℕ
word_of image bank offset = (0o400 * slice_index image (byte_of bank offset) + slice_index image (byte_of bank offset + 1)) / 2

-- what reading the bytes of an image answers, and which it leaves
abbrev pub ReadsDump : List ℕ → List ℕ → Result (List ℕ) RopeFault → Type 0
ReadsDump old new (Ok image) = (old ≡ image) × (length image ≡ image_length) × (new ≡ [])
ReadsDump old new (Err NoMemory) = TakesAtMost (image_length + 1) old new
ReadsDump old new (Err Short) = (length old < image_length) × (new ≡ [])
ReadsDump old new (Err Long) = (image_length < length old) × (new ≡ drop (image_length + 1) old)
ReadsDump old new (Err (LowBit at)) = ⊥
ReadsDump old new (Err (BadParity at)) = ⊥
ReadsDump old new (Err ReadFailed) = TakesAtMost image_length old new
