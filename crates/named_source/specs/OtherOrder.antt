-- The image of fixed memory with its bits in the other order, and one wrong bit in a word of an image.
use Rattle.std.specs.Prelude.{◌≡◌, ◌^◌, ◌==◌, ℕ, ◌+◌, ◌-◌, ◌*◌, ◌/◌, ◌%◌, false, true, List, [], ◌∷◌, if◌then◌else◌}
use Rattle.std.specs.List.{range_with_len, flat_map}
use Rattle.rope.specs.Forms.{taken}
use Rattle.rope.specs.Image.{image as image_of, lowest_bit, word_of_position}
use Rattle.rope.specs.Places.{Words, fixed_places}
use Rattle.rope.specs.Reading.{spells_word}
use Rattle.rope.specs.declared.form.Form.TheVariants.{Hardware, HardwareParityIgnored}
use Rattle.rope.specs.declared.spelling.Version.TheVariants.{One, Two}

-- the number of a word's two bytes in the other order: its highest bit, the parity bit, and then the other bits
abbrev pub other_number : ℕ → ℕ
other_number word = 0o100000 * (word / 0o40000) + 0o40000 * lowest_bit Two word + word % 0o40000

abbrev pub other_bytes : ℕ → List ℕ
other_bytes word = other_number word / 0o400 ∷ other_number word % 0o400 ∷ []

-- the image whose words are so
abbrev pub other_image : Words → List ℕ
other_image words = flat_map (λ position. other_bytes (word_of_position words position)) (range_with_len 0 fixed_places)

-- It is taken for the image of the words, in version 2, and where parity is ignored in version 1; and each two bytes have the same parity.
pub record IsTakenAsImage (words : Words) : Type 0 where
  pub image : taken Hardware (other_image words) ≡ image_of Two words
  pub ignored : taken HardwareParityIgnored (other_image words) ≡ image_of One words
  pub parity : (word : ℕ) → spells_word Two (other_number word / 0o400) (other_number word % 0o400) ≡ true

-- a number with one bit another
abbrev pub turned_at : ℕ → ℕ → ℕ
turned_at i n = if n / 2 ^ i % 2 == 0 then n + 2 ^ i else n - 2 ^ i

-- Two bytes of which one bit is another than it was spell no word in version 2, where they spelled one.
abbrev pub OneBitIsSeen : (n i : ℕ) → Type 0
OneBitIsSeen n i = spells_word Two (n / 0o400) (n % 0o400) ≡ true → spells_word Two (turned_at i n / 0o400) (turned_at i n % 0o400) ≡ false
