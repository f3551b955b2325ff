-- What is read of a text of octal words that fixed memory was written as.
use Rattle.std.specs.Prelude.{◌≡◌, ◌<◌, ◌^◌, ℕ, Some, None, Ok}
use Rattle.rope.specs.declared.spelling.Version.{Version}
use Rattle.rope.specs.Image.{image}
use Rattle.rope.specs.Places.{banks, bank_words, Words, slot_at, word_at}
use Rattle.audit.specs.Octals.{octals_text}
use Rattle.audit.specs.OctalTexts.{octal_words}

-- every place holds a number of 15 bits, as each that is read
abbrev pub AreWords : Words → Type 0
AreWords words = (bank offset : ℕ) → word_at words bank offset < 2 ^ 15

-- the text of all banks is taken: at each place the word stands which stood there, 0 where none did, and the image is the same in each
-- version
pub record ReadsBack (words : Words) : Type 0 where
  pub given : Words
  pub taken : octal_words (octals_text words None) ≡ Ok given
  pub same : (bank offset : ℕ) → bank < banks → offset < bank_words → slot_at given bank offset ≡ Some (word_at words bank offset)
  pub images : (version : Version) → image version given ≡ image version words
