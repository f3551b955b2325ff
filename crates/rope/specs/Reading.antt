-- What reading an image takes from a reader, and what it answers.
use Rattle.std.specs.Prelude.{◌≡◌, ℕ, ◌+◌, ◌*◌, ◌%◌, ◌<◌, ◌≤◌, ◌==◌, Bool, true, false, List, [], length, drop, slice_index, count_ones}
use Rattle.std.specs.Prelude.{Result, Ok, Err}
use Rattle.rope.specs.Places.{banks, bank_words, fixed_places, Words, stands}
use Rattle.rope.specs.Image.{image}
use Rattle.rope.specs.declared.spelling.Version.{Version}
use Rattle.rope.specs.declared.spelling.Version.TheVariants.{One, Two}
use Rattle.rope.specs.declared.fault.RopeFault.{RopeFault}
use Rattle.rope.specs.declared.fault.RopeFault.TheVariants.{NoMemory, Short, Long, LowBit, BadParity, ReadFailed}

-- how many bytes an image has
abbrev pub image_length : ℕ
image_length = 2 * fixed_places

-- whether two bytes spell a word: in version 1 the low one is even, in version 2 they have an odd number of one bits
abbrev pub spells_word : Version → ℕ → ℕ → Bool
spells_word One high low = low % 2 == 0
spells_word Two high low = (count_ones high + count_ones low) % 2 == 1

-- the fault of two bytes that spell no word, with the low one at a place
abbrev pub fault_at : Version → ℕ → RopeFault
fault_at One at = LowBit at
fault_at Two at = BadParity at

-- every two bytes among the first n spell a word
abbrev pub AllSpellWords : Version → List ℕ → ℕ → Type 0
AllSpellWords version bytes n = (position : ℕ) → 2 * position + 1 < n →
    spells_word version (slice_index bytes (2 * position)) (slice_index bytes (2 * position + 1)) ≡ true

-- a word stands at every place of the banks
abbrev pub IsFull : Words → Type 0
IsFull words = (bank offset : ℕ) → bank < banks → offset < bank_words → stands words bank offset ≡ true

-- the bytes were the image of the words, and all were read
pub record IsImage (version : Version) (old new : List ℕ) (words : Words) : Type 0 where
  pub whole : old ≡ image version words
  pub left : new ≡ []

-- the bytes end before an image does, and all were read
pub record IsShort (version : Version) (old new : List ℕ) : Type 0 where
  pub short : length old < image_length
  pub spelled : AllSpellWords version old (length old)
  pub left : new ≡ []

-- a byte stands after those of an image, and it was read
pub record IsLong (version : Version) (old new : List ℕ) : Type 0 where
  pub long : image_length < length old
  pub spelled : AllSpellWords version old image_length
  pub left : new ≡ drop (image_length + 1) old

-- the first two bytes of an image that spell no word have the low one at a place, and it was the last that was read
pub record HasWrongBytes (version : Version) (old new : List ℕ) (at : ℕ) : Type 0 where
  pub position : ℕ
  pub low : at ≡ 2 * position + 1
  pub within : at < image_length
  pub stands : at < length old
  pub wrong : spells_word version (slice_index old (2 * position)) (slice_index old at) ≡ false
  pub spelled : AllSpellWords version old at
  pub left : new ≡ drop (at + 1) old

-- a read failed after some bytes without a fault, no more than an image has
pub record FailsAfter (version : Version) (old new : List ℕ) : Type 0 where
  pub count : ℕ
  pub within : count ≤ image_length
  pub stand : count ≤ length old
  pub spelled : AllSpellWords version old count
  pub left : new ≡ drop count old

-- what reading an image answers of the bytes that were left, and which it leaves
abbrev pub ReadsImage : Version → List ℕ → List ℕ → Result Words RopeFault → Type 0
ReadsImage version old new (Ok words) = IsImage version old new words
ReadsImage version old new (Err NoMemory) = new ≡ old
ReadsImage version old new (Err Short) = IsShort version old new
ReadsImage version old new (Err Long) = IsLong version old new
ReadsImage version old new (Err (LowBit at)) = (version ≡ One) × HasWrongBytes One old new at
ReadsImage version old new (Err (BadParity at)) = (version ≡ Two) × HasWrongBytes Two old new at
ReadsImage version old new (Err ReadFailed) = FailsAfter version old new

-- whether a read failed
abbrev pub has_read_failed : {T : Type 0} → Result T RopeFault → Bool
has_read_failed (Ok x) = false
has_read_failed (Err NoMemory) = false
has_read_failed (Err Short) = false
has_read_failed (Err Long) = false
has_read_failed (Err (LowBit at)) = false
has_read_failed (Err (BadParity at)) = false
has_read_failed (Err ReadFailed) = true
