-- What the image of fixed memory tells of its words.
use Rattle.std.specs.Prelude.{◌≡◌, ℕ, ◌+◌, ◌%◌, ◌<◌, List, slice_index, count_ones, Result, Ok, Err, ⊤}
use Rattle.rope.specs.Places.{banks, bank_words, Words, word_at}
use Rattle.rope.specs.Image.{spelled, image}
use Rattle.rope.specs.Reading.{ReadsImage}
use Rattle.rope.specs.declared.spelling.Version.{Version}
use Rattle.rope.specs.declared.spelling.Version.TheVariants.{Two}
use Rattle.rope.specs.declared.fault.RopeFault.{RopeFault}
use Rattle.rope.specs.declared.fault.RopeFault.TheVariants.{NoMemory, Short, Long, LowBit, BadParity, ReadFailed}

-- two fixed memories have the same word at every place, where 0 stands for none
abbrev pub HaveSameWords : Words → Words → Type 0
HaveSameWords a b = (bank offset : ℕ) → bank < banks → offset < bank_words → word_at a bank offset ≡ word_at b bank offset

-- the words that were written are read again: no fault is told of their image
abbrev pub ReadsAgain : Words → Result Words RopeFault → Type 0
ReadsAgain written (Ok read) = HaveSameWords written read
ReadsAgain written (Err NoMemory) = ⊤
ReadsAgain written (Err Short) = ⊥
ReadsAgain written (Err Long) = ⊥
ReadsAgain written (Err (LowBit at)) = ⊥
ReadsAgain written (Err (BadParity at)) = ⊥
ReadsAgain written (Err ReadFailed) = ⊤

-- whatever reading an image may answer, the words that were written are read again
abbrev pub WrittenIsRead : Version → Words → Type 0
WrittenIsRead version written = (left : List ℕ) (answer : Result Words RopeFault) → ReadsImage version (image version written) left answer
    → ReadsAgain written answer

-- words that were read are written as the bytes that they were read from
abbrev pub ReadIsWritten : Version → Words → Type 0
ReadIsWritten version read = (old left : List ℕ) → ReadsImage version old left (Ok read) → image version read ≡ old

-- the two bytes of a word have an odd number of one bits in version 2
abbrev pub HasOddParity : ℕ → Type 0
HasOddParity word = (count_ones (slice_index (spelled Two word) 0) + count_ones (slice_index (spelled Two word) 1)) % 2 ≡ 1
