-- The faults of numbers and of texts.
use Rattle.std.specs.Prelude.{ℕ}
use Rattle.words.specs.declared.word.WordFault.{WordFault}
use Rattle.words.specs.declared.word.WordFault.TheVariants.{OutOfWord}
use Rattle.words.specs.declared.text.ReadFault.{ReadFault}
use Rattle.words.specs.declared.text.ReadFault.TheVariants.{NoMemory, ReadFailed, TooLong}

-- the number by which it is told that a number is no word
abbrev pub number_of_no_word : WordFault → ℕ
number_of_no_word OutOfWord = 1

-- the number by which it is told that no text was read
abbrev pub number_of_no_text : ReadFault → ℕ
number_of_no_text NoMemory = 2
number_of_no_text ReadFailed = 6
number_of_no_text TooLong = 34
