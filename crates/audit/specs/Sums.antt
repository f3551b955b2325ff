-- The sums of the banks, as a program that checks its own memory adds them up.
use Rattle.std.specs.Prelude.{ℕ, zero, suc, List, ◌++◌, codes}
use Rattle.std.specs.List.{range_with_len, flat_map}
use Rattle.words.specs.Counters.{pinc, minc}
use Rattle.words.specs.Numbers.{sum, extend, correct}
use Rattle.words.specs.Numerals.{octal_text}
use Rattle.words.specs.Signs.{over}
use Rattle.words.specs.declared.wide.Overflow.{Overflow}
use Rattle.words.specs.declared.wide.Overflow.TheVariants.{No, Plus, Minus}
use Rattle.rope.specs.Places.{banks, bank_words, Words, word_at}

-- a sum that was stored, and one more or less by the overflow that it had
abbrev pub carried : Overflow → ℕ → ℕ
carried No word = word
carried Plus word = (pinc word).word
carried Minus word = (minc word).word

-- a word is added to a total: the sum of both loses its overflow as it is stored, and the overflow, plus or minus one, is
-- added to it
abbrev pub added : ℕ → ℕ → ℕ
added total word = carried (over (sum (extend total) (extend word))) (correct (sum (extend total) (extend word)))

-- the total of a bank's words before an offset
unfoldable pub sum_before : Words → ℕ → ℕ → ℕ
sum_before words bank zero = 0
sum_before words bank (suc offset) = added (sum_before words bank offset) (word_at words bank offset)

-- the line of a bank: its number, and the sum of its words
unfoldable pub sum_line : Words → ℕ → List ℕ
sum_line words bank = octal_text 2 bank ++ codes " " ++ octal_text 5 (sum_before words bank bank_words) ++ codes "\n"

-- the lines of all banks by their numbers
abbrev pub sum_lines : Words → List ℕ
sum_lines words = flat_map (sum_line words) (range_with_len 0 banks)
