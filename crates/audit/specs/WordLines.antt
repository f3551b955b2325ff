-- The words of fixed memory as text: a line for each, with its place, the word, and the instruction that it is.
use Rattle.std.specs.Prelude.{ℕ, zero, suc, Bool, false, List, ◌++◌, codes, Option}
use Rattle.std.specs.List.{range_with_len, flat_map}
use Rattle.words.specs.Numerals.{octal_text}
use Rattle.space.specs.Places.{window}
use Rattle.space.specs.declared.place.Linear.TheVariants.{Fixed}
use Rattle.rope.specs.Places.{bank_words, Words, word_at}
use Rattle.cpu.specs.Next.{extracode_after}
use Rattle.cpu.specs.Texts.{disassembly}
use Rattle.audit.specs.ByBank.{by_bank}

-- whether a word of a bank is read as an extracode: where the words before it in the bank put extracode in force. None is in
-- force at the bank's first word; EXTEND puts it in force for the next word, and INDEX that is read as an extracode keeps it
unfoldable pub extracode_at : Words → ℕ → ℕ → Bool
extracode_at words bank zero = false
extracode_at words bank (suc offset) = extracode_after (extracode_at words bank offset) (word_at words bank offset)

-- the instruction that the word at a place is
unfoldable pub instruction_at : Words → ℕ → ℕ → List ℕ
instruction_at words bank offset = disassembly (extracode_at words bank offset) (word_at words bank offset)

-- a place: its bank, a comma, and the address at which a program reaches it
unfoldable pub place_text : ℕ → ℕ → List ℕ
place_text bank offset = octal_text 2 bank ++ codes "," ++ octal_text 4 (window (Fixed bank offset))

-- the line of a word: its place, the word, and the instruction that it is
unfoldable pub word_line : Words → ℕ → ℕ → List ℕ
word_line words bank offset =
    place_text bank offset ++ codes " " ++ octal_text 5 (word_at words bank offset) ++ codes " " ++ instruction_at words bank offset
    ++ codes "\n"

-- the lines of a bank's words, each of its places once, by rising offsets
unfoldable pub bank_lines : Words → ℕ → List ℕ
bank_lines words bank = flat_map (word_line words bank) (range_with_len 0 bank_words)

-- the lines of one bank, or of all by their numbers
abbrev pub word_lines : Words → Option ℕ → List ℕ
word_lines words bank = by_bank (bank_lines words) bank
