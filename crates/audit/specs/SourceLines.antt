-- Fixed memory as a source: lines of BANK and OCT that give its words.
use Rattle.std.specs.Prelude.{ℕ, List, ◌++◌, codes, Option}
use Rattle.std.specs.List.{range_with_len, flat_map}
use Rattle.words.specs.Numerals.{octal_text}
use Rattle.rope.specs.Places.{bank_words, Words, word_at}
use Rattle.audit.specs.WordLines.{place_text, instruction_at}
use Rattle.audit.specs.ByBank.{by_bank}

-- the line that leads to the first word of a bank
unfoldable pub bank_line : ℕ → List ℕ
bank_line bank = codes "        BANK    " ++ octal_text 2 bank ++ codes "\n"

-- the line that gives a word; its place and the instruction that it is are a comment
unfoldable pub octal_line : Words → ℕ → ℕ → List ℕ
octal_line words bank offset =
    codes "        OCT     " ++ octal_text 5 (word_at words bank offset) ++ codes "   # " ++ place_text bank offset ++ codes " "
    ++ instruction_at words bank offset
    ++ codes "\n"

-- the lines of a bank's words, each of its places once, by rising offsets
unfoldable pub octal_lines : Words → ℕ → List ℕ
octal_lines words bank = flat_map (octal_line words bank) (range_with_len 0 bank_words)

-- the lines of a bank
unfoldable pub bank_source : Words → ℕ → List ℕ
bank_source words bank = bank_line bank ++ octal_lines words bank

-- the lines of one bank, or of all by their numbers
abbrev pub source_text : Words → Option ℕ → List ℕ
source_text words bank = by_bank (bank_source words) bank
