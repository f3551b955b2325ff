-- Fixed memory as a text of octal words: a line for each bank, and below it its words, eight a line.
use Rattle.std.specs.Prelude.{ℕ, ◌%◌, ◌==◌, Bool, true, false, List, ◌++◌, codes, Option}
use Rattle.std.specs.List.{range_with_len, flat_map}
use Rattle.words.specs.Numerals.{octal_text}
use Rattle.rope.specs.Places.{bank_words, Words, word_at}
use Rattle.audit.specs.ByBank.{by_bank}

-- the line of a bank
unfoldable pub bank_head : ℕ → List ℕ
bank_head bank = codes "BANK=" ++ octal_text 2 bank ++ codes "\n"

-- what stands behind a word: after each eighth a newline
abbrev pub behind : Bool → List ℕ
behind true = codes "\n"
behind false = codes " "

-- a word of a bank
unfoldable pub octal_word : Words → ℕ → ℕ → List ℕ
octal_word words bank offset = octal_text 5 (word_at words bank offset) ++ behind (offset % 8 == 7)

-- the words of a bank, by rising offsets
unfoldable pub octal_words : Words → ℕ → List ℕ
octal_words words bank = flat_map (octal_word words bank) (range_with_len 0 bank_words)

-- a bank
unfoldable pub bank_octals : Words → ℕ → List ℕ
bank_octals words bank = bank_head bank ++ octal_words words bank

-- one bank, or all by their numbers
abbrev pub octals_text : Words → Option ℕ → List ℕ
octals_text words bank = by_bank (bank_octals words) bank
