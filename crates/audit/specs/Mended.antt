-- The words of an image as a source, with those that the sums want in place of words of wrong parity.
use Rattle.std.specs.Prelude.{ℕ, zero, suc, ◌==◌, ◌&&◌, ◌||◌, not, Bool, List, [], ◌++◌, codes, if◌then◌else◌}
use Rattle.std.specs.List.{range_with_len, flat_map}
use Rattle.words.specs.Numerals.{octal_text}
use Rattle.rope.specs.Places.{banks, bank_words}
use Rattle.rope.specs.Dumps.{word_of}
use Rattle.audit.specs.BankFacts.{count_before, is_blank, is_lost, is_turned, is_wrong, mended_word, mends, wrong_words}
use Rattle.audit.specs.SourceLines.{bank_line}
use Rattle.audit.specs.WordLines.{place_text}

-- the last number below one that has a property, 0 where none has
unfoldable pub last_before : (ℕ → Bool) → ℕ → ℕ
last_before f zero = 0
last_before f (suc n) = if f n then n else last_before f n

-- a bit that may be wrong in each of a bank's words of wrong parity: the sum is right without it, and it is the parity bit, or one
-- bit of the only such word, or a bit that is lost
abbrev pub may_be_wrong : List ℕ → Bool → ℕ → ℕ → Bool
may_be_wrong image turned bank bit =
    mends image turned bank bit && (bit == 0 || (wrong_words image turned bank == 1 && not (is_blank image turned bank))
    || is_lost image turned bank bit)

-- one bit alone may be
abbrev pub is_sure : List ℕ → Bool → ℕ → Bool
is_sure image turned bank = count_before (may_be_wrong image turned bank) 16 == 1

-- the bit that is turned: that one, or none
abbrev pub wrong_bit : List ℕ → Bool → ℕ → ℕ
wrong_bit image turned bank = if is_sure image turned bank then last_before (may_be_wrong image turned bank) 16 else 0

-- what is said of a word: what it was, or that its parity is wrong
abbrev pub remark : List ℕ → Bool → ℕ → Bool → ℕ → List ℕ
remark image turned bank sure offset =
    if is_wrong image turned bank offset
    then (if sure then codes " WAS " ++ octal_text 5 (word_of image bank offset) else codes " WRONG PARITY")
    else []

-- the line that gives a word
unfoldable pub mended_line : List ℕ → Bool → ℕ → ℕ → List ℕ
mended_line image turned bank offset =
    codes "        OCT     " ++ octal_text 5 (mended_word image turned bank (wrong_bit image turned bank) offset)
    ++ codes "   # " ++ place_text bank offset ++ remark image turned bank (is_sure image turned bank) offset ++ codes "\n"

-- the lines of a bank's words
unfoldable pub mended_lines : List ℕ → Bool → ℕ → List ℕ
mended_lines image turned bank = flat_map (mended_line image turned bank) (range_with_len 0 bank_words)

-- the lines of a bank
unfoldable pub mended_bank : List ℕ → Bool → ℕ → List ℕ
mended_bank image turned bank = bank_line bank ++ mended_lines image turned bank

-- those of all banks by their numbers
abbrev pub mended_source : List ℕ → List ℕ
mended_source image = flat_map (mended_bank image (is_turned image)) (range_with_len 0 banks)
