-- Rows of the texts, worked by hand.
use Rattle.std.proofs.Common.{◌≡◌, List, [], ◌∷◌, ℕ, true, false, refl}
use Rattle.std.specs.Prelude.{codes}
use lib.Count.{ones}
use Rattle.std.specs.Fmt.{digits}
use Rattle.space.specs.Places.{window}
use Rattle.words.specs.Numerals.{octal_text}
use Rattle.rope.specs.Places.{Words, stands, word_at}
use Rattle.cpu.specs.Codes.{basic_rows, extracode_rows, code_of}
use Rattle.cpu.specs.Texts.{instruction_text}
use Rattle.audit.specs.CheckWords.{check_word}
use Rattle.audit.specs.Differences.{differing_at}
use Rattle.audit.specs.declared.orders.Order.TheVariants.{Exchanged, Hardware}
use Rattle.audit.specs.declared.form_names.Complements.{Complements}
use Rattle.audit.specs.FormNames.{line_of_sums}
use Rattle.audit.specs.FormSums.{form_word}
use Rattle.rope.specs.declared.spelling.Version.TheVariants.{One, Two}
use Rattle.audit.specs.declared.differences.Extent.TheVariants.{All, Filled}
use Rattle.audit.specs.Parities.{wrong_at, parity_line}
use Rattle.audit.specs.SourceLines.{bank_line, octal_line}
use Rattle.audit.specs.WordLines.{extracode_at, instruction_at, place_text}

-- ## A source
bank_12 : bank_line 0o12 ≡ codes "        BANK    12\n"
unfolding bank_line octal_text
bank_12 = refl

-- EXTEND, and then MP 0100
extend : (words : Words) → word_at words 0o12 0 ≡ 0o6 → octal_line words 0o12 0 ≡ codes "        OCT     00006   # 12,2000 EXTEND\n"
unfolding octal_line octal_text place_text window instruction_at extracode_at instruction_text basic_rows code_of
extend words first = rw first refl

extracode : (words : Words) → extracode_at words 0o12 1 ≡ true → word_at words 0o12 1 ≡ 0o70100
    → octal_line words 0o12 1 ≡ codes "        OCT     70100   # 12,2001 MP 0100\n"
unfolding octal_line octal_text place_text window instruction_at instruction_text extracode_rows code_of
extracode words extra second = rw (extra, second) refl

-- ## Differences
-- where none stands in the old memory the place is passed over, if the filled ones alone are asked for
passed_over : (old new : Words) → stands old 3 0o1777 ≡ false → differing_at Filled old new 3 0o1777 ≡ []
unfolding differing_at
passed_over old new none = rw none refl

compared : (old new : Words) → word_at old 3 0o1777 ≡ 0 → word_at new 3 0o1777 ≡ 0o77777
    → differing_at All old new 3 0o1777 ≡ (3, 0o1777) ∷ []
unfolding differing_at
compared old new before after = rw (before, after) refl

filled : (old new : Words) → stands old 3 0o1777 ≡ true → word_at old 3 0o1777 ≡ 0 → word_at new 3 0o1777 ≡ 0o77777
    → differing_at Filled old new 3 0o1777 ≡ (3, 0o1777) ∷ []
unfolding differing_at
filled old new one before after = rw (one, before, after) refl

-- ## Parities
-- 64005 has five one bits, so its lowest bit is to be 0: 320, 012 in octal; with a 1 it is wrong. 00006 has two, so it is to be 1
image : List ℕ
image = 0o320 ∷ 0o13 ∷ 0 ∷ 0o15 ∷ []

wrong_parity : wrong_at image 2 0 ≡ (2, 0) ∷ []
unfolding image ones
wrong_parity = refl

right_parity : wrong_at image 2 1 ≡ []
unfolding image ones
right_parity = refl

told : parity_line image (2, 0) ≡ codes "02,4000 64005 BYTE 0\n"
unfolding image parity_line place_text octal_text window digits
told = refl

second : parity_line image (2, 1) ≡ codes "02,4001 00006 BYTE 2\n"
unfolding image parity_line place_text octal_text window digits
second = refl

-- ## Check words
-- a sum of 1 in bank 2 wants 1 more
one_more : check_word 2 1 ≡ 1
one_more = refl

-- a sum of -1 in bank 2 wants 1 less, for -2
one_less : check_word 2 0o77776 ≡ 0o77776
one_less = refl

-- a sum of 5 in bank 0 wants -5
none_left : check_word 0 5 ≡ 0o77772
none_left = refl

-- the greatest sum in bank 043 wants 043 less it, and the least -043 less it
from_greatest : check_word 0o43 0o37777 ≡ 0o40043
from_greatest = refl

from_least : check_word 0o43 0o40000 ≡ 0o37734
from_least = refl

-- ## Sums in both orders
-- 64005 with its parity bit is 1 10 1000 0000 01010 in binary, 150012: the highest bit, and without the one below it 10012
both_bits : form_word Hardware Two 0o64005 ≡ 0o50012
unfolding ones
both_bits = refl

-- 00004 has one one bit, so its parity bit is 0; 00006 has two, so its bytes are 000015
even_word : form_word Hardware Two 4 ≡ 0o10
unfolding ones
even_word = refl

odd_word : form_word Hardware Two 6 ≡ 0o15
unfolding ones
odd_word = refl

no_parity : form_word Hardware One 6 ≡ 0o14
no_parity = refl

-- 000015 with the second byte first is 006400
second_first : form_word Exchanged Two 6 ≡ 0o3200
unfolding ones
second_first = refl

none : Complements
none = record { written = false; hardware = false; swapped = false; both = false }

all : Complements
all = record { written = true; hardware = true; swapped = true; both = true }

-- the sum of bank 02 is 2 or 77775
holds_written : line_of_sums 2 2 0o16010 7 7 none ≡ codes "02 00002 16010 written\n"
unfolding octal_text none
holds_written = refl

holds_hardware : line_of_sums 2 0o16010 0o77775 7 7 none ≡ codes "02 16010 77775 hardware\n"
unfolding octal_text none
holds_hardware = refl

holds_both : line_of_sums 0 0 0o77777 7 7 none ≡ codes "00 00000 77777 written hardware\n"
unfolding octal_text none
holds_both = refl

holds_none : line_of_sums 3 0 2 7 7 none ≡ codes "03 00000 00002 -\n"
unfolding octal_text none
holds_none = refl

holds_swapped : line_of_sums 5 7 2 0o77772 5 none ≡ codes "05 00007 00002 swapped hardware,swapped\n"
unfolding octal_text none
holds_swapped = refl

-- bank 0 has the sum of bank 2
holds_by_number : line_of_sums 0 0o77775 0o100 7 7 none ≡ codes "00 77775 00100 numbered\n"
unfolding octal_text none
holds_by_number = refl

-- bank 3 has the sum of bank 1 where the second byte stands first and the words are complemented
holds_three_ways : line_of_sums 3 7 7 1 7 all ≡ codes "03 00007 00007 swapped,complemented,numbered\n"
unfolding octal_text all
holds_three_ways = refl
