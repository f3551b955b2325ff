-- Rows of damages, worked by hand.
use Rattle.std.proofs.Common.{◌≡◌, List, [], ◌∷◌, ℕ, Bool, true, false, refl, nat_lt}
use Rattle.std.specs.Prelude.{codes}
use Rattle.std.specs.Fmt.{digits}
use lib.Count.{ones}
use Rattle.words.specs.BitSums.{xor_sum}
use Rattle.words.specs.Numerals.{octal_text}
use Rattle.space.specs.Places.{window}
use Rattle.rope.specs.Dumps.{word_of}
use Rattle.rope.specs.Places.{bank_words}
use Rattle.audit.specs.declared.damages.Finding.TheVariants.{Sound, WrongSum, CopyOf, SumOf, ExchangedWith, ParityBits, WrongWords}
use Rattle.audit.specs.BankFacts.{all_before, bit_of, count_before, is_blank, is_copy, is_uniform, is_wrong, mended_sum_before, mended_word}
use Rattle.audit.specs.BankFacts.{has_loops, is_loop, mends, with_bit_cleared, with_bit_turned, wrong_words}
use Rattle.audit.specs.declared.orders.Order.TheVariants.{Written, Exchanged, Hardware, ExchangedHardware}
use Rattle.audit.specs.Orders.{bytes_at, most_of, stands_by_number, sum_in_before}
use Rattle.audit.specs.WordOrders.{by_extends, partner, word_in}
use Rattle.audit.specs.WordLines.{place_text}
use Rattle.audit.specs.Damages.{arrangement_text, bank_name, bank_of_sum, by_count, by_its_sum, by_sum, candidate, copy_line, dead_line}
use Rattle.audit.specs.Damages.{dead_text, exchanged_line, first_bank, module_line, of_wrong_parity, parity_bits_line, sum_of_line}
use Rattle.audit.specs.Damages.{ways_of, wrong_head, wrong_in_module, wrong_sum_line}

-- ## Bits
-- 00006 without the bit of 4 is 00002; the parity bit leaves it; the highest bit is the sign
bit_3 : with_bit_turned 6 3 ≡ 2
unfolding xor_sum
bit_3 = refl

parity_bit : with_bit_turned 6 0 ≡ 6
parity_bit = refl

sign : with_bit_turned 6 15 ≡ 0o40006
unfolding xor_sum
sign = refl

second_bit : bit_of 6 2 ≡ 1
second_bit = refl

first_bit : bit_of 6 1 ≡ 0
first_bit = refl

last_bit : bit_of 0o40000 15 ≡ 1
last_bit = refl

-- address bit 7 is that of 0100
seventh_cleared : with_bit_cleared 0o1777 7 ≡ 0o1677
seventh_cleared = refl

seventh_clear : with_bit_cleared 0o77 7 ≡ 0o77
seventh_clear = refl

-- ## Counts
below_three : count_before (λ n. nat_lt n 3) 5 ≡ 3
unfolding count_before
below_three = refl

not_all : all_before (λ n. nat_lt n 3) 4 ≡ false
unfolding all_before
not_all = refl

all : all_before (λ n. nat_lt n 3) 3 ≡ true
unfolding all_before
all = refl

-- ## Parities: 64005 stands with a wrong parity bit, 00006 behind it with the right one
two_words : List ℕ
two_words = 0o320 ∷ 0o13 ∷ 0 ∷ 0o15 ∷ []

wrong_one : is_wrong two_words false 2 0 ≡ true
unfolding two_words ones
wrong_one = refl

right_one : is_wrong two_words false 2 1 ≡ false
unfolding two_words ones
right_one = refl

-- where all parities are the other way round
wrong_turned : is_wrong two_words true 2 1 ≡ true
unfolding two_words ones
wrong_turned = refl

turned_word : mended_word two_words false 2 1 0 ≡ 0o64004
unfolding two_words ones xor_sum
turned_word = refl

kept : mended_word two_words false 2 1 1 ≡ 6
unfolding two_words ones
kept = refl

-- 64005 without the bit of 4 is 64001, which is -13776; 6 more are -13770
sum_of_two : mended_sum_before two_words false 2 3 2 ≡ 0o64007
unfolding two_words ones xor_sum mended_sum_before
sum_of_two = refl

-- ## Sums: bank 6 has 6, or its complement; 044 is no bank
of_six : bank_of_sum 6 ≡ 6
of_six = refl

of_minus_six : bank_of_sum 0o77771 ≡ 6
of_minus_six = refl

of_last : bank_of_sum 0o43 ≡ 0o43
of_last = refl

of_none : bank_of_sum 0o77733 ≡ 0o44
of_none = refl

-- bank 5 has 6, and bank 6 has -5; or 7; or 6
exchanged : by_its_sum 5 6 0o77772 ≡ ExchangedWith 6
exchanged = refl

moved : by_its_sum 5 6 7 ≡ SumOf 6
moved = refl

by_chance : by_its_sum 5 6 6 ≡ WrongSum
by_chance = refl

copied : (bytes : List ℕ) (way : Bool) → is_copy bytes 5 6 ≡ true → by_sum bytes way 5 6 ≡ CopyOf 6
copied bytes way copy = rw copy refl

of_no_bank : (bytes : List ℕ) (way : Bool) → by_sum bytes way 5 0o1000 ≡ WrongSum
of_no_bank bytes way = refl

its_own : (bytes : List ℕ) (way : Bool) → by_sum bytes way 5 0o77772 ≡ Sound
its_own bytes way = refl

-- ## Orders: 64005 with its parity bit 0 is 150012, whose bytes are 320 and 012
written_word : word_in Written 0o150012 ≡ 0o64005
written_word = refl

-- with the bytes exchanged 005320, and without the lowest bit 02550
exchanged_word : word_in Exchanged 0o150012 ≡ 0o2550
exchanged_word = refl

-- the highest bit, and without the one below it 10012
hardware_word : word_in Hardware 0o150012 ≡ 0o50012
hardware_word = refl

-- the parity bit is wrong, so it is the other one of the word's, which has five one bits
wrong_bit : bytes_at two_words 2 0 ≡ 0o150013
unfolding two_words ones
wrong_bit = refl

most_as_written : most_of 27 0 1 27 ≡ Written
most_as_written = refl

most_exchanged : most_of 1 28 0 2 ≡ Exchanged
most_exchanged = refl

most_hardware : most_of 0 2 28 2 ≡ Hardware
most_hardware = refl

most_both : most_of 0 2 2 28 ≡ ExchangedHardware
most_both = refl

-- the entries of an image are banks 2, 3, 0, 1: by the numbers bank 0 stands in the first, and bank 3 in the last of them
for_zero : partner 0 ≡ 2
for_zero = refl

for_three : partner 3 ≡ 1
for_three = refl

-- where bank 0 is read, bank 2 stands
second_bank : (bytes : List ℕ) → is_uniform bytes 0 ≡ false → sum_in_before Written bytes 0 bank_words ≡ 2
    → stands_by_number Written bytes 0 ≡ true
second_bank bytes some sum = rw (some, sum) refl

own_bank : (bytes : List ℕ) → is_uniform bytes 0 ≡ false → sum_in_before Hardware bytes 0 bank_words ≡ 0
    → stands_by_number Hardware bytes 0 ≡ false
own_bank bytes some sum = rw (some, sum) refl

-- 1,400 EXTEND and 5 times its complement; the other way round; and few of both, where the empty banks tell
many_extends : by_extends 1400 5 true ≡ false
many_extends = refl

many_others : by_extends 5 1400 false ≡ true
many_others = refl

few_of_both : by_extends 3 35 true ≡ true
few_of_both = refl

-- three ways
ways : ways_of (record { order = ExchangedHardware; is_complemented = true; is_numbered = true }) ≡ 3
ways = refl

two_lines : arrangement_text (record { order = Exchanged; is_complemented = true; is_numbered = false })
    ≡ codes "BYTES EXCHANGED\nALL BITS COMPLEMENTED\n"
two_lines = refl

-- ## Counts of wrong parities
one_word : (bytes : List ℕ) (way : Bool) → by_count bytes way 5 1 ≡ WrongWords
one_word bytes way = refl

-- in a bank that is else empty the sum tells nothing
blank : (bytes : List ℕ) (way : Bool) → is_blank bytes way 5 ≡ true → by_count bytes way 5 7 ≡ WrongWords
blank bytes way is = rw is refl

parity_bits : (bytes : List ℕ) (way : Bool) → is_blank bytes way 5 ≡ false → mends bytes way 5 0 ≡ true
    → by_count bytes way 5 7 ≡ ParityBits
parity_bits bytes way not_blank right = rw (not_blank, right) refl

-- ## Texts
head : wrong_head two_words 2 0 ≡ codes "02,4000 64005"
unfolding two_words octal_text window place_text
head = refl

first_candidate : candidate 6 3 0 ≡ codes " IS 00002"
unfolding xor_sum octal_text
first_candidate = refl

other_candidate : candidate 6 15 1 ≡ codes " OR 40006"
unfolding xor_sum octal_text
other_candidate = refl

sum_text : wrong_sum_line 0o10 0o24 ≡ codes "BANK 10 SUM 00024\n"
unfolding octal_text bank_name
sum_text = refl

exchanged_text : exchanged_line 5 6 ≡ codes "BANK 05 EXCHANGED WITH BANK 06\n"
unfolding octal_text bank_name
exchanged_text = refl

copy_text : copy_line 5 6 ≡ codes "BANK 05 HAS THE WORDS OF BANK 06\n"
unfolding octal_text bank_name
copy_text = refl

moved_text : sum_of_line 5 6 ≡ codes "BANK 05 HAS THE SUM OF BANK 06\n"
unfolding octal_text bank_name
moved_text = refl

bits_text : parity_bits_line 0o11 12 ≡ codes "BANK 11 RIGHT BY THE SUM, 12 PARITY BITS WRONG\n"
unfolding octal_text digits bank_name
bits_text = refl

dead_bank : (bytes : List ℕ) → wrong_words bytes false 0o12 ≡ 0 → has_loops bytes 0o12 7 0 ≡ false → has_loops bytes 0o12 7 1 ≡ false
    → dead_line bytes false 0o12 7 ≡ codes "BANK 12 ADDRESS BIT 7 MAKES NO DIFFERENCE\n"
unfolding octal_text digits bank_name of_wrong_parity
dead_bank bytes right never none = rw (right, never, none) refl

lost_half : (bytes : List ℕ) → wrong_words bytes false 0o12 ≡ 0 → has_loops bytes 0o12 7 0 ≡ false → has_loops bytes 0o12 7 1 ≡ true
    → dead_line bytes false 0o12 7 ≡ codes "BANK 12 ADDRESS BIT 7 ALWAYS 1\n"
unfolding octal_text digits bank_name of_wrong_parity
lost_half bytes right never some = rw (right, never, some) refl

-- two words were read as one, and 212 parities are wrong
two_as_one : (bytes : List ℕ) → wrong_words bytes false 0o12 ≡ 212
    → dead_line bytes false 0o12 7 ≡ codes "BANK 12 ADDRESS BIT 7 MAKES NO DIFFERENCE, 212 OF WRONG PARITY\n"
unfolding octal_text digits bank_name of_wrong_parity
two_as_one bytes wrong = rw wrong refl

by_both : dead_text true true ≡ codes " MAKES NO DIFFERENCE"
by_both = refl

-- module 3, from 0 on, is banks 22 to 27
fourth : first_bank 3 ≡ 0o22
fourth = refl

ones_text : (bytes : List ℕ) → wrong_in_module bytes false 3 ≡ 6144 → word_of bytes 0o22 0 ≡ 0o77777
    → module_line bytes false 3 ≡ codes "BANKS 22 TO 27 ALL 77777, 6144 OF WRONG PARITY\n"
unfolding octal_text digits of_wrong_parity
ones_text bytes wrong ones = rw (wrong, ones) refl

-- a TC to itself: the word at 12,2100 is 02100, which is no TC to itself at 12,2000
loop : (bytes : List ℕ) → word_of bytes 0o12 0o100 ≡ 0o2100 → is_loop bytes 0o12 0o100 ≡ true
unfolding window
loop bytes word = rw word refl

no_loop : (bytes : List ℕ) → word_of bytes 0o12 0 ≡ 0o2100 → is_loop bytes 0o12 0 ≡ false
unfolding window
no_loop bytes word = rw word refl

some_wrong : of_wrong_parity true 1024 ≡ codes ", 1024 OF WRONG PARITY\n"
unfolding digits of_wrong_parity
some_wrong = refl

none_wrong : of_wrong_parity false 0 ≡ codes "\n"
unfolding of_wrong_parity
none_wrong = refl
