-- Names and their lines, worked out by hand.
use Rattle.std.specs.Prelude.{◌≡◌, refl, true, false, codes}
use Rattle.words.specs.Numerals.{octal_text}
use Rattle.named_source.specs.NamedSources.{column, erasable_lines, fixed_lines, is_counter, is_kept, is_label, is_number, number_line}

-- names that may be labels, and those that may not
letters_of_a_register : is_label (codes "BB") ≡ false
unfolding is_label is_kept is_counter
letters_of_a_register = refl

a_minus_first : is_label (codes "-A") ≡ false
unfolding is_label is_kept is_counter
a_minus_first = refl

a_decimal_number : is_label (codes "12D") ≡ false
unfolding is_label is_kept is_counter
a_decimal_number = refl

a_digit_first : is_label (codes "1.2SPOT") ≡ true
unfolding is_label is_kept is_counter
a_digit_first = refl

an_operator : is_label (codes "TC") ≡ true
unfolding is_label is_kept is_counter
an_operator = refl

-- EDRUPT's first and last word, the ones around them, and 0
first_of_edrupt : is_number true 0o7000 ≡ true
first_of_edrupt = refl

last_of_edrupt : is_number true 0o7777 ≡ true
last_of_edrupt = refl

before_edrupt : is_number true 0o6777 ≡ false
before_edrupt = refl

after_edrupt : is_number true 0o10000 ≡ false
after_edrupt = refl

no_word : is_number false 0 ≡ true
no_word = refl

read_of_channel_0 : is_number true 0 ≡ false
read_of_channel_0 = refl

-- the lines of names
four_letters : column 9 (codes "NEXT") ≡ codes "NEXT     "
four_letters = refl

eight_letters : column 9 (codes "WAITLIST") ≡ codes "WAITLIST "
eight_letters = refl

a_number : number_line (codes "N") 5 ≡ codes "N        EQUALS  00005\n"
unfolding octal_text
a_number = refl

an_erasable_place : erasable_lines (codes "SUM") 0o101 ≡ codes "         SETLOC  0101\nSUM      ERASE\n"
unfolding octal_text
an_erasable_place = refl

a_fixed_place : fixed_lines (codes "B") 4 0o12 ≡ codes "         BANK    04\n         SETLOC  +0012\nB\n"
unfolding octal_text
a_fixed_place = refl
