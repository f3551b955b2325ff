-- Rows of alignments, worked by hand.
use Rattle.std.proofs.Common.{◌≡◌, [], ◌∷◌, true, false, Some, None, refl}
use Rattle.std.specs.Prelude.{codes}
use Rattle.std.specs.Fmt.{digits}
use Rattle.space.specs.Places.{window}
use Rattle.words.specs.Numerals.{octal_text}
use Rattle.rope.specs.Places.{Words, bank_words}
use Rattle.audit.specs.FormSums.{holds_sum}
use Rattle.audit.specs.Sums.{sum_before}
use Rattle.cpu.specs.Codes.{basic_rows, extracode_rows, code_of}
use Rattle.audit.specs.WordLines.{place_text}
use Rattle.align.specs.declared.view.View.TheVariants.{New, Old, Passage}
use Rattle.align.specs.AlignLines.{Sides, sides, line_at, stand_free, stretch_line, ends, joins, words_before, name_of_place}
use Rattle.align.specs.Alignments.{Renaming, renaming}
use Rattle.align.specs.CarriedNames.{carried_line}
use Rattle.align.specs.Carried.{has_resumed, is_last, is_sure_ahead, is_sure_back, resumes}
use Rattle.align.specs.Pairings.{Entries, Pairing, at, follows, pairing, is_next, goes_on, goes_on_for, is_long, is_right_at}
use Rattle.align.specs.Pairings.{could_grow_ahead, could_grow_back}
use Rattle.align.specs.Tokens.{compared, ends_checked, is_loop, token}
use Rattle.symbols.specs.declared.values.Value.TheVariants.{Num, Fixed}

-- ## What is compared of a word
-- AD 4005 leads to fixed memory, AD 0100 to erasable memory
fixed_address : token [] 0 false 0o64005 ≡ 0o67777
unfolding basic_rows code_of
fixed_address = refl

erasable_address : token [] 0 false 0o60100 ≡ 0o60100
unfolding basic_rows code_of
erasable_address = refl

-- TCF 2000 leads to the first place of fixed memory; CCS 1777 is the word before it
first_fixed : token [] 0 false 0o12000 ≡ 0o17777
unfolding basic_rows code_of
first_fixed = refl

last_erasable : token [] 0 false 0o11777 ≡ 0o11777
unfolding basic_rows code_of
last_erasable = refl

-- INHINT names no address
no_address : token [] 0 false 0o4 ≡ 0o4
unfolding basic_rows code_of
no_address = refl

-- MP 4005 is the word of MASK 4005, and not equal to it; WOR 11 has a channel; DCA 4005 is 34006
product : token [] 0 true 0o74005 ≡ 0o177777
unfolding extracode_rows code_of
product = refl

channel : token [] 0 true 0o5011 ≡ 0o105011
unfolding extracode_rows code_of
channel = refl

pair_of_words : token [] 0 true 0o34006 ≡ 0o137777
unfolding extracode_rows code_of
pair_of_words = refl

-- TC 2000 is no check word, which stands for itself whatever its number is
least_address : token [] 0 false 0o2000 ≡ 0o7777
unfolding basic_rows code_of
least_address = refl

check_word : compared [] 0 true false 0o72725 ≡ 0o2000
check_word = refl

-- two TC to themselves alone, and so with a third word that makes the sum
no_third : (words : Words) → ends_checked words 5 2 ≡ false
unfolding ends_checked
no_third words = refl

with_third : (words : Words) → is_loop words 5 4 ≡ true → is_loop words 5 5 ≡ true → holds_sum 5 (sum_before words 5 bank_words) ≡ true
    → ends_checked words 5 7 ≡ true
unfolding ends_checked
with_third words first second sum = rw (first, second, sum) refl

wrong_sum : (words : Words) → is_loop words 5 4 ≡ true → is_loop words 5 5 ≡ true → holds_sum 5 (sum_before words 5 bank_words) ≡ false
    → ends_checked words 5 7 ≡ false
unfolding ends_checked
wrong_sum words first second sum = rw (first, second, sum) refl

-- ## Addresses: CADR of 14,2221 is 30221, and where that has become 20,2374 it is 40374; a number of bank 0 is no address, nor is an
-- extracode
led : (to_new : Entries) → at to_new 0o30221 ≡ Some 0o40374 → follows to_new (Some 0o30221) (Some 0o40374) ≡ true
led to_new e = rw e refl

led_elsewhere : (to_new : Entries) → at to_new 0o30221 ≡ Some 0o40374 → follows to_new (Some 0o30221) (Some 0o40375) ≡ false
led_elsewhere to_new e = rw e refl

small_number : (to_new : Entries) → follows to_new (Some 5) (Some 6) ≡ false
small_number to_new = refl

no_number : (to_new : Entries) → follows to_new (Some 0o100005) (Some 0o100006) ≡ false
no_number to_new = refl

-- ## Runs
comes_next : is_next (Some 5) (Some 6) ≡ true
comes_next = refl

skips : is_next (Some 5) (Some 7) ≡ false
skips = refl

-- 1023 is the last place of bank 0, 1024 the first of bank 1
leaves_the_bank : is_next (Some 1023) (Some 1024) ≡ false
leaves_the_bank = refl

-- one word is put before three others, which are the same: the third of the new rope is the second of the old one
old : Entries
old = Some 0o30100 ∷ Some 0o54101 ∷ Some 0o7777 ∷ []

new : Entries
new = Some 0o4 ∷ Some 0o30100 ∷ Some 0o54101 ∷ Some 0o7777 ∷ []

to_old : Entries
to_old = None ∷ Some 0 ∷ Some 1 ∷ Some 2 ∷ []

to_new : Entries
to_new = Some 1 ∷ Some 2 ∷ Some 3 ∷ []

put_before : Pairing
put_before = pairing old old new to_old to_new

right_0 : is_right_at 3 put_before 0 ≡ true
unfolding put_before old new to_old to_new is_right_at
right_0 = refl

right_1 : is_right_at 3 put_before 1 ≡ true
unfolding put_before old new to_old to_new is_right_at is_long goes_on goes_on_for could_grow_ahead could_grow_back
right_1 = refl

right_3 : is_right_at 3 put_before 3 ≡ true
unfolding put_before old new to_old to_new is_right_at is_long goes_on goes_on_for could_grow_ahead could_grow_back
right_3 = refl

-- a run of three is no run of four
too_short : is_right_at 4 put_before 1 ≡ false
unfolding put_before old new to_old to_new is_right_at is_long goes_on goes_on_for could_grow_ahead could_grow_back
too_short = refl

-- the third word is equal too, and left out
short : Pairing
short = pairing old old new (None ∷ Some 0 ∷ Some 1 ∷ None ∷ []) (Some 1 ∷ Some 2 ∷ None ∷ [])

one_short : is_right_at 2 short 2 ≡ false
unfolding short old new is_right_at is_long goes_on goes_on_for could_grow_ahead could_grow_back
one_short = refl

-- two words are paired with one
twice : Pairing
twice = pairing old old new (None ∷ Some 0 ∷ Some 0 ∷ None ∷ []) (Some 1 ∷ None ∷ None ∷ [])

told_twice : is_right_at 1 twice 2 ≡ false
unfolding twice old new is_right_at is_long goes_on goes_on_for could_grow_ahead could_grow_back
told_twice = refl

-- ## Lines
-- the new word ends at place 0, the run at place 3; nothing ends within the run
at_new : Sides
at_new = sides to_old new to_new old

new_word : line_at New at_new 0 0 ≡ codes "NEW 00,2000 WORDS 1\n"
unfolding at_new line_at ends joins words_before to_old new name_of_place place_text octal_text window digits
new_word = refl

within_the_run : line_at New at_new 0 2 ≡ []
unfolding at_new line_at ends joins words_before to_old new
within_the_run = refl

moved : stretch_line New at_new 3 3 (Some 2) (Some 0o7777) ≡ codes "MOVED 00,2000 00,2001 WORDS 3\n"
unfolding name_of_place place_text octal_text window digits
moved = refl

-- a run at its old place has no line
stayed : stretch_line New at_new 3 2 (Some 2) (Some 0o7777) ≡ []
stayed = refl

-- the last two words of bank 2, whose last place is 2 * 1024 + 1023
gone : stretch_line Old at_new 2 3071 None (Some 4) ≡ codes "GONE 02,5776 WORDS 2\n"
unfolding at_new to_old name_of_place place_text octal_text window digits
gone = refl

found : stretch_line Passage at_new 1 0 (Some 1024) (Some 4) ≡ codes "FOUND 00,2000 01,2000 WORDS 1\n"
unfolding name_of_place place_text octal_text window digits
found = refl

-- the second of three words is another one, told once, by the view of the new rope
changed : Sides
changed = sides (Some 0 ∷ None ∷ Some 2 ∷ []) old (Some 0 ∷ None ∷ Some 2 ∷ []) old

another_word : line_at New changed 0 1 ≡ codes "CHANGED 00,2001 00,2001 WORDS 1\n"
unfolding changed old line_at ends joins words_before stand_free name_of_place place_text octal_text window digits
another_word = refl

not_gone : line_at Old changed 0 1 ≡ []
unfolding changed old line_at ends joins words_before stand_free
not_gone = refl

-- ## Names
-- nothing is renamed, and no word names an address
plain : Renaming
plain = renaming [] [] []

-- both banks end behind the third word, but the run begins in the midst of the new one
begins_elsewhere : carried_line plain put_before (codes "START", Fixed 0 0) ≡ codes "# UNSURE START FIXED 00,0001\n"
unfolding put_before old new to_old to_new is_last is_sure_ahead is_sure_back goes_on octal_text
begins_elsewhere = refl

-- a changed word between two that stayed is passed over
kept_around : Pairing
kept_around = pairing old old old (Some 0 ∷ None ∷ Some 2 ∷ []) (Some 0 ∷ None ∷ Some 2 ∷ [])

before_the_change : carried_line plain kept_around (codes "FIRST", Fixed 0 0) ≡ codes "FIRST FIXED 00,0000\n"
unfolding kept_around old is_last is_sure_ahead is_sure_back goes_on resumes octal_text
before_the_change = refl

behind_the_change : carried_line plain kept_around (codes "THIRD", Fixed 0 2) ≡ codes "THIRD FIXED 00,0002\n"
unfolding kept_around old is_last is_sure_ahead is_sure_back goes_on has_resumed octal_text
behind_the_change = refl

changed_name : carried_line plain kept_around (codes "SECOND", Fixed 0 1) ≡ codes "# UNSURE SECOND FIXED 00,0001\n"
unfolding kept_around old resumes octal_text
changed_name = refl

-- where the words around it have changed places it is not
crossed : Pairing
crossed = pairing old old old (Some 2 ∷ None ∷ Some 0 ∷ []) (Some 2 ∷ None ∷ Some 0 ∷ [])

at_a_crossing : carried_line plain crossed (codes "FIRST", Fixed 0 0) ≡ codes "# UNSURE FIRST FIXED 00,0002\n"
unfolding crossed old is_last is_sure_ahead is_sure_back goes_on resumes octal_text
at_a_crossing = refl

-- where both begin at the first place of a bank it is sure
alike : Pairing
alike = pairing old old old (Some 0 ∷ Some 1 ∷ Some 2 ∷ []) (Some 0 ∷ Some 1 ∷ Some 2 ∷ [])

stays_sure : carried_line plain alike (codes "START", Fixed 0 1) ≡ codes "START FIXED 00,0001\n"
unfolding alike old is_last is_sure_ahead is_sure_back goes_on octal_text
stays_sure = refl

-- a place where no word is paired
no_word : carried_line plain put_before (codes "FAR", Fixed 0o43 0o1777) ≡ codes "# GONE FAR FIXED 43,1777\n"
unfolding put_before to_new octal_text
no_word = refl

number : carried_line plain put_before (codes "TEN", Num 0o12) ≡ codes "TEN NUM 00012\n"
unfolding octal_text
number = refl
