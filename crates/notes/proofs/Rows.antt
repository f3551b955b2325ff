-- Notes worked by hand.
use Rattle.std.proofs.Common.{◌≡◌, ℕ, Bool, [], ◌∷◌, ◌++◌, true, false, refl, ap, ◌∙◌, unwrap_or, Some, None}
use Rattle.std.specs.Fmt.{digits}
use Rattle.std.specs.FinSet.{contains}
use Rattle.std.specs.Prelude.{codes}
use Rattle.words.specs.Products.{quotient_fits}
use Rattle.space.specs.declared.place.Linear.TheVariants.{Erasable, Fixed}
use Rattle.cpu.specs.declared.account.Account.TheVariants.{Waiting, Place}
use Rattle.cpu.specs.declared.next_step.NextStep.TheVariants.{Takes, Enters, Executes}
use Rattle.json_text.specs.declared.notation.Notation.TheVariants.{Text, Json}
use Rattle.cpu.specs.Run.{run}
use Rattle.cpu.specs.Codes.{basic_rows, code_of}
use Rattle.cpu.specs.Effects.{place_in}
use Rattle.cpu.specs.State.{Scenario, State}
use Rattle.yayul.specs.Named.{Named}
use Rattle.notes.specs.declared.kind.Kind.{Kind}
use Rattle.notes.specs.declared.kind.Kind.TheVariants.{Quotient, Skip, NotKept}
use Rattle.notes.specs.Counted.{counted_more, first_of, first_steps, firsts_by, is_first, left_after, listed_by, taken}
use Rattle.rope.specs.Places.{Words, word_at}
use Rattle.space.specs.Cells.{get}
use Rattle.cpu.specs.declared.next_step.Fetched.{Fetched}
use Rattle.feed.specs.declared.input.Input.TheVariants.{Word}
use Rattle.words.specs.Numerals.{octal_text}
use Rattle.notes.specs.Unread.{unread_at, unread_line, unread_object}
use Rattle.notes.specs.Past.{came_first, enters_shared, entered_at, executes_shared, is_lost, loses, marked, no_past, overwrites, reads_on}
use Rattle.notes.specs.Past.{unread_by}
use Rattle.notes.specs.Notes.{is_ccs, is_code_in_erasable, is_elsewhere, is_erasable, is_one_way, is_way_back, place_named, reaches_other}
use Rattle.json_text.specs.Strings.{escaped, escaped_byte}
use Rattle.trace.specs.StepMembers.{step_members}
use Rattle.notes.specs.RunNotes.{end_text, note_line, note_object, told_line, where_of}
use Rattle.notes.specs.Waits.{asked_at, is_long, kept_text, wait_line, wait_object, waits_since}
use Rattle.notes.proofs.LongWaits.{since_more}

-- 5 in A and 0 in L divided by 1 does not fit, nor does 1 by 1, nor what is divided by 0; 1 divided by 2 does, and so do 5 in L by 1 and -1
-- by 2
five_by_one : quotient_fits 5 0 1 ≡ false
five_by_one = refl

one_by_one : quotient_fits 1 0 1 ≡ false
one_by_one = refl

by_zero : quotient_fits 0 5 0 ≡ false
by_zero = refl

one_by_two : quotient_fits 1 0 2 ≡ true
one_by_two = refl

whole_by_one : quotient_fits 0 5 1 ≡ true
whole_by_one = refl

minus_one_by_two : quotient_fits 0o77776 0 2 ≡ true
minus_one_by_two = refl

-- a word in erasable memory, at Q, and in fixed memory
in_erasable : is_code_in_erasable (Erasable 0o1000) ≡ true
in_erasable = refl

at_q : is_code_in_erasable (Erasable 2) ≡ false
at_q = refl

in_fixed : is_code_in_erasable (Fixed 2 0) ≡ false
in_fixed = refl

-- TC 4123, which leads back from erasable memory; TC 0, and TCF 4000, which do not
abbrev in_a_cell : ℕ → Bool → Fetched
in_a_cell word extra = record { place = Erasable 0o100; word = word; extra = extra; waited = false; added = None }

back : is_way_back (in_a_cell 0o4123 false) ≡ true
back = refl

to_the_window : is_way_back (in_a_cell 0o2000 false) ≡ true
to_the_window = refl

to_a_cell : is_way_back (in_a_cell 0o1777 false) ≡ false
to_a_cell = refl

a_jump : is_way_back (in_a_cell 0o14000 false) ≡ false
a_jump = refl

an_extracode : is_way_back (in_a_cell 0o4123 true) ≡ false
an_extracode = refl

-- TABLE +3 in E3, reached there or in E4, and a place of fixed memory; SQR in bank 6, reached there, in bank 5, and a place of erasable
-- memory
in_its_bank : is_elsewhere (Erasable 0o1403) (Erasable 0o1777) ≡ false
in_its_bank = refl

in_another : is_elsewhere (Erasable 0o1403) (Erasable 0o2003) ≡ true
in_another = refl

out_of_erasable : is_elsewhere (Erasable 0o1403) (Fixed 2 0) ≡ true
out_of_erasable = refl

in_bank_6 : is_elsewhere (Fixed 6 5) (Fixed 6 0o1777) ≡ false
in_bank_6 = refl

in_bank_5 : is_elsewhere (Fixed 6 5) (Fixed 5 5) ≡ true
in_bank_5 = refl

out_of_fixed : is_elsewhere (Fixed 6 5) (Erasable 0o2005) ≡ true
out_of_fixed = refl

-- CA TABLE +3 at 00,2001, which is named there and nowhere else; under E4 it is told, under E3 it is not, and with an index it is passed
-- over
abbrev one_named : Named
one_named = None ∷ Some (Erasable 0o1403) ∷ Some (Fixed 6 5) ∷ []

named_there : place_named one_named (Fixed 0 1) ≡ Some (Erasable 0o1403)
named_there = refl

not_before : place_named one_named (Fixed 0 0) ≡ None
not_before = refl

not_in_erasable : place_named one_named (Erasable 1) ≡ None
not_in_erasable = refl

under_e4 : (s : State) → place_in s 0o1403 ≡ Erasable 0o2003
    → reaches_other one_named s (record { place = Fixed 0 1; word = 0o31403; extra = false; waited = false; added = None }) ≡ true
unfolding basic_rows code_of
under_e4 s e = rw e refl

under_e3 : (s : State) → place_in s 0o1403 ≡ Erasable 0o1403
    → reaches_other one_named s (record { place = Fixed 0 1; word = 0o31403; extra = false; waited = false; added = None }) ≡ false
unfolding basic_rows code_of
under_e3 s e = rw e refl

with_an_index : (s : State) → reaches_other one_named s
    (record { place = Fixed 0 1; word = 0o31403; extra = false; waited = false; added = Some 0 }) ≡ false
with_an_index s = refl

-- TC SQR, 02005, at 00,2002: under FB 5 it is told, under FB 6 it is not, and it is no erasable place
abbrev to_sqr : Fetched
to_sqr = record { place = Fixed 0 2; word = 0o2005; extra = false; waited = false; added = None }

under_fb5 : (s : State) → place_in s 0o2005 ≡ Fixed 5 5 → reaches_other one_named s to_sqr ≡ true
unfolding basic_rows code_of
under_fb5 s e = rw e refl

under_fb6 : (s : State) → place_in s 0o2005 ≡ Fixed 6 5 → reaches_other one_named s to_sqr ≡ false
unfolding basic_rows code_of
under_fb6 s e = rw e refl

not_erasable : is_erasable (place_named one_named (Fixed 0 2)) ≡ false
not_erasable = refl

erasable_there : is_erasable (place_named one_named (Fixed 0 1)) ≡ true
erasable_there = refl

-- CCS A at 02,4002, whose way of +0 is TCF 4010 and that of -0 TCF 4006; whose way of +0 is TCF 4006, where that of -0 is; and whose ways
-- are one word
two_ways : (rope : Words) → word_at rope 2 4 ≡ 0o14010 → word_at rope 2 6 ≡ 0o14006 → is_one_way rope 0o4002 2 2 ≡ false
two_ways rope second fourth = rw (second, fourth) refl

led_there : (rope : Words) → word_at rope 2 4 ≡ 0o14006 → word_at rope 2 6 ≡ 0o30000 → is_one_way rope 0o4002 2 2 ≡ true
led_there rope second fourth = rw (second, fourth) refl

one_word : (rope : Words) → word_at rope 2 4 ≡ 0o14010 → word_at rope 2 6 ≡ 0o14010 → is_one_way rope 0o4002 2 2 ≡ true
one_word rope second fourth = rw (second, fourth) refl

-- 10000 is CCS A, and under extracode DV A; 12000 is none
of_ccs : is_ccs (record { place = Fixed 2 2; word = 0o10000; extra = false; waited = false; added = None }) ≡ true
of_ccs = refl

of_division : is_ccs (record { place = Fixed 2 2; word = 0o10000; extra = true; waited = false; added = None }) ≡ false
of_division = refl

of_tcf : is_ccs (record { place = Fixed 2 2; word = 0o12000; extra = false; waited = false; added = None }) ≡ false
of_tcf = refl

-- before any interrupt nothing is lost, and a handler that has set ZRUPT to 4003 for 4002 may leave A at 1
nothing_found : (s : State) → is_lost s None ≡ false
nothing_found s = refl

gone_elsewhere : (s : State) → get s.cells 0o15 ≡ 0o4003
    → is_lost s (Some (record { a = 0; l = 0; q = 0; eb = 0; fb = 0; superbank = 0; back = 0o4002 })) ≡ false
gone_elsewhere s e = rw e refl

changed_a : (s : State) → get s.cells 0o15 ≡ 0o4002 → get s.cells 0 ≡ 1
    → is_lost s (Some (record { a = 0; l = 0; q = 0; eb = 0; fb = 0; superbank = 0; back = 0o4002 })) ≡ true
changed_a s e a = rw (e, a) refl

-- EXTEND before RESUME makes it another instruction
under_extracode : (s : State) → loses s no_past (record { place = Fixed 2 2; word = 0o50017; extra = true; waited = false; added = None })
    ≡ false
under_extracode s = refl

-- T3RUPT is entered at 4014; a word that RESUME brought is nowhere
entry : where_of (Enters 3) ≡ Place (Fixed 2 0o14)
entry = refl

at_its_place : where_of (Executes (record { place = Fixed 2 4; word = 0o10100; extra = true; waited = false; added = None }))
    ≡ Place (Fixed 2 4)
at_its_place = refl

resumed : where_of (Executes (record { place = Fixed 2 4; word = 0o10100; extra = false; waited = true; added = None })) ≡ Waiting
resumed = refl

-- a count once more, taken, and left
counted : counted_more (4 ∷ 7 ∷ 0 ∷ []) 1 true ≡ 4 ∷ 8 ∷ 0 ∷ []
counted = refl

not_counted : counted_more (4 ∷ 7 ∷ 0 ∷ []) 1 false ≡ 4 ∷ 7 ∷ 0 ∷ []
not_counted = refl

first_there : is_first (4 ∷ 7 ∷ 0 ∷ []) 2 true ≡ true
first_there = refl

not_first : is_first (4 ∷ 7 ∷ 0 ∷ []) 1 true ≡ false
not_first = refl

taken_once : taken (4 ∷ 7 ∷ 0 ∷ []) 1 true ≡ 7
taken_once = refl

nothing_left : left_after (4 ∷ 7 ∷ 0 ∷ []) 1 true ≡ 4 ∷ 0 ∷ 0 ∷ []
nothing_left = refl

-- lines
of_dv : note_line Quotient (codes "02,4004  10100  DV D               ") 5 13 1
    ≡ codes "NOTE QUOTIENT   02,4004  10100  DV D               STEP 5 CYCLES 13 TIMES 1" ++ 10 ∷ []
unfolding note_line digits
of_dv = refl

of_resume : note_line NotKept (codes "02,4016  50017  RESUME             ") 21 39 1
    ≡ codes "NOTE NOTKEPT    02,4016  50017  RESUME             STEP 21 CYCLES 39 TIMES 1" ++ 10 ∷ []
unfolding note_line digits
of_resume = refl

of_nothing : told_line Text Skip (codes "02,4004  10100  DV D               ") 5 13 0 ≡ []
of_nothing = refl

inside : end_text Text true 20 ≡ codes "NOTE INSIDE STEP 20" ++ 10 ∷ []
unfolding end_text digits
inside = refl

outside : end_text Text false 20 ≡ []
unfolding end_text
outside = refl

-- an interrupt that waits: from the step that asks for it to the one that enters it, and anew from where it is asked for again
since_first : (scenario : Scenario) → contains (run scenario 1).requests 3 ≡ true → contains (run scenario 2).requests 3 ≡ true
    → waits_since scenario 3 2 ≡ Some 1
unfolding waits_since
since_first scenario one two = since_more scenario 3 1 true two ∙ ap (λ t. Some (unwrap_or t 2)) (since_more scenario 3 0 true one)

entered : (scenario : Scenario) → contains (run scenario 3).requests 3 ≡ false → waits_since scenario 3 3 ≡ None
entered scenario three = since_more scenario 3 2 false three

since_again : (scenario : Scenario) → contains (run scenario 3).requests 3 ≡ false → contains (run scenario 4).requests 3 ≡ true
    → waits_since scenario 3 4 ≡ Some 4
since_again scenario three four = since_more scenario 3 3 true four ∙ ap (λ t. Some (unwrap_or t 4)) (since_more scenario 3 2 false three)

-- 853 cycles are long, and 852 are not
long : is_long 873 (Some (record { step = 12; cycles = 20 })) ≡ true
long = refl

not_long : is_long 872 (Some (record { step = 12; cycles = 20 })) ≡ false
not_long = refl

never : is_long 872 None ≡ false
never = refl

-- asked for once more an interrupt waits since when it did
asked_first : asked_at 2 (record { step = 7; cycles = 9 }) (None ∷ None ∷ None ∷ [])
    ≡ None ∷ None ∷ Some (record { step = 7; cycles = 9 }) ∷ []
asked_first = refl

asked_again : asked_at 1 (record { step = 7; cycles = 9 }) (None ∷ Some (record { step = 5; cycles = 6 }) ∷ [])
    ≡ None ∷ Some (record { step = 5; cycles = 6 }) ∷ []
asked_again = refl

-- T3RUPT, asked for by step 12 that ends at cycle 20
of_waiting : wait_line 3 (record { step = 12; cycles = 20 }) ≡ codes "NOTE WAITING T3RUPT STEP 12 CYCLES 20" ++ 10 ∷ []
unfolding wait_line digits
of_waiting = refl

-- of ten the two that wait long, in their order
two_of_ten : kept_text Text 1000 (None ∷ None ∷ None ∷ Some (record { step = 12; cycles = 20 }) ∷ Some (record { step = 500; cycles = 900 })
    ∷ None ∷ None ∷ None ∷ None ∷ None ∷ Some (record { step = 2; cycles = 4 }) ∷ [])
    ≡ codes "NOTE WAITING T3RUPT STEP 12 CYCLES 20" ++ 10 ∷ codes "NOTE WAITING RUPT10 STEP 2 CYCLES 4" ++ 10 ∷ []
unfolding wait_line digits
two_of_ten = refl

-- the same as JSON: the note of DV, at a place whose symbol has a quote
object_of_dv : note_object Quotient (step_members (Some (codes "02,4004")) (Some (codes "Q\"")) (Some (codes "10100")) (codes "DV D")) 5 13
    1
    ≡ (codes "{\"kind\":\"QUOTIENT\",\"place\":\"02,4004\",\"symbol\":\"Q\\\"\",\"word\":\"10100\",\"text\":\"DV D\",\"step\":5,"
    ++ codes "\"cycles\":13,\"count\":1}") ++ 10 ∷ []
unfolding note_object step_members digits escaped escaped_byte
object_of_dv = refl

object_of_nothing : told_line Json Skip (codes "x") 5 13 0 ≡ []
object_of_nothing = refl

inside_object : end_text Json true 20 ≡ codes "{\"kind\":\"INSIDE\",\"step\":20}" ++ 10 ∷ []
unfolding end_text digits
inside_object = refl

waiting_object : wait_object 3 (record { step = 12; cycles = 20 })
    ≡ codes "{\"kind\":\"WAITING\",\"interrupt\":\"T3RUPT\",\"step\":12,\"cycles\":20}" ++ 10 ∷ []
unfolding wait_object digits
waiting_object = refl

-- READ 15, RXOR 15 and WAND 15 read channel 15; WRITE 15 does not, nor READ 16, the seventh instruction of channels, or TC 15 without
-- EXTEND
abbrev of_channel : ℕ → Bool → Fetched
of_channel word extra = record { place = Fixed 2 2; word = word; extra = extra; waited = false; added = None }

of_read : reads_on 0o15 (of_channel 0o15 true) ≡ true
of_read = refl

of_rxor : reads_on 0o15 (of_channel 0o6015 true) ≡ true
of_rxor = refl

of_wand : reads_on 0o15 (of_channel 0o3015 true) ≡ true
of_wand = refl

of_write : reads_on 0o15 (of_channel 0o1015 true) ≡ false
of_write = refl

of_another : reads_on 0o15 (of_channel 0o16 true) ≡ false
of_another = refl

of_the_seventh : reads_on 0o15 (of_channel 0o7015 true) ≡ false
of_the_seventh = refl

of_tc : reads_on 0o15 (of_channel 0o15 false) ≡ false
of_tc = refl

-- a key is unread from its word on until it is read
after_a_key : unread_by 0o15 false (Takes (Word 0o15 4)) ≡ true
after_a_key = refl

after_another : unread_by 0o15 false (Takes (Word 0o16 4)) ≡ false
after_another = refl

after_an_entry : unread_by 0o15 true (Enters 5) ≡ true
after_an_entry = refl

after_a_read : unread_by 0o15 true (Executes (of_channel 0o15 true)) ≡ false
after_a_read = refl

-- a second key, where the first is unread and where it was read; and the first of the other keyboard
second_key : overwrites (record no_past { first_key = true }) (Word 0o15 5) ≡ true
second_key = refl

first_key : overwrites no_past (Word 0o15 5) ≡ false
first_key = refl

other_key : overwrites (record no_past { first_key = true }) (Word 0o16 5) ≡ false
other_key = refl

-- T6RUPT is entered at 4004, RUPT10 at 4050; nothing at 4000, 4006, 4054, or in bank 3
first_entry : entered_at (Fixed 2 0o4) ≡ Some 1
first_entry = refl

last_entry : entered_at (Fixed 2 0o50) ≡ Some 10
last_entry = refl

before_all : entered_at (Fixed 2 0) ≡ None
before_all = refl

within_one : entered_at (Fixed 2 0o6) ≡ None
within_one = refl

behind_all : entered_at (Fixed 2 0o54) ≡ None
behind_all = refl

in_bank_3 : entered_at (Fixed 3 0o4) ≡ None
in_bank_3 = refl

-- the program has come by 4010, where T5RUPT is entered then
shared_entry : enters_shared (record no_past { passed = marked no_past.passed (Some 2) }) 2 ≡ true
shared_entry = refl

own_entry : enters_shared (record no_past { passed = marked no_past.passed (Some 2) }) 3 ≡ false
own_entry = refl

-- it comes there after T5RUPT was entered; within an interrupt it is the handler
comes_there : (s : State) → s.inside ≡ false → executes_shared s (record no_past { entered = marked no_past.entered (Some 2) })
    (record { place = Fixed 2 0o10; word = 0o30007; extra = false; waited = false; added = None }) ≡ true
comes_there s out = rw out refl

is_the_handler : (s : State) → s.inside ≡ true
    → executes_shared s (record no_past { entered = marked no_past.entered (Some 2) })
    (record { place = Fixed 2 0o10; word = 0o30007; extra = false; waited = false; added = None }) ≡ false
is_the_handler s served = rw served refl

resumes_nothing : (s : State) → s.inside ≡ false
    → executes_shared s no_past (record { place = Fixed 2 0o100; word = 0o50017; extra = false; waited = false; added = None }) ≡ true
resumes_nothing s out = rw out refl

-- the first word on channel 1 of three comes after 9 cycles, and another one after 12
came_once : came_first (None ∷ None ∷ None ∷ []) 1 9 ≡ None ∷ Some 9 ∷ None ∷ []
came_once = refl

came_again : came_first (None ∷ Some 9 ∷ None ∷ []) 1 12 ≡ None ∷ Some 9 ∷ None ∷ []
came_again = refl

-- a word after 20 cycles on channel 13: 853 later, 852 later, and where it was read
of_unread : unread_at Text 873 0o13 (Some 20) false ≡ codes "NOTE UNREAD CHAN 013 CYCLES 20" ++ 10 ∷ []
unfolding unread_line octal_text digits
of_unread = refl

unread_object_of : unread_at Json 873 0o13 (Some 20) false ≡ codes "{\"kind\":\"UNREAD\",\"channel\":\"013\",\"cycles\":20}" ++ 10 ∷ []
unfolding unread_object octal_text digits
unread_object_of = refl

not_long_unread : unread_at Text 872 0o13 (Some 20) false ≡ []
not_long_unread = refl

read_there : unread_at Text 873 0o13 (Some 20) true ≡ []
read_there = refl

-- a step in which Skip alone happens for the first time is listed as that; one in which nothing does is not
abbrev skip_alone : Kind → Bool
skip_alone Skip = true
skip_alone kind = false

listed_skip : listed_by (firsts_by skip_alone) 5 ≡ record { number = 5; kinds = firsts_by skip_alone } ∷ []
listed_skip = refl

skip_is_first : first_of (firsts_by skip_alone) Skip ≡ true
skip_is_first = refl

quotient_is_not : first_of (firsts_by skip_alone) Quotient ≡ false
quotient_is_not = refl

nothing_is_listed : listed_by (firsts_by (λ kind. false)) 5 ≡ []
nothing_is_listed = refl

-- of no steps none
none_of_none : (named : Named) (scenario : Scenario) → first_steps named scenario 7 0 ≡ []
unfolding first_steps
none_of_none named scenario = refl
