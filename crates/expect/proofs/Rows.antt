-- Rows of texts of tests, worked out by hand.
use Rattle.std.proofs.Common.{◌≡◌, ℕ, List, [], ◌∷◌, replicate, true, false, refl, Option, Some, None, Ok, Err}
use Rattle.std.specs.Prelude.{codes}
use Rattle.agc_text.specs.Fields.{runs, texts}
use Rattle.agc_text.specs.Lines.{lines}
use Rattle.expect.specs.Claims.{breaks, lacks, related}
use Rattle.expect.specs.Fields.{relation_in, value_in}
use Rattle.expect.specs.Facts.{Facts, cited, misses}
use Rattle.expect.specs.Kinds.{and_spot, first_other, is_other, nothing_allowed, place_noted}
use Rattle.expect.specs.Lines.{claims_of, kinds_at, most_cycles, words_at}
use Rattle.expect.specs.Statements.{before_return}
use Rattle.expect.specs.Texts.{claims_after, heading_of, in_test}
use Rattle.expect.specs.declared.claim.Allowed.{Allowed}
use Rattle.expect.specs.declared.claim.Claim.TheVariants.{Puts, PutsNoMore, Always, Never, AtEnd, At, Calls, CallsWithin}
use Rattle.expect.specs.declared.claim.Claim.TheVariants.{Notes, Check, Covered}
use Rattle.expect.specs.declared.claim.Relation.TheVariants.{Same, Other, Less, Greater, AtMost, AtLeast}
use Rattle.expect.specs.declared.refusal.Asked.TheVariants as asked
use Rattle.space.specs.declared.place.Linear.TheVariants.{Erasable, Fixed}
use Rattle.space.specs.Places.{window}

-- ## Words: 77776 is -1, 77777 is -0
minus_one_is_less : related Less 0o77776 0 ≡ true
minus_one_is_less = refl

minus_zero_is_not_less : related Less 0o77777 0 ≡ false
minus_zero_is_not_less = refl

minus_zero_is_at_most_zero : related AtMost 0 0o77777 ≡ true
minus_zero_is_at_most_zero = refl

minus_zero_is_another_word : related Same 0o77777 0 ≡ false
minus_zero_is_another_word = refl

greatest_is_greater : related Greater 0o37777 0o40000 ≡ true
greatest_is_greater = refl

least_is_at_least_itself : related AtLeast 0o40000 0o40000 ≡ true
least_is_at_least_itself = refl

other_is_other : related Other 1 2 ≡ true
other_is_other = refl

-- ## Fields
octal_word : value_in (codes "144") ≡ Some 100
octal_word = refl

decimal_word : value_in (codes "100D") ≡ Some 0o144
decimal_word = refl

minus_five : value_in (codes "-5D") ≡ Some 0o77772
minus_five = refl

plus_five : value_in (codes "+5D") ≡ Some 5
plus_five = refl

minus_nothing : value_in (codes "-0D") ≡ Some 0o77777
minus_nothing = refl

too_great : value_in (codes "16384D") ≡ None
too_great = refl

greatest : value_in (codes "16383D") ≡ Some 0o37777
greatest = refl

sign_alone : value_in (codes "-D") ≡ None
sign_alone = refl

letter_alone : value_in (codes "D") ≡ None
letter_alone = refl

octal_with_sign : value_in (codes "-5") ≡ None
octal_with_sign = refl

eight_is_no_octal : value_in (codes "8") ≡ None
eight_is_no_octal = refl

-- ## Lines
two_words : claims_of [] (codes "CHANNEL" ∷ codes "010" ∷ codes "12" ∷ codes "34" ∷ codes "THEN" ∷ codes "NOTHING" ∷ []) ≡
    Ok (Puts (record { channel = 8; before = 0; word = 0o12; within = most_cycles })
    ∷ Puts (record { channel = 8; before = 1; word = 0o34; within = most_cycles }) ∷ PutsNoMore 8 2 ∷ [])
unfolding words_at
two_words = refl

in_time : claims_of [] (codes "CHANNEL" ∷ codes "10" ∷ codes "WITHIN" ∷ codes "99" ∷ codes "CYCLES" ∷ codes "5D" ∷ []) ≡
    Ok (Puts (record { channel = 8; before = 0; word = 5; within = 99 }) ∷ [])
unfolding words_at
in_time = refl

nothing_on_it : claims_of [] (codes "CHANNEL" ∷ codes "10" ∷ codes "NOTHING" ∷ []) ≡ Ok (PutsNoMore 8 0 ∷ [])
nothing_on_it = refl

then_is_no_word : claims_of [] (codes "CHANNEL" ∷ codes "10" ∷ codes "THEN" ∷ codes "NOTHING" ∷ [])
    ≡ Err (record { field = 2; asked = asked.Put })
unfolding words_at
then_is_no_word = refl

nothing_is_not_all : claims_of [] (codes "CHANNEL" ∷ codes "10" ∷ codes "12" ∷ codes "THEN" ∷ [])
    ≡ Err (record { field = 4; asked = asked.Nothing })
unfolding words_at
nothing_is_not_all = refl

at_the_end : claims_of [] (codes "AT" ∷ codes "END" ∷ codes "A" ∷ codes "=" ∷ codes "5D" ∷ [])
    ≡ Ok (AtEnd (record { place = 0; relation = Same; word = 5 }) ∷ [])
at_the_end = refl

always_less : claims_of [] (codes "ALWAYS" ∷ codes "100" ∷ codes "<" ∷ codes "10D" ∷ [])
    ≡ Ok (Always (record { place = 0o100; relation = Less; word = 10 }) ∷ [])
always_less = refl

at_a_place : claims_of [] (codes "AT" ∷ codes "4000" ∷ codes "L" ∷ codes "<>" ∷ codes "0" ∷ [])
    ≡ Ok (At (Fixed 2 0) (record { place = 1; relation = Other; word = 0 }) ∷ [])
at_a_place = refl

no_relation : claims_of [] (codes "NEVER" ∷ codes "A" ∷ codes "5" ∷ []) ≡ Err (record { field = 2; asked = asked.Relation })
no_relation = refl

too_much : claims_of [] (codes "NEVER" ∷ codes "A" ∷ codes "=" ∷ codes "5" ∷ codes "D" ∷ []) ≡ Err (record { field = 4; asked = asked.End })
too_much = refl

fixed_memory_is_no_cell : claims_of [] (codes "ALWAYS" ∷ codes "4000" ∷ codes "=" ∷ codes "5" ∷ [])
    ≡ Err (record { field = 1; asked = asked.Cell })
fixed_memory_is_no_cell = refl

at_a_place_moved_on : claims_of [] (codes "AT" ∷ codes "4000" ∷ codes "+12" ∷ codes "L" ∷ codes "<>" ∷ codes "0" ∷ [])
    ≡ Ok (At (Fixed 2 10) (record { place = 1; relation = Other; word = 0 }) ∷ [])
at_a_place_moved_on = refl

a_cell_moved_on : claims_of [] (codes "AT" ∷ codes "END" ∷ codes "100" ∷ codes "+3" ∷ codes "=" ∷ codes "5D" ∷ [])
    ≡ Ok (AtEnd (record { place = 0o103; relation = Same; word = 5 }) ∷ [])
a_cell_moved_on = refl

moved_out_of_memory : claims_of [] (codes "NEVER" ∷ codes "3777" ∷ codes "+1" ∷ codes "=" ∷ codes "5" ∷ [])
    ≡ Err (record { field = 2; asked = asked.Offset })
moved_out_of_memory = refl

called_so_often : claims_of [] (codes "CALLS" ∷ codes "4000" ∷ codes "3" ∷ []) ≡ Ok (Calls (Fixed 2 0) 3 ∷ [])
called_so_often = refl

called_for_so_long : claims_of [] (codes "CALLS" ∷ codes "4000" ∷ codes "WITHIN" ∷ codes "90" ∷ codes "CYCLES" ∷ [])
    ≡ Ok (CallsWithin (Fixed 2 0) 90 ∷ [])
called_for_so_long = refl

no_number_of_calls : claims_of [] (codes "CALLS" ∷ codes "4000" ∷ codes "often" ∷ []) ≡ Err (record { field = 2; asked = asked.Calls })
no_number_of_calls = refl

no_notes : claims_of [] (codes "NOTES" ∷ codes "NONE" ∷ []) ≡ Ok (Notes nothing_allowed ∷ [])
no_notes = refl

notes_of_two_kinds : claims_of [] (codes "NOTES" ∷ codes "QUOTIENT" ∷ codes "UNREAD" ∷ [])
    ≡ Ok (Notes (record { kinds = 8193; count = 0; spots = replicate 8 None }) ∷ [])
unfolding kinds_at
notes_of_two_kinds = refl

-- SKIP at 4005 and at 4003 +2, which is the same place, and QUOTIENT anywhere
abbrev two_skips : Allowed
two_skips = record {
  kinds = 1;
  count = 2;
  spots = Some (record { kind = 2; place = Fixed 2 5 }) ∷ Some (record { kind = 2; place = Fixed 2 5 }) ∷ replicate 6 None;
}

notes_at_places : claims_of []
    (codes "NOTES" ∷ codes "SKIP" ∷ codes "AT" ∷ codes "4005" ∷ codes "QUOTIENT" ∷ codes "SKIP" ∷ codes "AT" ∷ codes "4003" ∷ codes "+2" ∷ [])
    ≡ Ok (Notes two_skips ∷ [])
unfolding kinds_at
notes_at_places = refl

notes_at_nothing : claims_of [] (codes "NOTES" ∷ codes "SKIP" ∷ codes "AT" ∷ []) ≡ Err (record { field = 3; asked = asked.Routine })
unfolding kinds_at
notes_at_nothing = refl

notes_at_no_place : claims_of [] (codes "NOTES" ∷ codes "SKIP" ∷ codes "AT" ∷ codes "SKIP" ∷ []) ≡ Err (record { field = 3; asked = asked.Routine })
unfolding kinds_at
notes_at_no_place = refl

notes_beyond_the_bank : claims_of [] (codes "NOTES" ∷ codes "SKIP" ∷ codes "AT" ∷ codes "4005" ∷ codes "+2000" ∷ [])
    ≡ Err (record { field = 4; asked = asked.Offset })
unfolding kinds_at
notes_beyond_the_bank = refl

at_of_no_kind : claims_of [] (codes "NOTES" ∷ codes "AT" ∷ codes "4005" ∷ []) ≡ Err (record { field = 1; asked = asked.Kind })
unfolding kinds_at
at_of_no_kind = refl

moved_on_twice : claims_of [] (codes "NOTES" ∷ codes "SKIP" ∷ codes "AT" ∷ codes "4005" ∷ codes "+1" ∷ codes "+1" ∷ [])
    ≡ Err (record { field = 5; asked = asked.Kind })
unfolding kinds_at
moved_on_twice = refl

a_ninth_place : and_spot (record { kinds = 0; count = 8; spots = [] }) (record { kind = 2; place = Fixed 2 5 }) ≡ None
a_ninth_place = refl

notes_of_nothing : claims_of [] (codes "NOTES" ∷ []) ≡ Err (record { field = 1; asked = asked.Notes })
notes_of_nothing = refl

notes_of_no_kind : claims_of [] (codes "NOTES" ∷ codes "SKIP" ∷ codes "SKIPS" ∷ []) ≡ Err (record { field = 2; asked = asked.Kind })
unfolding kinds_at
notes_of_no_kind = refl

nothing_behind_none : claims_of [] (codes "NOTES" ∷ codes "NONE" ∷ codes "SKIP" ∷ []) ≡ Err (record { field = 2; asked = asked.End })
nothing_behind_none = refl

twelve_words : claims_of [] (codes "COVERED" ∷ codes "12" ∷ []) ≡ Ok (Covered 12 ∷ [])
twelve_words = refl

no_number_of_words : claims_of [] (codes "COVERED" ∷ codes "ALL" ∷ []) ≡ Err (record { field = 1; asked = asked.Least })
no_number_of_words = refl

a_clean_source : claims_of [] (codes "CHECK" ∷ []) ≡ Ok (Check ∷ [])
a_clean_source = refl

-- ## Notes: QUOTIENT has the number 1, SKIP 2, UNREAD 8192
abbrev some_notes : List ℕ
some_notes = codes "NOTE SKIP       02,4005  54101  TS SUM\nNOTE QUOTIENT   02,4016  10100  DV D\n"

abbrev some_facts : Facts
some_facts = record { notes = some_notes; report = codes "a.agc:2:5: warning W1: so\n  TS 5\n"; errors = 0; warnings = 1; executed = 9 }

abbrev some_kinds : ℕ → Allowed
some_kinds kinds = record { kinds = kinds; count = 0; spots = replicate 8 None }

the_quotient_is_another : first_other (some_kinds 2) (lines some_notes) ≡ Some (codes "NOTE QUOTIENT   02,4016  10100  DV D")
unfolding first_other lines runs window
the_quotient_is_another = refl

both_are_listed : misses some_facts (Notes (some_kinds 3)) ≡ false
unfolding first_other lines runs window
both_are_listed = refl

-- the skip is at 4005, and so is no quotient; at 4006 it would be another
listed_at_their_places : misses some_facts (Notes two_skips) ≡ false
unfolding first_other lines runs window
listed_at_their_places = refl

elsewhere_it_is_another : cited some_facts (Notes (record {
  kinds = 1;
  count = 1;
  spots = Some (record { kind = 2; place = Fixed 2 6 }) ∷ replicate 7 None;
}))
    ≡ codes "NOTE SKIP       02,4005  54101  TS SUM"
unfolding first_other lines runs window
elsewhere_it_is_another = refl

a_note_without_a_place : is_other (record {
  kinds = 0;
  count = 1;
  spots = Some (record { kind = 8192; place = Erasable 0o13 }) ∷ replicate 7 None;
})
    (codes "NOTE UNREAD CHAN 013 CYCLES 20")
    ≡ true
unfolding runs window
a_note_without_a_place = refl

a_note_in_erasable_memory : place_noted (texts (runs (codes "NOTE ERASABLE   E3,1405  24100  INCR X"))) ≡ Some (Erasable 0o1405)
unfolding runs window
a_note_in_erasable_memory = refl

none_is_listed : cited some_facts (Notes nothing_allowed) ≡ codes "NOTE SKIP       02,4005  54101  TS SUM"
unfolding first_other lines runs window
none_is_listed = refl

a_warning_is_told : cited some_facts Check ≡ codes "a.agc:2:5: warning W1: so"
unfolding lines
a_warning_is_told = refl

it_is_missed : misses some_facts Check ≡ true
it_is_missed = refl

nine_words_are_nine : misses some_facts (Covered 9) ≡ false
nine_words_are_nine = refl

nine_words_are_not_ten : misses some_facts (Covered 10) ≡ true
nine_words_are_not_ten = refl

-- ## Lines with a carriage return, and without
a_carriage_return_ends_a_line : before_return (0o101 ∷ 0o15 ∷ []) ≡ 0o101 ∷ []
a_carriage_return_ends_a_line = refl

a_carriage_return_within_a_line : before_return (0o101 ∷ 0o15 ∷ 0o102 ∷ []) ≡ 0o101 ∷ 0o15 ∷ 0o102 ∷ []
a_carriage_return_within_a_line = refl

-- ## Texts
heading : heading_of (record { line = 2; fields = codes "SOURCE" ∷ codes "a.agc" ∷ [] }
    ∷ record { line = 3; fields = codes "STEPS" ∷ codes "9" ∷ [] } ∷ []) ≡
    Ok (record { source = codes "a.agc"; feed = None; steps = 9; until_idle = false; tests = [] })
heading = refl

heading_until_idle : heading_of (record { line = 2; fields = codes "SOURCE" ∷ codes "a.agc" ∷ [] }
    ∷ record { line = 3; fields = codes "STEPS" ∷ codes "9" ∷ codes "UNTIL" ∷ codes "IDLE" ∷ [] } ∷ []) ≡
    Ok (record { source = codes "a.agc"; feed = None; steps = 9; until_idle = true; tests = [] })
heading_until_idle = refl

until_something_else : heading_of (record { line = 2; fields = codes "SOURCE" ∷ codes "a.agc" ∷ [] }
    ∷ record { line = 3; fields = codes "STEPS" ∷ codes "9" ∷ codes "UNTIL" ∷ codes "IDEL" ∷ [] } ∷ [])
    ≡ Err (record { line = 3; wrong = record { field = 2; asked = asked.UntilIdle } })
until_something_else = refl

until_idle_and_more : heading_of (record { line = 2; fields = codes "SOURCE" ∷ codes "a.agc" ∷ [] }
    ∷ record { line = 3; fields = codes "STEPS" ∷ codes "9" ∷ codes "UNTIL" ∷ codes "IDLE" ∷ codes "9" ∷ [] } ∷ [])
    ≡ Err (record { line = 3; wrong = record { field = 2; asked = asked.UntilIdle } })
until_idle_and_more = refl

steps_that_are_no_number : heading_of (record { line = 2; fields = codes "SOURCE" ∷ codes "a.agc" ∷ [] }
    ∷ record { line = 3; fields = codes "STEPS" ∷ codes "UNTIL" ∷ codes "IDLE" ∷ [] } ∷ [])
    ≡ Err (record { line = 3; wrong = record { field = 0; asked = asked.Steps } })
steps_that_are_no_number = refl

steps_first : heading_of (record { line = 2; fields = codes "STEPS" ∷ codes "9" ∷ [] } ∷ [])
    ≡ Err (record { line = 2; wrong = record { field = 0; asked = asked.Source } })
steps_first = refl

no_steps : heading_of (record { line = 2; fields = codes "SOURCE" ∷ codes "a.agc" ∷ [] } ∷ [])
    ≡ Err (record { line = 0; wrong = record { field = 0; asked = asked.Steps } })
no_steps = refl

claim_before_a_test : claims_after [] 0 (record { line = 5; fields = codes "NEVER" ∷ codes "A" ∷ codes "=" ∷ codes "5" ∷ [] } ∷ [])
    ≡ Err (record { line = 5; wrong = record { field = 0; asked = asked.Test } })
unfolding claims_after
claim_before_a_test = refl

second_test : claims_after [] 0 (record { line = 5; fields = codes "TEST" ∷ codes "a" ∷ [] }
    ∷ record { line = 6; fields = codes "TEST" ∷ codes "b" ∷ [] }
    ∷ record { line = 7; fields = codes "NEVER" ∷ codes "A" ∷ codes "=" ∷ codes "5" ∷ [] } ∷ []) ≡
    Ok (in_test 2 7 (Never (record { place = 0; relation = Same; word = 5 })) ∷ [])
unfolding claims_after
second_test = refl

-- ## Steps: the second word on channel 10 is to be 5, within 20 cycles
a_word_too_late : (scenario : _) → (s : _) → breaks scenario (Puts (record { channel = 8; before = 1; word = 5; within = 20 })) 1 None s
    (Some (record { cycles = 21; channel = 8; word = 5 })) ≡ true
a_word_too_late scenario s = refl

a_word_in_time : (scenario : _) → (s : _) → breaks scenario (Puts (record { channel = 8; before = 1; word = 5; within = 20 })) 1 None s
    (Some (record { cycles = 20; channel = 8; word = 5 })) ≡ false
a_word_in_time scenario s = refl

the_first_word_is_another : (scenario : _) → (s : _)
    → breaks scenario (Puts (record { channel = 8; before = 1; word = 5; within = 20 })) 0 None s
    (Some (record { cycles = 9; channel = 8; word = 7 })) ≡ false
the_first_word_is_another scenario s = refl

one_word_too_many : (scenario : _) → (s : _) → breaks scenario (PutsNoMore 8 2) 2 None s
    (Some (record { cycles = 9; channel = 8; word = 7 })) ≡ true
one_word_too_many scenario s = refl
