-- Rows, waits and stretches, worked out by hand.
use Rattle.std.proofs.Common.{◌≡◌, ℕ, zero, suc, ◌+◌, ◌*◌, true, false, List, [], ◌∷◌, ◌++◌, Option, Some, None, refl}
use Rattle.std.specs.Prelude.{codes}
use Rattle.std.specs.List.{flat_map}
use Rattle.cpu.specs.declared.next_step.NextStep.TheVariants.{Enters}
use Rattle.delays.specs.declared.mark.Best.{Best}
use Rattle.delays.specs.declared.mark.Mark.{Mark}
use Rattle.delays.specs.declared.mark.Stretch.{Stretch}
use Rattle.delays.specs.Causes.{cause_name}
use Rattle.space.specs.declared.place.Linear.TheVariants.{Fixed}
use Rattle.delays.specs.declared.call.Call.{Call}
use Rattle.delays.specs.DelayText.{cause_row, open_span, open_wait, share, share_rows}
use Rattle.delays.specs.Routines.{call_over, returned, with_call, without}
use Rattle.delays.specs.Spans.{asked_by, left_by, span_by, sum_of, wait_by}
use Rattle.delays.specs.Stretches.{best_of, better, cycles_of, Event, no_best}

names : flat_map (λ c. codes " " ++ cause_name c) (0 ∷ 1 ∷ 5 ∷ 10 ∷ 11 ∷ 12 ∷ 13 ∷ 14 ∷ 15 ∷ 16 ∷ [])
    ≡ codes " MAIN T6RUPT KEYRUPT1 RUPT10 INHIBITED INPUT EXTEND INDEX RESUME OVERFLOW"
names = refl

-- a cause that had no cycle has no row
no_row : cause_row (codes "SPENT ") 0 11 ≡ []
unfolding cause_row
no_row = refl

-- after 10 steps the main program had 12 cycles, T5RUPT none, and EXTEND 2; after 40 it had 13, T5RUPT 43 and EXTEND 3
abbrev at_ten : Mark
at_ten = record { step = 10; cycles = 14; spent = 12 ∷ 0 ∷ 0 ∷ 0 ∷ 0 ∷ 0 ∷ 0 ∷ 0 ∷ 0 ∷ 0 ∷ 0 ∷ 0 ∷ 0 ∷ 2 ∷ 0 ∷ 0 ∷ 0 ∷ [] }

abbrev at_forty : Mark
at_forty = record { step = 40; cycles = 59; spent = 13 ∷ 0 ∷ 43 ∷ 0 ∷ 0 ∷ 0 ∷ 0 ∷ 0 ∷ 0 ∷ 0 ∷ 0 ∷ 0 ∷ 0 ∷ 3 ∷ 0 ∷ 0 ∷ 0 ∷ [] }

abbrev between : Stretch
between = record { from = at_ten; to = at_forty; step = 41; end = 4 }

-- 45 cycles between them: of T5RUPT 43, of the main program 1, of EXTEND 1
whole : sum_of at_forty.spent ∷ sum_of at_ten.spent ∷ cycles_of between ∷ share between 2 ∷ share between 0 ∷ share between 13
    ∷ share between 16 ∷ [] ≡ 59 ∷ 14 ∷ 45 ∷ 43 ∷ 1 ∷ 1 ∷ 0 ∷ []
whole = refl

-- none of what the run had of no cause is told: three rows
abbrev one_row : ℕ → List ℕ
one_row c = cause_row [] (share between c) c

rows : flat_map one_row (1 ∷ 3 ∷ 11 ∷ 16 ∷ []) ≡ []
unfolding cause_row
rows = refl

-- ## Of stretches at row 4, of 45 cycles, of 14, and again of 45: three, together 104, the least 14, the first longest kept
abbrev short : Stretch
short = record { from = record { step = 0; cycles = 0; spent = [] }; to = at_ten; step = 50; end = 4 }

abbrev again : Stretch
again = record { from = at_ten; to = at_forty; step = 77; end = 9 }

three : better (better (better no_best between) short) again ≡ record { count = 3; total = 104; least = 14; longest = between }
three = refl

abbrev ends : ℕ → Option Event
ends zero = Some (4, short)
ends (suc zero) = None
ends (suc (suc zero)) = Some (5, between)
ends (suc (suc (suc zero))) = Some (4, between)
ends (suc (suc (suc (suc n)))) = None

at_four : best_of ends 5 4 ≡ record { count = 2; total = 59; least = 14; longest = between }
unfolding best_of
at_four = refl

-- those before the fourth step alone
at_four_before : best_of ends 3 4 ≡ record { count = 1; total = 14; least = 14; longest = short }
unfolding best_of
at_four_before = refl

at_six : best_of ends 5 6 ≡ no_best
unfolding best_of
at_six = refl

-- ## What is asked for
-- interrupt 2 is asked for since the moment after a step that asks for it, and since before where it is asked for again; its entry ends
-- this, and another one's does not
first_asked : asked_by 2 (Some 2) at_ten None ≡ Some at_ten
first_asked = refl

asked_again : asked_by 2 (Some 2) at_forty (Some at_ten) ≡ Some at_ten
asked_again = refl

other_asked : asked_by 2 (Some 4) at_forty None ≡ None
other_asked = refl

entered : left_by 2 (Enters 2) (Some at_ten) ≡ None
entered = refl

other_entered : left_by 2 (Enters 4) (Some at_ten) ≡ Some at_ten
other_entered = refl

-- its wait is the stretch from then to the moment before its entry, which is step 41
wait : wait_by (Enters 2) (λ k. Some at_ten) at_forty 4 ≡ Some (2, between)
wait = refl

-- a span ends after a step after which it is not closed
span : span_by false (Some (record { by = 7; mark = at_ten })) at_forty 4
    ≡ Some (7, record { from = at_ten; to = at_forty; step = 40; end = 4 })
span = refl

no_span : span_by true (Some (record { by = 7; mark = at_ten })) at_forty 4 ≡ None
no_span = refl

-- ## What is open
-- interrupt asked for by step 10, 45 cycles ago; and a span whose first step was step 11
still_asked : open_wait at_forty (Some at_ten)
    ≡ record { count = 1; total = 45; least = 45; longest = record { from = at_ten; to = at_forty; step = 10; end = 0 } }
still_asked = refl

not_asked : open_wait at_forty None ≡ no_best
not_asked = refl

still_closed : open_span at_forty (Some (record { by = 7; mark = at_ten }))
    ≡ record { count = 1; total = 45; least = 45; longest = record { from = at_ten; to = at_forty; step = 11; end = 0 } }
still_closed = refl

-- ## Calls
-- of two calls in progress, the outer of the routine at 02,4200 from the TC before 02,4101, the inner one of that at 02,4300
abbrev outer : Call
outer = record { back = Fixed 2 0o101; to = Fixed 2 0o200; mark = at_ten }

abbrev inner : Call
inner = record { back = Fixed 2 0o205; to = Fixed 2 0o300; mark = at_forty }

-- where Z leads to 02,4205 the inner one is over, where it leads to 02,4101 the outer one and with it the inner one, and elsewhere none
inner_over : returned (Fixed 2 0o205) (outer ∷ inner ∷ []) ≡ Some inner
inner_over = refl

outer_stays : without (Fixed 2 0o205) (outer ∷ inner ∷ []) ≡ outer ∷ []
outer_stays = refl

outer_over : returned (Fixed 2 0o101) (outer ∷ inner ∷ []) ≡ Some outer
outer_over = refl

none_stays : without (Fixed 2 0o101) (outer ∷ inner ∷ []) ≡ []
none_stays = refl

none_over : returned (Fixed 2 0o300) (outer ∷ inner ∷ []) ≡ None
none_over = refl

both_stay : without (Fixed 2 0o300) (outer ∷ inner ∷ []) ≡ outer ∷ inner ∷ []
both_stay = refl

-- a call from the same place again takes the place of the one before
again_called : with_call (Some outer) (outer ∷ inner ∷ []) ≡ outer ∷ []
again_called = refl

one_called : with_call (Some inner) (outer ∷ []) ≡ outer ∷ inner ∷ []
one_called = refl

-- it stands at the account of its routine, which is place 200, octal, of bank 2, from its TC to the step that ends it
call_told : call_over (Some outer) at_forty 9 ≡ Some
    (3 + 0o4000 + 2 * 0o2000 + 0o200, record { from = at_ten; to = at_forty; step = 40; end = 9 })
call_told = refl
