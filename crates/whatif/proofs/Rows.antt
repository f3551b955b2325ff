-- Rows of what is told of trials, worked out by hand.
use Rattle.std.proofs.Common.{◌≡◌, [], ◌∷◌, ◌++◌, true, false, refl, Some, None}
use Rattle.std.specs.Prelude.{codes}
use Rattle.std.specs.Fmt.{digits}
use Rattle.words.specs.Numerals.{octal_text}
use Rattle.feed.specs.Merged.{inserted, is_before}
use Rattle.feed.specs.declared.entry.Entry.{Entry}
use Rattle.feed.specs.declared.input.Input.TheVariants.{Interrupt}
use Rattle.whatif.specs.Outcomes.{Outcome, begun, is_in_erasable, is_same, with_step, with_word}
use Rattle.yayul.specs.Listing.{place_text}
use Rattle.space.specs.Places.{window}
use Rattle.whatif.specs.declared.finish.Finish.{Finish}
use Rattle.whatif.specs.declared.others.Others.TheVariants.{All, First}
use Rattle.whatif.specs.declared.others.Telling.{Telling}
use Rattle.whatif.specs.Spans.{end_line, span_line, spans_text, without_line}
use Rattle.whatif.specs.Together.{one, told_together}
use Rattle.whatif.specs.Here.{most_steps, own_steps}
use Rattle.whatif.specs.Trials.{are_rising, line_above}
use Rattle.whatif.specs.declared.sent.Sent.{Sent}
use Rattle.space.specs.declared.place.Linear.TheVariants.{Erasable, Fixed}

-- ## Words beside those of another run
abbrev five : Sent
five = record { channel = 0o10; word = 5 }

abbrev six : Sent
six = record { channel = 0o10; word = 6 }

abbrev elsewhere : Sent
elsewhere = record { channel = 0o11; word = 5 }

first_is_alike : with_word (five ∷ []) begun five ≡ record { alike = 1; others = []; strays = false }
first_is_alike = refl

first_is_other : with_word (five ∷ []) begun six ≡ record { alike = 0; others = six ∷ []; strays = false }
first_is_other = refl

channel_is_other : with_word (five ∷ []) begun elsewhere ≡ record { alike = 0; others = elsewhere ∷ []; strays = false }
channel_is_other = refl

-- behind another word each is one of the others
later_is_other : with_word (six ∷ five ∷ []) (with_word (six ∷ five ∷ []) begun five) five
    ≡ record { alike = 0; others = five ∷ five ∷ []; strays = false }
later_is_other = refl

-- behind the last word too
more_is_other : with_word (five ∷ []) (with_word (five ∷ []) begun five) five ≡ record { alike = 1; others = five ∷ []; strays = false }
more_is_other = refl

strays_once : with_step (with_step begun true) false ≡ record { alike = 0; others = []; strays = true }
strays_once = refl

-- ## Places: 2 is Q
return_is_none : is_in_erasable (Erasable 2) ≡ false
return_is_none = refl

accumulator_is_one : is_in_erasable (Erasable 0) ≡ true
accumulator_is_one = refl

fixed_is_none : is_in_erasable (Fixed 2 0) ≡ false
fixed_is_none = refl

-- ## Trials
rising_cycles : are_rising 0 (record { cycle = 3; line = 1; input = Interrupt 2 } ∷ record { cycle = 3; line = 2; input = Interrupt 2 }
    ∷ []) ≡ true
rising_cycles = refl

falling_cycles : are_rising 0 (record { cycle = 3; line = 1; input = Interrupt 2 } ∷ record { cycle = 2; line = 2; input = Interrupt 2 }
    ∷ []) ≡ false
falling_cycles = refl

-- ## Lines
without : without_line (record { alike = 0; others = five ∷ six ∷ []; strays = false }) ≡ codes "WITHOUT WORDS 2\n"
unfolding digits
without = refl

-- a run of 1000 cycles
abbrev to_the_end : Telling
to_the_end = record { others = All; end = 1000 }

abbrev at_5 : Outcome → Finish
at_5 a = record { answer = a; place = Fixed 2 5; difference = None }

alike : span_line to_the_end
    (record { first = 850; last = 882; count = 33; came = at_5 (record { alike = 13; others = []; strays = false }) })
    ≡ codes "FROM 850 TO 882 COUNT 33 ALIKE 13 OTHERS 0\n"
unfolding digits
alike = refl

stray : span_line to_the_end (one 883 (at_5 (record { alike = 13; others = []; strays = true })))
    ≡ codes "FROM 883 TO 883 COUNT 1 ALIKE 13 OTHERS 0 ERASABLE\n"
unfolding digits
stray = refl

-- bank 2 begins at address 4000; place 61 is the first behind the counters; place 2001 is the second of E4
ended : end_line (Fixed 2 5) None ≡ codes "END 02,4005\n"
unfolding place_text window octal_text digits
ended = refl

ended_otherwise : end_line (Fixed 2 5) (Some (record { place = 0o61; word = 3; other = 0o77776 }))
    ≡ codes "END 02,4005 CELL E0,0061 00003 NOT 77776\n"
unfolding place_text window octal_text digits
ended_otherwise = refl

three_trials : spans_text to_the_end None
    ((7, at_5 (record { alike = 1; others = []; strays = false })) ∷ (8, at_5 (record { alike = 1; others = []; strays = false }))
    ∷ (9, at_5 (record { alike = 0; others = six ∷ five ∷ []; strays = false })) ∷ [])
    ≡ (codes "FROM 7 TO 8 COUNT 2 ALIKE 1 OTHERS 0\nEND 02,4005\nFROM 9 TO 9 COUNT 1 ALIKE 0 OTHERS 2\nCH 010 00006\nCH 010 00005\nEND 02,"
    ++ codes "4005\n")
unfolding told_together place_text window octal_text digits
three_trials = refl

-- of the other words the first
first_alone : spans_text (record to_the_end { others = First }) None
    ((9, at_5 (record { alike = 0; others = six ∷ five ∷ []; strays = false })) ∷ [])
    ≡ codes "FROM 9 TO 9 COUNT 1 ALIKE 0 OTHERS 2\nCH 010 00006\nEND 02,4005\n"
unfolding told_together place_text window octal_text digits
first_alone = refl

-- at the last cycle, and behind it, an input never comes
behind_the_end : spans_text to_the_end None
    ((999, at_5 (record { alike = 1; others = []; strays = false }))
    ∷ (1000, at_5 (record { alike = 1; others = []; strays = false }))
    ∷ (1001, at_5 (record { alike = 1; others = []; strays = false })) ∷ [])
    ≡ (codes "FROM 999 TO 999 COUNT 1 ALIKE 1 OTHERS 0\nEND 02,4005\nFROM 1000 TO 1001 COUNT 2 ALIKE 1 OTHERS 0 NEVER\nEND 02,4005"
    ++ codes "\n")
unfolding told_together place_text window octal_text digits
behind_the_end = refl

-- ## Steps
-- of a run of 20 steps, with an input at step 5, 6 or 7: 15 without one, 2 from step 5 to 7, and 15, 14 and 13 with one
three_ways : most_steps 5 2 20 ≡ 59
unfolding own_steps
three_ways = refl
