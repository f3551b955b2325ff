-- What a chain comes from, worked out by hand.
use Rattle.std.proofs.Common.{◌≡◌, ℕ, false, true, [], ◌∷◌, None, Some, refl, replicate}
use Rattle.words.specs.declared.wide.Overflow.TheVariants.{No}
use Rattle.space.specs.Places.{place}
use Rattle.space.specs.declared.place.Linear.TheVariants as linear
use Rattle.feed.specs.declared.input.Counter.TheVariants.{Time3, PipaX}
use Rattle.feed.specs.declared.input.Input.{Input}
use Rattle.feed.specs.declared.input.Input.TheVariants.{Count, Word}
use Rattle.feed.specs.declared.input.Sequence.TheVariants.{Pinc, Minc}
use Rattle.cpu.specs.Codes.{basic_rows, extracode_rows, code_of}
use Rattle.cpu.specs.Links.{Link, targets, sources}
use Rattle.cpu.specs.Links.Link.{Takes, Executes}
use Rattle.cpu.specs.declared.next_step.NextStep.{NextStep}
use Rattle.cpu.specs.declared.next_step.NextStep.TheVariants as next
use Rattle.origins.specs.Following.{reads}
use Rattle.origins.specs.Gathering.{level_of, with_input, with_level, with_words}
use Rattle.origins.specs.Served.{entered_by, served_after}
use Rattle.origins.specs.Lines.{Table, new_line, no_lines, same_input, with_origin}
use Rattle.origins.specs.Tallies.{no_steps, with_step}
use Rattle.origins.specs.declared.origin.Origin.TheVariants.{Taken, Fixed}
use Rattle.origins.specs.declared.tally.Tally.{Tally}

abbrev tally : ℕ → ℕ → ℕ → Tally
tally count first last = record { count = count; first = first; last = last }

-- three steps, the last first
three : with_step 7 (with_step 9 (with_step 12 no_steps)) ≡ tally 3 7 12
three = refl

-- pulses are others where the counter or the sequence is, words where the channel or the word is
abbrev pulse : Input
pulse = Count Time3 Pinc

apart : same_input pulse pulse ∷ same_input (Count PipaX Pinc) (Count PipaX Minc) ∷ same_input pulse (Count PipaX Pinc)
    ∷ same_input (Word 0o15 2) (Word 0o15 2) ∷ same_input (Word 0o15 2) (Word 0o15 3) ∷ same_input (Word 0o15 2) (Word 0o16 2)
    ∷ same_input pulse (Word 0o15 2) ∷ []
    ≡ true ∷ false ∷ false ∷ true ∷ false ∷ false ∷ false ∷ []
apart = refl

-- an input at steps 8 and 3, and a fixed word at step 5: each has one line, that of the last step first
lines : with_origin 3 (Taken pulse) (with_origin 5 (Fixed 2 0o122) (with_origin 8 (Taken pulse) no_lines))
    ≡ record {
      lines = record { origin = Taken pulse; tally = tally 2 3 8 } ∷ record { origin = Fixed 2 0o122; tally = tally 1 5 5 } ∷ [];
      more = false;
    }
lines = refl

-- where no room is left, a line that stands has a step more, and of a new one it is known that there was one
abbrev full : Table
full = record { lines = replicate 1024 (new_line 9 (Fixed 2 0)); more = false }

no_room : (with_origin 5 (Fixed 2 1) full).more ∷ (with_origin 5 (Fixed 2 0) full).more ∷ [] ≡ true ∷ false ∷ []
no_room = refl

-- AD 4122 as step 11 brings the fixed word there into A; a step that takes a pulse brings the pulse
abbrev executes : ℕ → Link
executes word = Executes 0o4000 (code_of false word) false 0 0 false No

abbrev instruction : NextStep
instruction = next.Executes (record { place = linear.Fixed 2 0; word = 0; extra = false; waited = false; added = None })

comes_from : with_words 4 (reads (Takes pulse false) (0o26 ∷ [])) (with_input 4 (next.Takes pulse)
    (with_words 11 (reads (executes 0o64122) (0 ∷ [])) (with_input 11 instruction no_lines)))
    ≡ record {
      lines = record { origin = Fixed 2 0o122; tally = tally 1 11 11 } ∷ record { origin = Taken pulse; tally = tally 1 4 4 } ∷ [];
      more = false;
    }
unfolding basic_rows extracode_rows code_of place targets sources
comes_from = refl

-- steps 12 and 4 outside of interrupts, step 7 in interrupt 3
stands_in : with_level 4 (level_of None) (with_level 7 (level_of (Some 3)) (with_level 12 (level_of None) (replicate 11 no_steps)))
    ≡ tally 2 4 12 ∷ no_steps ∷ no_steps ∷ tally 1 7 7 ∷ replicate 7 no_steps
stands_in = refl

-- an interrupt is served from the step that enters it on, until one leaves it; an input that is taken meanwhile changes nothing
entered : entered_by (next.Enters 3) ∷ entered_by (next.Takes pulse) ∷ entered_by instruction ∷ served_after true (Some 3)
    ∷ served_after false (Some 3) ∷ []
    ≡ Some 3 ∷ None ∷ None ∷ Some 3 ∷ None ∷ []
entered = refl
