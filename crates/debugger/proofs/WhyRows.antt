-- Lines of `why`, worked out by hand.
use Rattle.std.proofs.Common.{◌≡◌, ℕ, Bool, false, true, List, [], ◌∷◌, ◌++◌, Option, None, Some, refl}
use Rattle.std.specs.Prelude.{codes, nat_le, ◌==◌, ◌&&◌, ◌||◌, if◌then◌else◌}
use Rattle.std.specs.Fmt.{digits}
use Rattle.words.specs.Numerals.{octal_text}
use Rattle.words.specs.declared.wide.Overflow.TheVariants.{No}
use Rattle.space.specs.Places.{place, window}
use Rattle.space.specs.declared.place.Linear.TheVariants as linear
use Rattle.feed.specs.declared.input.Input.TheVariants as input
use Rattle.cpu.specs.State.{start}
use Rattle.cpu.specs.Codes.{basic_rows, extracode_rows, code_of}
use Rattle.cpu.specs.Effects.{place_in}
use Rattle.cpu.specs.Links.{Link}
use Rattle.cpu.specs.Links.Link.{Takes, Enters, Executes}
use Rattle.cpu.specs.Beside.{is_instruction}
use Rattle.cpu.specs.declared.next_step.NextStep.{NextStep}
use Rattle.cpu.specs.declared.next_step.NextStep.TheVariants as next
use Rattle.cpu.specs.declared.spot.Spot.{Spot}
use Rattle.cpu.specs.declared.spot.Spot.TheVariants.{Cell, InRope}
use Rattle.replay.specs.LastHit.{last_hit}
use Rattle.rope.specs.Places.{Words, word_at}
use Rattle.symbols.specs.declared.values.Value.TheVariants as value
use Rattle.trace.specs.TraceLines.{symbol_at}
use Rattle.yayul.specs.Listing.{place_text}
use Rattle.debugger.specs.Whys.{entered_mark, mark_by, by_line, reads_part, added_by, operand_spots, index_by, placed_by, step_place}
use Rattle.debugger.specs.WhysSince.{entered_since, end_since, since_step}

-- the interrupts of a run: step 18 enters one, which RESUME leaves as step 21, and step 30 another, which is served still
abbrev inside : ℕ → Bool
inside t = (nat_le 18 t && nat_le t 20) || nat_le 30 t

-- the steps that enter stand outside; those after them, up to RESUME, are marked
marks : mark_by inside 0 ++ mark_by inside 17 ++ mark_by inside 18 ++ mark_by inside 20 ++ mark_by inside 21 ++ mark_by inside 29
    ++ mark_by inside 30 ++ mark_by inside 33 ≡ codes " IN STEP 18 IN STEP 18 IN STEP 30 IN STEP 30"
unfolding digits
marks = refl

-- a run that stands in an interrupt at its start has none that a step entered
never_entered : entered_mark None ≡ codes ""
never_entered = refl

-- the mark ends a line, and is no cell where a symbol is called IN: after a cell stands its word
lines : by_line 20 (codes "ADS TICKS") (codes " A 000001") (codes " A 000001 TICKS 00000") (mark_by inside 19)
    ++ by_line 22 (codes "TS SUM") (codes " SUM 00001") (codes " A 000001") (mark_by inside 21)
    ≡ codes "BY 20 ADS TICKS : A 000001 FROM A 000001 TICKS 00000 IN STEP 18\nBY 22 TS SUM : SUM 00001 FROM A 000001\n"
unfolding digits
lines = refl

-- a word of fixed memory by its symbol, else by its place as a listing has it
fixed : (rope : Words) → word_at rope 2 0o122 ≡ 0o12 → word_at rope 2 0o123 ≡ 0o24
    → reads_part ((codes "TABLE", value.Fixed 2 0o122) ∷ []) rope start (InRope 2 0o122 ∷ InRope 2 0o123 ∷ [])
    ≡ codes " TABLE 00012 02,4123 00024"
unfolding symbol_at place_text window octal_text
fixed rope first second = rw (first, second) refl

-- the line of an INDEX, with the sum as an offset of a source: 1, 0, and in ones' complement -2 and -0
moved : index_by 34 (codes "INDEX COUNT") 1 (codes " COUNT 00001") ++ index_by 41 (codes "INDEX COUNT") 0 (codes " COUNT 00000")
    ++ index_by 9 (codes "INDEX L") 0o177775 (codes " L 77775") ++ index_by 10 (codes "INDEX 0007") 0o177777 (codes " NOTHING")
    ≡ (codes "INDEX 34 INDEX COUNT : +1 FROM COUNT 00001\nINDEX 41 INDEX COUNT : +0 FROM COUNT 00000\nINDEX 9 INDEX L : -2 FROM L "
    ++ codes "77775\nINDEX 10 INDEX 0007 : -0 FROM NOTHING\n")
unfolding digits octal_text
moved = refl

-- an instruction that is executed while a sum waits; an input that is taken meanwhile is not moved
abbrev executes : Bool → ℕ → Option ℕ → NextStep
executes extra word added = next.Executes (record { place = linear.Fixed 2 0; word = word; extra = extra; waited = false; added = added })

added : added_by (executes false 0o64122 (Some 1)) ∷ added_by (executes false 0o64122 None) ∷ added_by (next.Takes (input.Interrupt 5))
    ∷ added_by (next.Enters 3) ∷ [] ≡ Some 1 ∷ None ∷ None ∷ None ∷ []
added = refl

-- where steps stand: an instruction at its place, a word that waited in BRUPT, interrupt 3 where it is entered, an input nowhere; and no
-- line where none is asked for
abbrev waited : NextStep
waited = next.Executes (record { place = linear.Fixed 2 0; word = 0o54101; extra = false; waited = true; added = None })

placed : placed_by true 43 (step_place (executes false 0o54101 None)) ++ placed_by true 22 (step_place waited)
    ++ placed_by true 18 (step_place (next.Enters 3)) ++ placed_by true 9 (step_place (next.Takes (input.Interrupt 5)))
    ++ placed_by false 8 (step_place waited)
    ≡ codes "WHERE 43 02,4000\nWHERE 22 BRUPT\nWHERE 18 02,4014\nWHERE 9 -\n"
unfolding digits octal_text place_text window
placed = refl

-- what INDEX reads: of INDEX 100 the cell, of INDEX 4122 under extracode the place of fixed memory, of INDEX BB two cells, of INDEX 7
-- none
abbrev read : Bool → ℕ → List Spot
read extra word = operand_spots start (executes extra word None)

operands : read false 0o50100 ++ read true 0o54122 ++ read false 0o50006 ++ read false 0o50007
    ≡ Cell 0o100 ∷ InRope 2 0o122 ∷ Cell 4 ∷ Cell 3 ∷ []
unfolding basic_rows extracode_rows code_of place_in place
operands = refl

-- the last instruction before so many steps, where step 3 enters an interrupt and step 6 takes an input
abbrev steps : ℕ → Link
steps t =
    if t == 2 then Enters 3 0o4000 (linear.Fixed 2 0)
    else if t == 5 then Takes (input.Interrupt 5) false
    else Executes 0o4000 (code_of false 0o50100) false 0 0 false No

abbrev last : ℕ → Option ℕ
last p = last_hit (λ t. is_instruction (steps t)) p

instructions : last 7 ∷ last 6 ∷ last 5 ∷ last 3 ∷ last 0 ∷ [] ≡ Some 6 ∷ Some 4 ∷ Some 4 ∷ Some 1 ∷ None ∷ []
instructions = refl

-- since a step by its number: step 19 follows the state after 18
sought : since_step 19 (Some 18) ∷ since_step 20 (Some 18) ∷ since_step 0 (Some 0) ∷ since_step 1 (Some 0) ∷ since_step 2 (Some 0)
    ∷ since_step 5 None ∷ [] ≡ Some 18 ∷ None ∷ Some 0 ∷ Some 0 ∷ None ∷ None ∷ []
sought = refl

-- how it ends, where all was told, where more may be before the first step, and where there is no step before it
since_ends : end_since [] 35 [] ++ end_since [] 35 (0 ∷ 0o101 ∷ []) ++ end_since [] 2 (0o101 ∷ [])
    ≡ codes "ALL\nMORE 2 BEFORE 35\nMORE 1 BEFORE 2\n"
unfolding digits
since_ends = refl

-- the mark of a step in an interrupt: that the step which entered it comes before the first one, or this step
since_marks : entered_since 19 None ++ entered_since 1 None ++ entered_since 0 None ++ entered_since 18 (Some 17)
    ≡ codes " IN STEP BEFORE 19 IN STEP 18"
unfolding digits
since_marks = refl
