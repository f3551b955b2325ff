-- Choices, worked out by hand.
use Rattle.std.proofs.Common.{◌≡◌, ℕ, Bool, true, false, [], ◌∷◌, Option, None, Some, map, refl}
use Rattle.std.specs.Prelude.{codes}
use Rattle.std.specs.Fmt.{digits}
use Rattle.words.specs.declared.wide.Overflow.TheVariants.{No, Plus}
use Rattle.words.specs.Signs.{over}
use Rattle.space.specs.Places.{place}
use Rattle.space.specs.declared.place.Linear.TheVariants as linear
use Rattle.feed.specs.declared.input.Input.TheVariants as input
use Rattle.cpu.specs.State.{State}
use Rattle.cpu.specs.Codes.{basic_rows, extracode_rows, code_of}
use Rattle.cpu.specs.Effects.{accumulator_of}
use Rattle.cpu.specs.Links.{Link, sources, targets}
use Rattle.cpu.specs.Links.Link.{Takes, Enters, Executes}
use Rattle.cpu.specs.declared.next_step.NextStep.{NextStep}
use Rattle.cpu.specs.declared.next_step.NextStep.TheVariants as next
use Rattle.cpu.specs.declared.spot.Spot.TheVariants.{Cell}
use Rattle.debugger.specs.Ways.{is_entry, is_moved, skips, way_by, way_spots}

-- the link of an instruction at 02,4000, where EB and FB are 0
abbrev executed : Bool → ℕ → Link
executed extra word = Executes 0o4000 (code_of extra word) false 0 0 false No

-- BZF and BZMF choose by A; CCS 100 by the cell, CCS 7 by nothing; DTCF sets Z from L, DTCB and TS Z from A; RESUME from ZRUPT
choices : map way_spots (executed true 0o14010 ∷ executed true 0o64010 ∷ executed false 0o10100 ∷ executed false 0o10007
    ∷ executed false 0o52005 ∷ executed false 0o52006 ∷ executed false 0o54005 ∷ executed false 0o50017 ∷ [])
    ≡ (Cell 0 ∷ []) ∷ (Cell 0 ∷ []) ∷ (Cell 0o100 ∷ []) ∷ [] ∷ (Cell 1 ∷ []) ∷ (Cell 0 ∷ []) ∷ (Cell 0 ∷ []) ∷ (Cell 0o15 ∷ []) ∷ []
unfolding basic_rows extracode_rows code_of place sources targets
choices = refl

-- TC, TCF, AD and INDEX choose nothing, nor do an entry and an input
no_choices : map way_spots (executed false 0o4010 ∷ executed false 0o14010 ∷ executed false 0o60100 ∷ executed false 0o50100
    ∷ Enters 3 0o4000 (linear.Fixed 2 0) ∷ Takes (input.Interrupt 5) false ∷ [])
    ≡ [] ∷ [] ∷ [] ∷ [] ∷ [] ∷ [] ∷ []
unfolding basic_rows extracode_rows code_of place sources targets
no_choices = refl

-- an instruction that is to be executed
abbrev executes : Bool → ℕ → Option ℕ → NextStep
executes extra word added = next.Executes (record { place = linear.Fixed 2 0; word = word; extra = extra; waited = false; added = added })

-- TC and TCF that INDEX moved, and no other; and an entry
moved : map is_moved (executes false 0o4010 (Some 1) ∷ executes false 0o14010 (Some 0) ∷ executes false 0o14010 None
    ∷ executes false 0o60100 (Some 1) ∷ executes true 0o14010 (Some 1) ∷ next.Enters 3 ∷ [])
    ≡ true ∷ true ∷ false ∷ false ∷ false ∷ false ∷ []
unfolding basic_rows extracode_rows code_of
moved = refl

entries : map is_entry (next.Enters 3 ∷ executes false 0o4010 None ∷ next.Takes (input.Interrupt 5) ∷ []) ≡ true ∷ false ∷ false ∷ []
entries = refl

-- TS where A overflows, and no other instruction there
skipping : (s : State) → over (accumulator_of s) ≡ Plus
    → map (skips s) (executes false 0o54100 None ∷ executes false 0o60100 None ∷ next.Enters 3 ∷ []) ≡ true ∷ false ∷ false ∷ []
unfolding basic_rows extracode_rows code_of
skipping s e = rw e refl

storing : (s : State) → over (accumulator_of s) ≡ No → skips s (executes false 0o54100 None) ≡ false
storing s e = rw e refl

-- the line of a choice
lines : way_by 6 (codes "BZF OFF") (codes "02,4014 OFF") (codes " A 000000") ≡ codes "WAY 6 BZF OFF TO 02,4014 OFF FROM A 000000\n"
unfolding digits
lines = refl
