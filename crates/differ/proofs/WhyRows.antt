-- What is told below each difference, worked out by hand.
use Rattle.std.proofs.Common.{◌≡◌, ℕ, true, false, List, [], ◌∷◌, ◌++◌, Option, Some, None, refl}
use Rattle.std.specs.Prelude.{codes}
use Rattle.space.specs.declared.place.Linear.TheVariants.{Fixed}
use Rattle.cpu.specs.declared.next_step.Fetched.{Fetched}
use Rattle.cpu.specs.declared.next_step.NextStep.TheVariants.{Enters, Executes}
use Rattle.cpu.specs.declared.spot.Spot.TheVariants.{Cell, InRope}
use Rattle.differ.specs.Causes.{cells_at, followed, is_moved, same_text}
use Rattle.differ.specs.DifferText.{Named, end_by, next_of, part_line, why_line, why_part, why_text}

-- where neither run has a step they have the start in common
at_start : part_line None None ≡ codes "PART AT START WITH START\n"
at_start = refl

-- where another cell is followed they do not
goes_on : end_by (Some 22) (Some 17) (Some (followed 21 16 0)) ≡ []
goes_on = refl

parts : end_by None None None ≡ codes "PART AT START WITH START\n"
parts = refl

-- without a step there is nothing to follow
of_one : (one other : Named) → next_of one other 0o101 (Some 8) None ≡ None
of_one one other = refl

-- the cell is named, a register by its letter
of_a : why_line [] 0 ≡ codes "WHY A\n"
of_a = refl

-- no more is asked for, or nothing
no_more : (one other : Named) → why_text one other 0 (followed 21 16 0) ≡ codes "MORE\n"
unfolding why_text
no_more one other = refl

unasked : (one other : Named) → why_part one other None (Some (followed 21 16 0)) ≡ []
unasked one other = refl

no_cell : (one other : Named) → why_part one other (Some 16) None ≡ []
no_cell one other = refl

-- of AD the cells alone are followed: A, and not the table's place
of_ad : cells_at (Cell 0 ∷ InRope 2 0o125 ∷ []) ≡ 0 ∷ []
of_ad = refl

-- instructions are the same by their text
other_text : same_text (codes "ADS TICKS") (codes "AD TABLE +3") ≡ false
other_text = refl

one_text : same_text (codes "TS SUM") (codes "TS SUM") ≡ true
one_text = refl

-- TS SUM as it waited in BRUPT stands at no other place than at 02,4110; TCF at 02,4103 at another than at 02,4104; an entry nowhere
abbrev at : ℕ → ℕ → Fetched
at offset word = record { place = Fixed 2 offset; word = word; extra = false; waited = false; added = None }

abbrev waits : ℕ → ℕ → Fetched
waits offset word = record { place = Fixed 2 offset; word = word; extra = false; waited = true; added = None }

of_waiting : is_moved (Executes (waits 0o111 0o54101)) (Executes (at 0o110 0o54101)) ≡ false
of_waiting = refl

of_jumps : is_moved (Executes (at 0o103 0o14105)) (Executes (at 0o104 0o14110)) ≡ true
of_jumps = refl

of_entry : is_moved (Enters 5) (Executes (at 0o104 0o14110)) ≡ false
of_entry = refl
