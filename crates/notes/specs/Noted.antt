-- Which notes some steps of a run have: what happens in them, each kind at each place once, in the order in which they come.
use Rattle.std.specs.Prelude.{ℕ, ◌*◌, ◌==◌, ◌&&◌, Bool, true, false, List, [], ◌∷◌, ◌++◌, Option, Some, None}
use Rattle.std.specs.Prelude.{if◌then◌else◌}
use Rattle.std.specs.List.{list_any}
use Rattle.space.specs.Places.{same_place}
use Rattle.space.specs.declared.place.Linear.{Linear}
use Rattle.space.specs.declared.place.Linear.TheVariants.{Fixed}
use Rattle.rope.specs.Places.{Words}
use Rattle.yayul.specs.Named.{Named}
use Rattle.cpu.specs.declared.next_step.NextStep.{NextStep}
use Rattle.cpu.specs.declared.next_step.NextStep.TheVariants.{Takes, Enters, Executes}
use Rattle.cpu.specs.NextStep.{next_step}
use Rattle.cpu.specs.State.{State, Scenario}
use Rattle.notes.specs.declared.kind.Kind.{Kind}
use Rattle.notes.specs.declared.kind.Kind.TheVariants.{Quotient, Skip, NoWord, InErasable, NoHandler, OtherBank, NotKept, MinusZero}
use Rattle.notes.specs.declared.kind.Kind.TheVariants.{Overwritten, Shared, FixedBank}
use Rattle.notes.specs.declared.noted.Note.{Note}
use Rattle.notes.specs.declared.past.Past.{Past}
use Rattle.notes.specs.Notes.{happens_in}
use Rattle.notes.specs.Past.{no_past, past_by}

-- where a step is noted: the place to which Z leads, or where an interrupt is entered; an input is nowhere, and so is a word that waited
abbrev pub spot_of : NextStep → Option Linear
spot_of (Takes input) = None
spot_of (Enters k) = Some (Fixed 2 (4 * k))
spot_of (Executes f) = if f.waited then None else Some f.place

abbrev pub same_spot : Option Linear → Option Linear → Bool
same_spot None None = true
same_spot (Some p) None = false
same_spot None (Some q) = false
same_spot (Some p) (Some q) = same_place p q

-- each kind has a number of its own
abbrev pub kind_number : Kind → ℕ
kind_number Quotient = 0
kind_number Skip = 1
kind_number NoWord = 2
kind_number InErasable = 3
kind_number NoHandler = 4
kind_number OtherBank = 5
kind_number NotKept = 6
kind_number MinusZero = 7
kind_number Overwritten = 8
kind_number Shared = 9
kind_number FixedBank = 10

-- two notes are the same: of one kind, at one place
abbrev pub same_note : Note → Note → Bool
same_note a b = kind_number a.kind == kind_number b.kind && same_spot a.place b.place

abbrev pub has_note : List Note → Note → Bool
has_note notes x = list_any (same_note x) notes

-- a note more, where it is not there yet
abbrev pub with_note : List Note → Note → List Note
with_note notes x = if has_note notes x then notes else notes ++ x ∷ []

-- the note of a kind, where that happens
abbrev pub with_kind : List Note → Kind → Option Linear → Bool → List Note
with_kind notes kind place happens = if happens then with_note notes (record { kind = kind; place = place }) else notes

-- what has been noted: what the steps have left, and the notes
pub record Noted : Type 0 where
  pub past : Past
  pub notes : List Note

abbrev pub nothing_noted : Noted
nothing_noted = record { past = no_past; notes = [] }

-- the notes of all kinds that happen in a step
unfoldable pub kind_noted : Named → Words → State → NextStep → Noted → Kind → List Note → List Note
kind_noted named rope s step a kind notes = with_kind notes kind (spot_of step) (happens_in named rope s a.past kind step)

abbrev pub step_notes : Named → Words → State → NextStep → Noted → List Note
step_notes named rope s step a =
    let noted : Kind → List Note → List Note = kind_noted named rope s step a in
    noted FixedBank (noted Shared (noted Overwritten (noted MinusZero (noted NotKept (noted OtherBank (noted NoHandler (noted InErasable
    (noted NoWord (noted Skip (noted Quotient a.notes))))))))))

-- one step more
abbrev pub noted_by : Named → Words → State → NextStep → Noted → Noted
noted_by named rope s step a = record { past = past_by s a.past step; notes = step_notes named rope s step a }

abbrev pub noted_more : Named → Scenario → State → Noted → Noted
noted_more named scenario s a = noted_by named scenario.rope s (next_step scenario s) a
