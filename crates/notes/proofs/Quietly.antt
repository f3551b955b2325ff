-- A quiet step is noted: nothing is added.
use Rattle.std.proofs.Common.{◌≡◌, List, true, refl, sym, ap, ◌∙◌}
use Rattle.yayul.specs.Named.{Named}
use Rattle.rope.specs.Places.{Words}
use Rattle.cpu.specs.declared.next_step.NextStep.{NextStep}
use Rattle.cpu.specs.NextStep.{next_step}
use Rattle.cpu.specs.State.{Scenario, State}
use Rattle.notes.specs.declared.kind.Kind.{Kind}
use Rattle.notes.specs.declared.kind.Kind.TheVariants.{Quotient, Skip, NoWord, InErasable, NoHandler, OtherBank, NotKept, MinusZero}
use Rattle.notes.specs.declared.kind.Kind.TheVariants.{Overwritten, Shared, FixedBank}
use Rattle.notes.specs.declared.noted.Note.{Note}
use Rattle.notes.specs.Notes.{is_quiet_step}
use Rattle.notes.specs.Noted.{Noted, kind_noted, noted_more, spot_of, step_notes, with_kind}
use Rattle.notes.proofs.Plain.{quiet_past, step_none}

-- a kind that does not happen adds nothing
kind_none : (named : Named) (rope : Words) (s : State) (step : NextStep) (a : Noted) → is_quiet_step named rope s a.past step ≡ true
    → (kind : Kind) (notes : List Note) → kind_noted named rope s step a kind notes ≡ notes
unfolding kind_noted
kind_none named rope s step a quiet kind notes = ap (λ b. with_kind notes kind (spot_of step) b)
    (step_none named rope s step a.past quiet kind)

notes_stay : (named : Named) (rope : Words) (s : State) (step : NextStep) (a : Noted) → is_quiet_step named rope s a.past step ≡ true
    → step_notes named rope s step a ≡ a.notes
notes_stay named rope s step a quiet =
    let none = kind_none named rope s step a quiet in
    rw (
      none Quotient a.notes,
      none Skip a.notes,
      none NoWord a.notes,
      none InErasable a.notes,
      none NoHandler a.notes,
      none OtherBank a.notes,
      none NotKept a.notes,
      none MinusZero a.notes,
      none Overwritten a.notes,
      none Shared a.notes,
      none FixedBank a.notes,
    ) refl

pub quiet_is_noted : (named : Named) (scenario : Scenario) (s : State) (step : NextStep) (a : Noted) → step ≡ next_step scenario s
    → is_quiet_step named scenario.rope s a.past step ≡ true → a ≡ noted_more named scenario s a
quiet_is_noted named scenario s step a was quiet =
    let e : is_quiet_step named scenario.rope s a.past (next_step scenario s) ≡ true = rw was at quiet in
    ap (λ p. record { past = p; notes = a.notes }) (quiet_past named scenario.rope s (next_step scenario s) a.past e)
    ∙ ap (λ n. record { past = (noted_more named scenario s a).past; notes = n })
    (sym (notes_stay named scenario.rope s (next_step scenario s) a e))
