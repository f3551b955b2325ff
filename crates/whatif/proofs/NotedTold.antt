-- What is told of the notes of a run, and of trials.
use Rattle.std.proofs.Common.{◌≡◌, ℕ, List, ◌++◌, None, refl}
use Rattle.feed.specs.declared.entry.Plain.{Plain}
use Rattle.yayul.specs.Named.{Named}
use Rattle.cpu.specs.State.{Scenario}
use Rattle.notes.specs.declared.noted.Note.{Note}
use Rattle.whatif.specs.Changes.{changes, joins, notes_of, span_text, trials_text, without_text}
use Rattle.whatif.specs.Together.{told_together}

pub text_parts : (named : Named) (from : ℕ) (scenario : Scenario) (trials : List Plain) (steps : ℕ) (without : List Note)
    → without ≡ notes_of named from scenario steps
    → trials_text named from scenario trials steps
    ≡ without_text without ++ told_together joins span_text None (changes named without from scenario steps trials)
unfolding trials_text
text_parts named from scenario trials steps without is = rw is refl
