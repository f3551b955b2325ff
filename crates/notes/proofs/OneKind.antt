-- The kinds of a step are noted one after another.
use Rattle.std.proofs.Common.{◌≡◌, List, ap, ◌∙◌}
use Rattle.yayul.specs.Named.{Named}
use Rattle.rope.specs.Places.{Words}
use Rattle.cpu.specs.declared.next_step.NextStep.{NextStep}
use Rattle.cpu.specs.State.{State}
use Rattle.notes.specs.declared.kind.Kind.{Kind}
use Rattle.notes.specs.declared.noted.Note.{Note}
use Rattle.notes.specs.Noted.{Noted, kind_noted}

pub kind_more : (named : Named) (rope : Words) (s : State) (step : NextStep) (a before after : Noted) (kind : Kind) (notes : List Note)
    → before ≡ record a { notes = notes }
    → after ≡ record before { notes = kind_noted named rope s step before kind before.notes }
    → after ≡ record a { notes = kind_noted named rope s step a kind notes }
unfolding kind_noted
kind_more named rope s step a before after kind notes is made =
    made ∙ ap (λ (x : Noted). record x { notes = kind_noted named rope s step x kind x.notes }) is
