use Rattle.std.proofs.Common.{◌≡◌, ◌∙◌, sym, subst}
use Rattle.notes.specs.Noted.{Noted, noted_more}
use Rattle.notes.proofs.Quietly.{quiet_is_noted}
use Rattle.notes.proofs.noted.NotedSteps.note.Goals as goal

pub returns-then-is_quiet_step : goal.returns-then-is_quiet_step
returns-then-is_quiet_step c =
    let old : Noted = record { past = c.self.inside.past; notes = c.self.inside.notes.items } in
    subst (λ a. a ≡ noted_more c.args.named.now c.args.processor.now.scenario c.args.machine.now a) c.self.view_is
    (quiet_is_noted c.args.named.now c.args.processor.now.scenario c.args.machine.now c.next_step-step.result old
    (c.next_step-step.ensures c.requires.fits) (sym c.is_quiet_step.ensures ∙ c.if-is_quiet_step.true))
