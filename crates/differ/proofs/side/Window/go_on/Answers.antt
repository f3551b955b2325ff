use Rattle.std.proofs.Common.{◌≡◌, ◌∷◌, ◌∙◌, List, sym, ap}
use Rattle.differ.specs.MainSteps.{MainStep}
use Rattle.differ.proofs.Turns.{head_of, none_of, on_ended, on_kept, within_rest}
use Rattle.differ.proofs.side.Window.go_on.Goals as goal

pub returns-in-None-clause-side : goal.returns-in-None-clause-side
returns-in-None-clause-side c =
    let none = none_of c.args.self.now.ahead.items (sym c.pop_at.ensures.value ∙ c.in-None.is) in
    rw c.in-None.ensures.absent (on_ended c.args.processor.now.scenario c.args.steps c.args.self.now c.requires.full none)

pub fill-requires-clause-known : goal.fill-requires-clause-known
fill-requires-clause-known c =
    let is = head_of c.args.self.now.ahead.items c.in-Some.step (sym c.pop_at.ensures.value ∙ c.in-Some.is)
    ∙ ap (λ (ys : List MainStep). c.in-Some.step ∷ ys) (sym c.in-Some.ensures.items) in
    within_rest c.args.steps c.args.self.now.ahead.items c.pop_at.new.self.items c.in-Some.step is c.requires.full.known

pub returns-in-Some-clause-side : goal.returns-in-Some-clause-side
returns-in-Some-clause-side c =
    let is = head_of c.args.self.now.ahead.items c.in-Some.step (sym c.pop_at.ensures.value ∙ c.in-Some.is)
    ∙ ap (λ (ys : List MainStep). c.in-Some.step ∷ ys) (sym c.in-Some.ensures.items) in
    c.fill.ensures.side
    ∙ on_kept c.args.processor.now.scenario c.args.steps c.args.self.now.done c.args.self.now.before.items c.args.self.now.ahead.items
    c.pop_at.new.self.items c.keep_before.new.before.items c.in-Some.step is c.keep_before.ensures
