use Rattle.std.proofs.Common.{◌≡◌, ◌∙◌, ap}
use Rattle.whatif.specs.Images.{less_image}
use Rattle.whatif.specs.Looked.{looked}
use Rattle.whatif.proofs.Holding.{let_go}
use Rattle.whatif.proofs.OneMore.{came_as_trial, looked_at, state_at}
use Rattle.whatif.proofs.branch.branch.Goals as goal

pub go_on-requires-clause-machine : goal.go_on-requires-clause-machine
go_on-requires-clause-machine g c =
    state_at c.args.processor.now.scenario _ c.args.trunk.now.done _ c.args.trial.now.cycle c.args.trial.now.input _ _
    c.in_ok-fork.ensures.rope c.in_ok-fork.ensures.later c.in_ok-fork.ensures.inputs c.requires.before c.requires.machine
    c.in_ok-going.ensures.machine c.in_ok-going.ensures.done

pub go_on-requires-clause-seen : goal.go_on-requires-clause-seen
go_on-requires-clause-seen g c =
    looked_at g.S.Seen.begins (g.S.Seen.more c.args.beside.now) c.args.trunk.now.from _ c.args.processor.now.scenario _
    c.args.trunk.now.done _ c.args.trial.now.cycle c.args.trial.now.input _ _ c.in_ok-fork.ensures.rope c.in_ok-fork.ensures.later
    c.in_ok-fork.ensures.inputs c.requires.before c.requires.seen
    c.in_ok-going.ensures.seen c.in_ok-going.ensures.from c.in_ok-going.ensures.done

pub returns-clause-came : goal.returns-clause-came
returns-clause-came g c =
    let more = g.S.Seen.more c.args.beside.now in
    let seen : c.go_on.new.self.seen ≡ looked g.S.Seen.begins more c.args.trunk.now.from c.in_ok-fork.fork.scenario c.args.steps = rw
    c.in_ok-going.ensures.from at c.in_ok-go_on.ensures.seen in
    came_as_trial (g.S.Seen.comes c.args.without.now.machine c.args.without.now.seen) g.S.Seen.begins more c.args.trunk.now.from
    c.args.processor.now.scenario _ c.args.trial.now c.args.steps _ _ _ c.in_ok-fork.ensures.rope c.in_ok-fork.ensures.inputs
    c.in_ok-go_on.ensures.machine seen c.in_ok-came.ensures

pub returns-clause-images : goal.returns-clause-images
returns-clause-images g c = c.give.ensures ∙ ap less_image c.in_ok-going.ensures.images ∙ let_go c.args.images.now
