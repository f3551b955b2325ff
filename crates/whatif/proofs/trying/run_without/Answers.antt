use Rattle.std.proofs.Common.{◌∙◌}
use Rattle.whatif.proofs.Steps.{looked_begins}
use Rattle.whatif.proofs.trying.run_without.Goals as goal

pub go_on-requires-clause-machine : goal.go_on-requires-clause-machine
go_on-requires-clause-machine g c = rw c.in-Ok.ensures.done (c.in-Ok.ensures.machine ∙ c.requires.machine)

pub go_on-requires-clause-seen : goal.go_on-requires-clause-seen
go_on-requires-clause-seen g c = rw c.in-Ok.ensures.done
    (looked_begins g.S.Seen.begins (g.S.Seen.more c.args.beside.now) c.args.processor.now.scenario _ _ _
    (c.in-Ok.ensures.seen ∙ c.requires.begun) (c.in-Ok.ensures.from ∙ c.requires.from))

pub returns-in-Ok-go_on-clause-seen : goal.returns-in-Ok-go_on-clause-seen
returns-in-Ok-go_on-clause-seen g c = rw c.in-Ok.ensures.from at c.in-Ok-go_on.ensures.seen
