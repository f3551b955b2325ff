use Rattle.std.proofs.Common.{◌≡◌, ◌∙◌, ap, arith}
use Rattle.whatif.specs.Images.{less_image}
use Rattle.whatif.proofs.Holding.{let_go}
use Rattle.whatif.proofs.Restarting.{comes_out, early, fits_there}
use Rattle.whatif.proofs.restart.restarted.Goals as goal

pub go_further-requires-clause-early : goal.go_further-requires-clause-early
go_further-requires-clause-early c =
    early c.args.processor.now.scenario c.args.trunk.now.done _ _ _ c.requires.machine c.in_ok-going.ensures.machine
    c.restart.ensures.state (omega (arith, c.requires.within, c.requires.few))

pub go_further-requires-clause-fits : goal.go_further-requires-clause-fits
go_further-requires-clause-fits c =
    c.restart.ensures.fits c.args.processor.now.scenario
    (fits_there c.args.processor.now.scenario c.args.trunk.now.done _ _ c.requires.machine c.in_ok-going.ensures.machine)

pub returns-clause-finish : goal.returns-clause-finish
returns-clause-finish c =
    comes_out c.args.without.now.seen.others c.args.without.now.machine.cells c.args.trunk.now.from c.args.processor.now.scenario
    c.args.steps c.args.trunk.now.done _ _ _ _ _ _ _ _ c.requires.machine c.in_ok-going.ensures.machine c.restart.ensures.state
    c.in_ok-go_further.ensures.machine c.requires.seen c.in_ok-going.ensures.seen
    c.in_ok-go_further.ensures.answer (rw c.store.ensures at c.finished-finish.ensures)

pub returns-clause-images : goal.returns-clause-images
returns-clause-images c = c.give.ensures ∙ ap less_image c.in_ok-going.ensures.images ∙ let_go c.args.images.now
