use Rattle.std.proofs.Common.{◌<◌, subst}
use Rattle.feed.specs.Added.{TakenBelow}
use Rattle.cpu.specs.State.{State, Scenario, Processing, FitsRun}
use Rattle.std.proofs.lemmas.Result.{on_ok_weaker}
use Rattle.cpu.specs.Run.{run}
use Rattle.cpu.specs.Additions.{AreAlikeUpTo}
use Rattle.cpu.proofs.LateInputs.{runs-alike}
use Rattle.cpu.proofs.processor.Processor.add.Goals as goal

pub returns-clause-later : goal.returns-clause-later
returns-clause-later c =
    let added : Scenario = record { rope = c.self.inside.rope; inputs = c.add.new.self } in
    on_ok_weaker c.add.result
    (λ same n. subst (λ (p : Processing). (run p.scenario n).cycles < c.args.cycle → AreAlikeUpTo p.scenario added n) c.self.view_is
    (λ below. runs-alike (record { rope = c.self.inside.rope; inputs = c.self.inside.feed }) c.add.new.self c.args.cycle n same below))
    c.add.ensures.later

pub returns-clause-fits : goal.returns-clause-fits
returns-clause-fits c =
    let added : Scenario = record { rope = c.self.inside.rope; inputs = c.add.new.self } in
    on_ok_weaker c.add.result
    (λ fits (s : State). subst (λ (p : Processing). TakenBelow p.scenario.inputs s.taken c.args.cycle → FitsRun p.scenario s
    → FitsRun added s) c.self.view_is (fits s.taken s.counts))
    c.add.ensures.fits
