use Rattle.std.proofs.Common.{rules, None}
use Rattle.cpu.specs.Next.{next}
use Rattle.cpu.proofs.TakenLaws.{fits-after}
use Rattle.cpu.proofs.processor.Processor.step_uncounted.Goals as goal

pub returns-then-take_input-clause-fits : goal.returns-then-take_input-clause-fits
returns-then-take_input-clause-fits c = λ few fits. fits-after c.args.self.now.scenario c.args.machine.now c.take_input.new.machine None
    (search rules) fits

pub returns-in-Some-clause-fits : goal.returns-in-Some-clause-fits
unfolding next
returns-in-Some-clause-fits c = λ few fits. fits-after c.args.self.now.scenario c.args.machine.now c.enter.new.self None (search rules) fits

pub returns-clause-fits : goal.returns-clause-fits
unfolding next
returns-clause-fits c = λ few fits. fits-after c.args.self.now.scenario c.args.machine.now c.execute.new.self c.execute.result
    (search rules) fits
