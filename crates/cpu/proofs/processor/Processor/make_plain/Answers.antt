use Rattle.std.proofs.Common.{◌∙◌, ap}
use Rattle.rope.specs.Places.{Words}
use Rattle.cpu.specs.Next.{execute}
use Rattle.cpu.proofs.Quiet.{quiet_after, quiet_next}
use Rattle.cpu.proofs.processor.Processor.make_plain.Goals as goal

pub returns-then-extra-clause-made : goal.returns-then-extra-clause-made
returns-then-extra-clause-made c = λ is.
    quiet_next c.args.self.now.scenario c.args.machine.now c.execute_extracode_word.new.self c.args.quiet c.requires.quiet c.requires.some
    (c.execute_extracode_word.ensures.made is ∙ ap (λ (r : Words). execute r c.args.machine.now) c.rope.ensures)

pub returns-then-extra-clause-quiet : goal.returns-then-extra-clause-quiet
returns-then-extra-clause-quiet c = λ is.
    quiet_after c.args.self.now.scenario c.args.machine.now c.execute_extracode_word.new.self c.args.quiet c.requires.quiet c.requires.some
    (c.execute_extracode_word.ensures.made is ∙ ap (λ (r : Words). execute r c.args.machine.now) c.rope.ensures)
    c.execute_extracode_word.ensures.still

pub returns-in-Some-clause-made : goal.returns-in-Some-clause-made
returns-in-Some-clause-made c = λ _.
    quiet_next c.args.self.now.scenario c.args.machine.now c.execute_basic_word.new.self c.args.quiet c.requires.quiet c.requires.some
    (c.in-Some.ensures.made ∙ ap (λ (r : Words). execute r c.args.machine.now) c.rope-else-extra.ensures)

pub returns-in-Some-clause-quiet : goal.returns-in-Some-clause-quiet
returns-in-Some-clause-quiet c = λ _.
    quiet_after c.args.self.now.scenario c.args.machine.now c.execute_basic_word.new.self c.args.quiet c.requires.quiet c.requires.some
    (c.in-Some.ensures.made ∙ ap (λ (r : Words). execute r c.args.machine.now) c.rope-else-extra.ensures)
    c.execute_basic_word.ensures.still
