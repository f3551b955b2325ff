use Rattle.access.proofs.Counting.{step_again}
use Rattle.access.proofs.tally.Tally.keep_again.Goals as goal

pub returns : goal.returns
returns c = step_again c.args.processor.now.scenario c.args.machine.now c.args.self.now c.again_at.new.self c.args.number
    (rw c.again_at.ensures.all c.requires.number) c.requires.known c.requires.account c.requires.kind c.again_at.ensures.last
    c.requires.repeats c.requires.kept c.again_at.ensures.value
