use Rattle.std.proofs.Common.{[], append-nil, sym}
use Rattle.workshop.proofs.RunSteps.{lines_of_none}
use Rattle.workshop.proofs.engine.write_put.Goals as goal

pub returns-in-None-clause-written : goal.returns-in-None-clause-written
returns-in-None-clause-written g c = λ told. rw (c.in-None.is, lines_of_none) (sym (append-nil (g.W.Write.written c.args.out.now)))
