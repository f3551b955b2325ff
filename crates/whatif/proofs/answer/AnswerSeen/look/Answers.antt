use Rattle.whatif.proofs.Stray.{seen_once}
use Rattle.whatif.proofs.answer.AnswerSeen.look.Goals as goal

pub returns-clause-seen : goal.returns-clause-seen
returns-clause-seen c =
    seen_once c.see.result c.args.beside.now.others c.args.processor.now.scenario c.args.machine.now _ c.args.self.now _
    c.make_step-put.result _ c.strays_first-is_stray.ensures
    (c.make_step-put.ensures.step c.requires.cycles c.requires.fits) (rw c.others.ensures at c.see.ensures)
