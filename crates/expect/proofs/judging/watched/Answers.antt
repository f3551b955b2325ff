use Rattle.std.proofs.Common.{◌∙◌, sym}
use Rattle.cpu.proofs.RunLaws.{run-zero}
use Rattle.expect.proofs.Watching.{all_started, put_back}
use Rattle.expect.proofs.judging.watched.Goals as goal

pub returns : goal.returns
returns c =
    put_back _ _ _ _ _ c.deref_mut.ensures.value c.deref_mut.ensures.len c.start_all.ensures
    ∙ all_started c.args.processor.now.scenario _ _ _ c.args.claims.now
    (c.start-machine.ensures.start ∙ sym (run-zero c.args.processor.now.scenario))
    (c.deref_mut.ensures.value ∙ c.in_ok-watches.ensures) c.start_all.ensures
