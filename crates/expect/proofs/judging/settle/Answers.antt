use Rattle.std.proofs.Common.{◌∙◌, map, ap}
use Rattle.expect.specs.Facts.{facts_of}
use Rattle.expect.specs.Watches.{settled}
use Rattle.expect.proofs.Watching.{put_back}
use Rattle.expect.proofs.judging.settle.Goals as goal

pub returns : goal.returns
returns c =
    let f = settled (facts_of c.args.known.now) c.args.machine.now c.args.steps in
    put_back f _ _ _ _ c.deref_mut.ensures.value c.deref_mut.ensures.len c.settle_all.ensures
    ∙ c.settle_all.ensures ∙ ap (map f) c.deref_mut.ensures.value
