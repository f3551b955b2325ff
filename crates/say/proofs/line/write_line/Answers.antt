use Rattle.std.proofs.Common.{◌++◌}
use Rattle.std.specs.Prelude.{codes, decimal}
use Rattle.std.proofs.lemmas.Result.{err_from_is_err_and}
use Rattle.words.proofs.Texts.{beginning-after, beginning-longer, Writes-after}
use Rattle.trace.specs.TraceLines.{field}
use Rattle.say.specs.Said.{filled}
use Rattle.say.specs.Told.{values_after}
use Rattle.say.proofs.line.write_line.Goals as goal

pub returns-in_err-write_head-clause-written : goal.returns-in_err-write_head-clause-written
returns-in_err-write_head-clause-written g c = λ told.
    let p = err_from_is_err_and c.from_residual.result c.from_residual.ensures.1 in
    let scene = c.args.scene in
    rw p.1 (beginning-longer _ _ (field 8 (decimal c.args.number) ++ scene.what.items)
    (filled scene.called scene.places.channel scene.before (values_after c.args.rope.now c.args.machine.now scene.places)
    scene.sentence.items ++ codes "\n") (c.in_err-write_head.ensures.written told))

pub returns-in_err-write_filled-clause-written : goal.returns-in_err-write_filled-clause-written
returns-in_err-write_filled-clause-written g c = λ told.
    let p = err_from_is_err_and c.from_residual-in_err-write_filled.result c.from_residual-in_err-write_filled.ensures.1 in
    let scene = c.args.scene in
    rw p.1 (beginning-after _ _ _ (field 8 (decimal c.args.number) ++ scene.what.items)
    (filled scene.called scene.places.channel scene.before (values_after c.args.rope.now c.args.machine.now scene.places)
    scene.sentence.items ++ codes "\n")
    (c.in_ok-write_head.ensures.written told)
    (beginning-longer _ _ (filled scene.called scene.places.channel scene.before
    (values_after c.args.rope.now c.args.machine.now scene.places) scene.sentence.items) (codes "\n")
    (rw (c.as_slice.ensures.value, c.values_after-after.ensures) at (c.in_err-write_filled.ensures.written told))))

pub returns-clause-written : goal.returns-clause-written
returns-clause-written g c = λ told.
    let scene = c.args.scene in
    Writes-after _ _ _ (field 8 (decimal c.args.number) ++ scene.what.items)
    (filled scene.called scene.places.channel scene.before (values_after c.args.rope.now c.args.machine.now scene.places)
    scene.sentence.items ++ codes "\n") _
    (c.in_ok-write_head.ensures.written told)
    (Writes-after _ _ _ (filled scene.called scene.places.channel scene.before
    (values_after c.args.rope.now c.args.machine.now scene.places) scene.sentence.items) (codes "\n") _
    (rw (c.as_slice.ensures.value, c.values_after-after.ensures) at (c.in_ok-write_filled.ensures.written told))
    (c.write_all.ensures.written told))
