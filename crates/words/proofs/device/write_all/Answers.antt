use Rattle.std.proofs.Common.{rules, ◌∙◌, arith}
use Rattle.words.proofs.Texts.{append-take, beginning-take}
use Rattle.words.proofs.device.write_all.Goals as goal

pub loop-done-preserved : goal.loop-done-preserved
loop-done-preserved g c = record {
  within = search rules;
  written = λ told. append-take _ _ _ _ _ _ (c.loop-done.invariant.written told) (c.in-Ok.ensures.bytes told);
  failures = grind (arith, c.in-Ok.ensures.failures, c.loop-done.invariant.failures, c.if-count-gt0.true);
}

pub returns-in_default-clause-written : goal.returns-in_default-clause-written
returns-in_default-clause-written g c = λ told.
    beginning-take _ _ _ _ (append-take _ _ _ _ _ _ (c.loop-done.invariant.written told) (c.in-Ok.ensures.bytes told))

pub returns-in_default-2-clause-written : goal.returns-in_default-2-clause-written
returns-in_default-2-clause-written g c = λ told.
    beginning-take _ _ _ _ (c.in_default.ensures.err told ∙ c.loop-done.invariant.written told)
