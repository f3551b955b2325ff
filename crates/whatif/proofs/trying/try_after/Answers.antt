use Rattle.std.proofs.Common.{◌≡◌, ◌∙◌, false, refl, arith}
use Rattle.std.proofs.lemmas.Result.{err_from_is_err_and}
use Rattle.words.proofs.Texts.{Writes-after, beginning-longer}
use Rattle.whatif.specs.Failing.{has_write_failed}
use Rattle.whatif.specs.Spans.{without_text}
use Rattle.whatif.proofs.Told.{trials_parts}
use Rattle.whatif.proofs.trying.try_after.Goals as goal

pub write_trials-requires-clause-machine : goal.write_trials-requires-clause-machine
write_trials-requires-clause-machine g c = rw c.in_ok-without.ensures.scenario c.requires.machine

pub write_trials-requires-clause-before : goal.write_trials-requires-clause-before
write_trials-requires-clause-before g c = rw c.in_ok-without.ensures.scenario c.requires.before

pub returns-in_err-without-clause-failures : goal.returns-in_err-without-clause-failures
returns-in_err-without-clause-failures g c =
    let p = err_from_is_err_and c.from_residual.result c.from_residual.ensures.1 in
    let fails : has_write_failed c.from_residual.result ≡ false = rw p.1 (rw p.2 c.in_err-without.ensures.kept) in
    rw fails refl

pub returns-in_err-write_without-clause-written : goal.returns-in_err-write_without-clause-written
returns-in_err-write_without-clause-written g c = λ told.
    let p = err_from_is_err_and c.from_residual-in_err-write_without.result c.from_residual-in_err-write_without.ensures.1 in
    let without = c.in_ok-without.without in
    rw (trials_parts c.args.others c.args.start.now.from c.args.processor.now.scenario c.args.trials.now c.args.steps without.machine
    without.seen c.in_ok-without.ensures.machine (rw c.none-alone.ensures at c.in_ok-without.ensures.seen))
    (rw p.1 (beginning-longer _ _ (without_text without.machine without.seen) _ (c.in_err-write_without.ensures.written told)))

pub returns-clause-written : goal.returns-clause-written
returns-clause-written g c = λ told.
    let without = c.in_ok-without.without in
    rw (trials_parts c.args.others c.args.start.now.from c.args.processor.now.scenario c.args.trials.now c.args.steps without.machine
    without.seen c.in_ok-without.ensures.machine (rw c.none-alone.ensures at c.in_ok-without.ensures.seen))
    (Writes-after _ _ _ (without_text without.machine without.seen) _ _ (c.in_ok-write_without.ensures.written told)
    (rw (c.in_ok-without.ensures.scenario, c.telling-told.ensures) at (c.write_trials.ensures.written told)))
