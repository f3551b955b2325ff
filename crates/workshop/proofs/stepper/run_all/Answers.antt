use Rattle.std.proofs.Common.{◌≡◌, ◌+◌, ◌∙◌, refl, sym, ap, append-nil, arith}
use Rattle.std.proofs.lemmas.Result.{err_from_is_err_and}
use Rattle.cpu.proofs.RunLaws.{run-zero}
use Rattle.words.specs.Devices.{one_more}
use Rattle.words.proofs.Texts.{beginning-along, beginning-whole}
use Rattle.workshop.specs.Failures.{writer}
use Rattle.workshop.specs.Stepping.{BreaksIn, Extends}
use Rattle.workshop.proofs.Slices.{begins_later}
use Rattle.workshop.proofs.Telling.{tells_at_start, tells_more, told_after_step, told_in_step}
use Rattle.workshop.proofs.stepper.run_all.Goals as goal

pub loop-done-init : goal.loop-done-init
loop-done-init g c = record {
  scenario = refl;
  kept = refl;
  state = c.requires.start ∙ sym (run-zero c.args.processor.now.scenario);
  stands = c.requires.none;
  written = λ told. rw c.requires.grows.none (sym (append-nil _));
  failures = refl;
  within = omega arith;
  handed_on = λ told some. absurd (omega (arith, some));
  tells = tells_at_start _;
  whole = λ more. refl;
  meter = λ metered. omega arith;
}

pub loop-done-2-init : goal.loop-done-2-init
loop-done-2-init g c =
    let before = c.loop-done.invariant in
    record {
      scenario = before.scenario;
      kept = before.kept;
      state = before.state;
      stands = before.stands;
      written = before.written;
      failures = before.failures;
      within = omega arith;
      further = omega arith;
      meter = before.meter;
    }

pub go_on-requires-clause-state : goal.go_on-requires-clause-state
go_on-requires-clause-state g c = rw c.loop-done-2.invariant.scenario c.loop-done-2.invariant.state

pub go_on-requires-clause-stands : goal.go_on-requires-clause-stands
go_on-requires-clause-stands g c =
    rw (c.loop-done-2.invariant.kept, c.loop-done-2.invariant.scenario) c.loop-done-2.invariant.stands

pub loop-done-2-preserved : goal.loop-done-2-preserved
loop-done-2-preserved g c =
    let before = c.loop-done-2.invariant in
    let made = c.in_ok-made.ensures in
    let text = g.S.Stepper.text (g.S.Stepper.kept c.args.stepper.now) c.args.processor.now.scenario in
    let more : Extends g.W.Write.told text c.loop-done-2.done c.in_ok-made.made (g.W.Write.written c.loop-done-2.out)
    (g.W.Write.written c.go_on.new.out) = rw (before.kept, before.scenario) at made.written.0 in
    record {
      scenario = made.scenario ∙ before.scenario;
      kept = made.kept ∙ before.kept;
      state = rw before.scenario at made.state;
      stands = rw (before.kept, before.scenario) at made.stands;
      written = λ told. more told _ (before.written told);
      failures = made.written.1 ∙ before.failures;
      within = made.within;
      further = omega (arith, before.further, made.past);
      meter = λ metered.
          (let least = before.meter metered in
          let most = made.meter metered in
          omega (arith, least, most));
    }

pub returns-in_err-made-clause-written : goal.returns-in_err-made-clause-written
returns-in_err-made-clause-written g c =
    let p = err_from_is_err_and c.from_residual.result c.from_residual.ensures.1 in
    let text = g.S.Stepper.text (g.S.Stepper.kept c.args.stepper.now) c.args.processor.now.scenario in
    let broken : BreaksIn text c.loop-done-2.done c.min-stop.result
    (writer g.W.Write c.loop-done-2.out)
    (writer g.W.Write c.go_on.new.out) =
    rw (c.loop-done-2.invariant.kept, c.loop-done-2.invariant.scenario) at c.in_err-made.ensures.written in
    λ told. rw p.1 (beginning-along _ _ _ _ (broken.broken told _ (c.loop-done-2.invariant.written told))
    (begins_later text c.requires.grows.more (broken.made + 1) c.args.steps (omega (arith, broken.within))))

pub returns-in_err-made-clause-failures : goal.returns-in_err-made-clause-failures
returns-in_err-made-clause-failures g c =
    let p = err_from_is_err_and c.from_residual.result c.from_residual.ensures.1 in
    rw p.1 (c.in_err-made.ensures.written.failures ∙ ap one_more c.loop-done-2.invariant.failures)

pub returns-in_err-made-clause-progress : goal.returns-in_err-made-clause-progress
returns-in_err-made-clause-progress g c =
    let p = err_from_is_err_and c.from_residual.result c.from_residual.ensures.1 in
    let text = g.S.Stepper.text (g.S.Stepper.kept c.args.stepper.now) c.args.processor.now.scenario in
    let broken : BreaksIn text c.loop-done-2.done c.min-stop.result
    (writer g.W.Write c.loop-done-2.out)
    (writer g.W.Write c.go_on.new.out) =
    rw (c.loop-done-2.invariant.kept, c.loop-done-2.invariant.scenario) at c.in_err-made.ensures.written in
    let here = c.loop-done-2.invariant in
    rw p.1 (told_in_step text c.args.steps c.loop-done.done broken.made _ _ c.loop-done.told
    (c.loop-done.invariant.whole c.loop-done-test.true) (omega (arith, broken.past, here.further))
    (omega (arith, broken.within)) (omega (arith, broken.within)) (λ told. broken.whole told _ (here.written told))
    (λ told. broken.broken told _ (here.written told)) c.loop-done.invariant.tells)

pub returns-in_err-made-clause-meter : goal.returns-in_err-made-clause-meter
returns-in_err-made-clause-meter g c = λ metered.
    (let before = c.loop-done-2.invariant.meter metered in
    let now = c.in_err-made.ensures.broken metered in
    omega (arith, before, now))

pub returns-in_err-hand_on-clause-written : goal.returns-in_err-hand_on-clause-written
returns-in_err-hand_on-clause-written g c =
    let p = err_from_is_err_and c.from_residual-in_err-hand_on.result c.from_residual-in_err-hand_on.ensures.1 in
    let text = g.S.Stepper.text (g.S.Stepper.kept c.args.stepper.now) c.args.processor.now.scenario in
    λ told. rw p.1 (beginning-along _ _ _ _
    (beginning-whole _ _ _ (c.in_err-hand_on.ensures.written told ∙ c.loop-done-2.invariant.written told))
    (begins_later text c.requires.grows.more c.loop-done-2.done c.args.steps (omega arith)))

pub returns-in_err-hand_on-clause-failures : goal.returns-in_err-hand_on-clause-failures
returns-in_err-hand_on-clause-failures g c =
    let p = err_from_is_err_and c.from_residual-in_err-hand_on.result c.from_residual-in_err-hand_on.ensures.1 in
    rw p.1 (c.in_err-hand_on.ensures.failures ∙ ap one_more c.loop-done-2.invariant.failures)

pub returns-in_err-hand_on-clause-progress : goal.returns-in_err-hand_on-clause-progress
returns-in_err-hand_on-clause-progress g c =
    let p = err_from_is_err_and c.from_residual-in_err-hand_on.result c.from_residual-in_err-hand_on.ensures.1 in
    let text = g.S.Stepper.text (g.S.Stepper.kept c.args.stepper.now) c.args.processor.now.scenario in
    rw p.1 (told_after_step text c.args.steps c.loop-done.done c.loop-done-2.done _ _ c.loop-done.told
    (c.loop-done.invariant.whole c.loop-done-test.true) (omega arith) (omega arith) (omega arith) c.requires.grows.more
    (λ told. c.in_err-hand_on.ensures.written told ∙ c.loop-done-2.invariant.written told) c.loop-done.invariant.tells)

pub returns-in_err-hand_on-clause-meter : goal.returns-in_err-hand_on-clause-meter
returns-in_err-hand_on-clause-meter g c = λ metered.
    (let before = c.loop-done-2.invariant.meter metered in
    omega (arith, before))

pub loop-done-preserved : goal.loop-done-preserved
loop-done-preserved g c =
    let here = c.loop-done-2.invariant in
    let whole = c.loop-done.invariant.whole c.loop-done-test.true in
    record {
      scenario = here.scenario;
      kept = here.kept;
      state = here.state;
      stands = here.stands;
      written = λ told. c.in_ok-hand_on.ensures.written told ∙ here.written told;
      failures = c.in_ok-hand_on.ensures.failures ∙ here.failures;
      within = omega arith;
      handed_on = λ told some. c.in_ok-hand_on.ensures.handed_on told;
      tells = tells_more c.loop-done.done c.loop-done-2.done _ _ _ _ _ whole (omega arith) (omega arith) refl c.loop-done.invariant.tells
          c.tell-told.ensures;
      whole = λ more. omega (arith, whole, more);
      meter = here.meter;
    }

pub returns-clause-state : goal.returns-clause-state
returns-clause-state g c =
    let end : c.loop-done.done ≡ c.args.steps = omega (arith, c.loop-done-test.false, c.loop-done.invariant.within) in
    rw end at c.loop-done.invariant.state

pub returns-clause-stands : goal.returns-clause-stands
returns-clause-stands g c =
    let end : c.loop-done.done ≡ c.args.steps = omega (arith, c.loop-done-test.false, c.loop-done.invariant.within) in
    rw end at c.loop-done.invariant.stands

pub returns-clause-written : goal.returns-clause-written
returns-clause-written g c =
    let end : c.loop-done.done ≡ c.args.steps = omega (arith, c.loop-done-test.false, c.loop-done.invariant.within) in
    rw end at c.loop-done.invariant.written

pub returns-clause-progress : goal.returns-clause-progress
returns-clause-progress g c =
    let end : c.loop-done.done ≡ c.args.steps = omega (arith, c.loop-done-test.false, c.loop-done.invariant.within) in
    record { told = c.loop-done.told; tells = rw (sym end) c.loop-done.invariant.tells }
