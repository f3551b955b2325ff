use Rattle.std.proofs.Common.{◌≡◌, ◌∙◌, ◌+◌, ◌-◌, None, refl, ap, arith}
use Rattle.std.proofs.lemmas.Result.{err_from_is_err_and}
use Rattle.cpu.specs.State.{State}
use Rattle.whatif.specs.declared.images.Images.{Images}
use Rattle.whatif.specs.Here.{own_steps}
use Rattle.whatif.specs.Restarts.{finish_restarted, restart_after, restart_telling}
use Rattle.whatif.specs.Spans.{joins, span_text, spans_text}
use Rattle.whatif.specs.Together.{open_text}
use Rattle.whatif.proofs.Restarting.{all_restarts, meter_more, next_restart, no_restart}
use Rattle.whatif.proofs.Told.{few_span, next_told, none_left, span_told}
use Rattle.words.proofs.Writing.{so_far_breaks, so_far_last, so_far_more, so_far_same, so_far_start}
use Rattle.whatif.proofs.restart.write_restarts.Goals as goal

pub loop-further-init : goal.loop-further-init
unfolding own_steps
loop-further-init g c = record {
  written = λ told. so_far_same _ _ _ _ _ (so_far_start _ _)
      (ap (λ left. spans_text (restart_telling c.args.more) None left)
      (all_restarts c.args.without.now.seen.others c.args.without.now.machine.cells c.args.trunk.now.from
      c.args.processor.now.scenario c.args.steps c.args.trunk.now.done (c.args.more + 1) 0 refl));
  failures = refl;
  scenario = refl;
  order = omega arith;
  last = omega arith;
  machine = c.requires.machine;
  from = refl;
  begun = omega (arith, c.requires.from);
  seen = c.requires.seen;
  few = omega arith;
  once = omega arith;
  held = c.requires.held;
  most = c.requires.most;
}

pub restart_at-requires-clause-machine : goal.restart_at-requires-clause-machine
restart_at-requires-clause-machine g c = rw c.loop-further.invariant.scenario c.loop-further.invariant.machine

pub restart_at-requires-clause-seen : goal.restart_at-requires-clause-seen
restart_at-requires-clause-seen g c = rw (c.loop-further.invariant.scenario, c.loop-further.invariant.from)
    c.loop-further.invariant.seen

pub returns-in_err-with_trial-clause-written : goal.returns-in_err-with_trial-clause-written
returns-in_err-with_trial-clause-written g c = λ told.
    let scenario = c.args.processor.now.scenario in
    let first = c.args.trunk.now.done in
    let further = c.loop-further.further in
    let base = c.args.without.now.seen.others in
    let cells = c.args.without.now.machine.cells in
    let from = c.args.trunk.now.from in
    let out : c.in-Ok.finish ≡ finish_restarted base cells from scenario c.args.steps (first + further) =
    rw (c.loop-further.invariant.scenario, c.loop-further.invariant.from) at c.in-Ok.ensures.finish in
    let at : c.cycles-cycle.result ≡ (restart_after base cells from scenario c.args.steps (first + further)).0 =
    c.cycles-cycle.ensures ∙ ap (λ (s : State). s.cycles) (rw c.loop-further.invariant.scenario at c.in-Ok.ensures.machine) in
    let p = err_from_is_err_and c.from_residual.result c.from_residual.ensures.1 in
    rw p.1
    (so_far_breaks _ _ _ _ _ _ _ (c.loop-further.invariant.written told)
    (next_told (joins (restart_telling c.args.more)) (span_text (restart_telling c.args.more)) c.loop-further.pending _ _ c.cycles-cycle.result _
    (restart_after base cells from scenario c.args.steps (first + further))
    (next_restart base cells from scenario c.args.steps first further (c.args.more + 1) (omega arith)) at out)
    (rw c.restart_telling-told.ensures at (c.in_err-with_trial.ensures.written told)))

pub loop-further-preserved : goal.loop-further-preserved
loop-further-preserved g c =
    let scenario = c.args.processor.now.scenario in
    let first = c.args.trunk.now.done in
    let further = c.loop-further.further in
    let base = c.args.without.now.seen.others in
    let cells = c.args.without.now.machine.cells in
    let from = c.args.trunk.now.from in
    let out : c.in-Ok.finish ≡ finish_restarted base cells from scenario c.args.steps (first + further) =
    rw (c.loop-further.invariant.scenario, c.loop-further.invariant.from) at c.in-Ok.ensures.finish in
    let at : c.cycles-cycle.result ≡ (restart_after base cells from scenario c.args.steps (first + further)).0 =
    c.cycles-cycle.ensures ∙ ap (λ (s : State). s.cycles) (rw c.loop-further.invariant.scenario at c.in-Ok.ensures.machine) in
    record {
      written = λ told.
          so_far_more _ _ _ _ _ _ _ (c.loop-further.invariant.written told)
          (span_told (joins (restart_telling c.args.more)) (span_text (restart_telling c.args.more)) c.loop-further.pending _ _
          c.cycles-cycle.result _ (restart_after base cells from scenario c.args.steps (first + further)) _
          (next_restart base cells from scenario c.args.steps first further (c.args.more + 1) (omega arith)) at out
          (rw c.restart_telling-told.ensures at c.in_ok-with_trial.ensures.span))
          (rw c.restart_telling-told.ensures at (c.in_ok-with_trial.ensures.written told));
      failures = c.in_ok-with_trial.ensures.failures ∙ c.loop-further.invariant.failures;
      scenario = c.in-Ok.ensures.scenario ∙ c.loop-further.invariant.scenario;
      order = omega (arith, c.in-Ok.ensures.done);
      last = omega (arith, c.in-Ok.ensures.done);
      machine = rw c.in-Ok.ensures.done (rw c.loop-further.invariant.scenario at c.in-Ok.ensures.machine);
      from = c.in-Ok.ensures.from ∙ c.loop-further.invariant.from;
      begun = omega (
        arith,
        c.loop-further.invariant.begun,
        c.loop-further.invariant.order,
        c.in-Ok.ensures.done,
        c.in-Ok.ensures.from,
      );
      seen = rw c.in-Ok.ensures.done
          (rw (c.loop-further.invariant.scenario, c.loop-further.invariant.from) at c.in-Ok.ensures.seen);
      few = few_span (joins c.restart_telling-told.result) c.loop-further.pending c.cycles-cycle.result _ _ c.loop-further.further
          c.loop-further.invariant.few c.in_ok-with_trial.ensures.span;
      once =
          let made = meter_more first further c.args.steps c.args.processor.now.meter _ c.loop-further.trunk.done _
          (omega (arith, c.requires.within)) c.loop-further.invariant.once c.in-Ok.ensures.once in
          omega (arith, made, c.in-Ok.ensures.done);
      held = ap (λ (i : Images). i.held) c.in-Ok.ensures.images ∙ c.loop-further.invariant.held;
      most =
          let is = ap (λ (i : Images). i.most) c.in-Ok.ensures.images in
          omega (arith, is, c.loop-further.invariant.most, c.loop-further.invariant.held);
    }

pub returns-clause-written : goal.returns-clause-written
returns-clause-written g c = λ told.
    so_far_last _ _ _ _ (open_text (span_text (restart_telling c.args.more)) c.loop-further.pending) _ _
    (c.loop-further.invariant.written told)
    (none_left (joins (restart_telling c.args.more)) (span_text (restart_telling c.args.more)) c.loop-further.pending _
    (no_restart c.args.without.now.seen.others c.args.without.now.machine.cells c.args.trunk.now.from c.args.processor.now.scenario
    c.args.steps (c.args.trunk.now.done + c.loop-further.further) ((c.args.more + 1) - c.loop-further.further) (omega arith)))
    (rw c.restart_telling-told.ensures at (c.write_open.ensures.written told))
