use Rattle.std.proofs.Common.{◌≡◌, ◌∙◌, ◌+◌, ◌-◌, ◌∷◌, [], None, refl, sym, ap, append-nil, arith}
use Rattle.std.proofs.lemmas.Result.{err_from_is_err_and}
use Rattle.whatif.specs.declared.images.Images.{Images}
use Rattle.whatif.specs.Here.{own_steps, trial_after, trials_after}
use Rattle.whatif.specs.Looked.{all_came, came, came_with}
use Rattle.whatif.specs.Together.{open_text, told_together}
use Rattle.whatif.specs.Trials.{tried}
use Rattle.whatif.proofs.Stepwise.{all_trials, next_trial, no_trial, own_more}
use Rattle.whatif.proofs.Told.{few_span, first_came, next_told, none_came, none_left, span_told}
use Rattle.words.proofs.Writing.{so_far_breaks, so_far_ends, so_far_more, so_far_same, so_far_start}
use Rattle.whatif.proofs.here.write_each.Goals as goal

pub loop-further-init : goal.loop-further-init
unfolding own_steps
loop-further-init g c = record {
  written = λ told. so_far_same _ _ _ _ _ (so_far_start _ _)
      (ap (λ trials. told_together (g.S.Seen.joins_by c.args.told) (g.S.Seen.tells c.args.told) None
      (all_came (g.S.Seen.comes c.args.without.now.machine c.args.without.now.seen) g.S.Seen.begins (g.S.Seen.more c.args.beside.now)
      c.args.trunk.now.from c.args.processor.now.scenario c.args.steps trials))
      (all_trials c.args.processor.now.scenario c.args.input c.args.first (c.args.more + 1) 0 refl));
  failures = refl;
  scenario = refl;
  order = omega (arith, c.requires.order);
  last = omega (arith, c.requires.order);
  machine = c.requires.machine;
  from = refl;
  begun = omega (arith, c.requires.from);
  seen = c.requires.seen;
  few = omega arith;
  once = omega arith;
  own = omega arith;
  small = omega arith;
  held = c.requires.held;
  most = c.requires.most;
}

pub try_at-requires-clause-machine : goal.try_at-requires-clause-machine
try_at-requires-clause-machine g c = rw c.loop-further.invariant.scenario c.loop-further.invariant.machine

pub try_at-requires-clause-seen : goal.try_at-requires-clause-seen
try_at-requires-clause-seen g c = rw (c.loop-further.invariant.scenario, c.loop-further.invariant.from)
    c.loop-further.invariant.seen

pub returns-in_err-with_trial-clause-written : goal.returns-in_err-with_trial-clause-written
returns-in_err-with_trial-clause-written g c = λ told.
    let scenario = c.args.processor.now.scenario in
    let all = c.args.more + 1 in
    let at = c.args.first + c.loop-further.further in
    let trial = trial_after scenario c.args.input at in
    let then = trials_after scenario c.args.input (c.args.first + (c.loop-further.further + 1)) (all - (c.loop-further.further + 1)) in
    let split : trials_after scenario c.args.input at (all - c.loop-further.further) ≡ trial ∷ then =
    next_trial scenario c.args.input c.args.first c.loop-further.further all (omega arith) in
    let comes = g.S.Seen.comes c.args.without.now.machine c.args.without.now.seen in
    let more = g.S.Seen.more c.args.beside.now in
    let from = c.args.trunk.now.from in
    let is : c.in-Ok.tried.came ≡ came comes g.S.Seen.begins more from (tried scenario trial) c.args.steps =
    rw (c.loop-further.invariant.scenario, c.loop-further.invariant.from) at c.in-Ok.ensures.came in
    let cycle : c.in-Ok.tried.cycle ≡ trial.cycle = rw c.loop-further.invariant.scenario at c.in-Ok.ensures.cycle in
    let p = err_from_is_err_and c.from_residual.result c.from_residual.ensures.1 in
    rw p.1
    (so_far_breaks _ _ _ _ _ _ _ (c.loop-further.invariant.written told)
    (next_told (g.S.Seen.joins_by c.args.told) (g.S.Seen.tells c.args.told) c.loop-further.pending _ _ c.in-Ok.tried.cycle _
    (came_with comes g.S.Seen.begins more from scenario c.args.steps trial)
    (first_came comes g.S.Seen.begins more from scenario c.args.steps _ trial then split) cycle is)
    (c.in_err-with_trial.ensures.written told))

pub loop-further-preserved : goal.loop-further-preserved
loop-further-preserved g c =
    let scenario = c.args.processor.now.scenario in
    let all = c.args.more + 1 in
    let at = c.args.first + c.loop-further.further in
    let trial = trial_after scenario c.args.input at in
    let then = trials_after scenario c.args.input (c.args.first + (c.loop-further.further + 1)) (all - (c.loop-further.further + 1)) in
    let split : trials_after scenario c.args.input at (all - c.loop-further.further) ≡ trial ∷ then =
    next_trial scenario c.args.input c.args.first c.loop-further.further all (omega arith) in
    let comes = g.S.Seen.comes c.args.without.now.machine c.args.without.now.seen in
    let more = g.S.Seen.more c.args.beside.now in
    let from = c.args.trunk.now.from in
    let is : c.in-Ok.tried.came ≡ came comes g.S.Seen.begins more from (tried scenario trial) c.args.steps =
    rw (c.loop-further.invariant.scenario, c.loop-further.invariant.from) at c.in-Ok.ensures.came in
    let cycle : c.in-Ok.tried.cycle ≡ trial.cycle = rw c.loop-further.invariant.scenario at c.in-Ok.ensures.cycle in
    record {
      written = λ told.
          so_far_more _ _ _ _ _ _ _ (c.loop-further.invariant.written told)
          (span_told (g.S.Seen.joins_by c.args.told) (g.S.Seen.tells c.args.told) c.loop-further.pending _ _ c.in-Ok.tried.cycle _
          (came_with comes g.S.Seen.begins more from scenario c.args.steps trial) _
          (first_came comes g.S.Seen.begins more from scenario c.args.steps _ trial then split) cycle is
          c.in_ok-with_trial.ensures.span)
          (c.in_ok-with_trial.ensures.written told);
      failures = c.in_ok-with_trial.ensures.failures ∙ c.loop-further.invariant.failures;
      scenario = c.in-Ok.ensures.scenario ∙ c.loop-further.invariant.scenario;
      order = omega (arith, c.in-Ok.ensures.done);
      last = omega (arith, c.in-Ok.ensures.done);
      machine = rw c.in-Ok.ensures.done (rw c.loop-further.invariant.scenario at c.in-Ok.ensures.machine);
      from = c.in-Ok.ensures.from ∙ c.loop-further.invariant.from;
      begun = omega (
        arith,
        c.loop-further.invariant.begun,
        c.loop-further.invariant.order,
        c.in-Ok.ensures.done,
        c.in-Ok.ensures.from,
      );
      seen = rw c.in-Ok.ensures.done
          (rw (c.loop-further.invariant.scenario, c.loop-further.invariant.from) at c.in-Ok.ensures.seen);
      few = few_span (g.S.Seen.joins_by c.args.told) c.loop-further.pending c.in-Ok.tried.cycle _ _ c.loop-further.further
          c.loop-further.invariant.few c.in_ok-with_trial.ensures.span;
      once = omega (arith, c.loop-further.invariant.once, c.in-Ok.ensures.once, c.in-Ok.ensures.done);
      own = own_more c.args.first c.loop-further.further c.args.steps c.in-Ok.tried.made c.loop-further.own
          c.loop-further.invariant.own c.in-Ok.ensures.own;
      small = omega (arith, c.loop-further.invariant.small, c.in-Ok.ensures.own, c.requires.few);
      held = ap (λ (i : Images). i.held) c.in-Ok.ensures.images ∙ c.loop-further.invariant.held;
      most =
          let is = ap (λ (i : Images). i.most) c.in-Ok.ensures.images in
          omega (arith, is, c.loop-further.invariant.most, c.loop-further.invariant.held);
    }

pub returns-in_err-write_open-clause-written : goal.returns-in_err-write_open-clause-written
returns-in_err-write_open-clause-written g c = λ told.
    let p = err_from_is_err_and c.from_residual-in_err-write_open.result c.from_residual-in_err-write_open.ensures.1 in
    let scenario = c.args.processor.now.scenario in
    rw p.1
    (so_far_breaks _ _ _ _ (open_text (g.S.Seen.tells c.args.told) c.loop-further.pending) [] _
    (c.loop-further.invariant.written told)
    (none_left (g.S.Seen.joins_by c.args.told) (g.S.Seen.tells c.args.told) c.loop-further.pending _
    (none_came (g.S.Seen.comes c.args.without.now.machine c.args.without.now.seen) g.S.Seen.begins (g.S.Seen.more c.args.beside.now)
    c.args.trunk.now.from scenario c.args.steps _
    (no_trial scenario c.args.input (c.args.first + c.loop-further.further) ((c.args.more + 1) - c.loop-further.further)
    (omega arith))) ∙ sym (append-nil _))
    (c.in_err-write_open.ensures.written told))

pub returns-clause-written : goal.returns-clause-written
returns-clause-written g c = λ told.
    let scenario = c.args.processor.now.scenario in
    so_far_ends _ _ _ []
    (so_far_more _ _ _ _ (open_text (g.S.Seen.tells c.args.told) c.loop-further.pending) [] _
    (c.loop-further.invariant.written told)
    (none_left (g.S.Seen.joins_by c.args.told) (g.S.Seen.tells c.args.told) c.loop-further.pending _
    (none_came (g.S.Seen.comes c.args.without.now.machine c.args.without.now.seen) g.S.Seen.begins (g.S.Seen.more c.args.beside.now)
    c.args.trunk.now.from scenario c.args.steps _
    (no_trial scenario c.args.input (c.args.first + c.loop-further.further) ((c.args.more + 1) - c.loop-further.further)
    (omega arith))) ∙ sym (append-nil _))
    (c.in_ok-write_open.ensures.written told)) refl
