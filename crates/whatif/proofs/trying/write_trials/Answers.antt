use Rattle.std.proofs.Common.{◌≡◌, ◌∙◌, ◌+◌, drop, refl, ap, arith}
use Rattle.std.proofs.lemmas.List.{drop_all}
use Rattle.std.proofs.lemmas.Result.{err_from_is_err_and}
use Rattle.words.proofs.Texts.{append-nothing, beginning-take}
use Rattle.whatif.specs.declared.images.Images.{Images}
use Rattle.whatif.specs.Looked.{came, came_with}
use Rattle.whatif.specs.Together.{open_text}
use Rattle.whatif.specs.Trials.{tried}
use Rattle.whatif.proofs.Rising.{first_way, next_before, next_way}
use Rattle.whatif.proofs.Steps.{looked_begins}
use Rattle.whatif.proofs.Told.{few_span, first_came, next_told, none_came, none_left, span_told}
use Rattle.words.proofs.Writing.{from_one, so_far_breaks, so_far_last, so_far_more, so_far_start}
use Rattle.whatif.proofs.trying.write_trials.Goals as goal

pub returns-in-Err-clause-written : goal.returns-in-Err-clause-written
returns-in-Err-clause-written g c = λ told. beginning-take _ _ _ 0 (append-nothing _ _ refl)

pub loop-trial-init : goal.loop-trial-init
loop-trial-init g c = record {
  written = λ told. so_far_start _ _;
  failures = refl;
  scenario = refl;
  within = omega (arith, c.in-Ok.ensures.done, c.requires.within);
  from = c.in-Ok.ensures.from;
  begun = omega (arith, c.in-Ok.ensures.done, c.in-Ok.ensures.from, c.requires.from);
  machine = rw c.in-Ok.ensures.done (c.in-Ok.ensures.machine ∙ c.requires.machine);
  seen = rw c.in-Ok.ensures.done (looked_begins g.S.Seen.begins (g.S.Seen.more c.args.beside.now) c.args.processor.now.scenario _ _ _
      (c.in-Ok.ensures.seen ∙ c.requires.begun) c.requires.from);
  way = first_way c.args.processor.now.scenario c.args.start.now.done _ c.args.first c.args.trials.now c.in-Ok.ensures.done
      c.requires.before c.requires.rising;
  few = omega arith;
  once = omega (arith, c.in-Ok.ensures.done);
  held = ap (λ (i : Images). i.held) c.in-Ok.ensures.images ∙ omega (arith, c.requires.room);
}

pub try_one-requires-clause-machine : goal.try_one-requires-clause-machine
try_one-requires-clause-machine g c = rw c.loop-trial.invariant.scenario c.loop-trial.invariant.machine

pub try_one-requires-clause-seen : goal.try_one-requires-clause-seen
try_one-requires-clause-seen g c = rw (c.loop-trial.invariant.scenario, c.loop-trial.invariant.from) c.loop-trial.invariant.seen

pub try_one-requires-clause-before : goal.try_one-requires-clause-before
try_one-requires-clause-before g c =
    let then = drop (c.loop-trial.trial-index + 1) c.args.trials.now in
    let split = from_one c.args.trials.now c.loop-trial.trial-index c.trial-item.result (omega arith) c.trial-item.is in
    rw c.loop-trial.invariant.scenario (next_before c.args.processor.now.scenario c.loop-trial.trunk.done _ c.trial-item.result then split
    c.loop-trial.invariant.way)

pub returns-in_err-with_trial-clause-written : goal.returns-in_err-with_trial-clause-written
returns-in_err-with_trial-clause-written g c = λ told.
    let then = drop (c.loop-trial.trial-index + 1) c.args.trials.now in
    let split = from_one c.args.trials.now c.loop-trial.trial-index c.trial-item.result (omega arith) c.trial-item.is in
    let comes = g.S.Seen.comes c.args.without.now.machine c.args.without.now.seen in
    let more = g.S.Seen.more c.args.beside.now in
    let scenario = c.args.processor.now.scenario in
    let from = c.args.start.now.from in
    let is : c.in-Ok-try_one.came ≡ came comes g.S.Seen.begins more from (tried scenario c.trial-item.result) c.args.steps =
    rw (c.loop-trial.invariant.scenario, c.loop-trial.invariant.from) at c.in-Ok-try_one.ensures.came in
    let p = err_from_is_err_and c.from_residual.result c.from_residual.ensures.1 in
    rw p.1
    (so_far_breaks _ _ _ _ _ _ _ (c.loop-trial.invariant.written told)
    (next_told (g.S.Seen.joins_by c.args.told) (g.S.Seen.tells c.args.told) c.loop-trial.pending _ _ c.trial-item.result.cycle _
    (came_with comes g.S.Seen.begins more from scenario c.args.steps c.trial-item.result)
    (first_came comes g.S.Seen.begins more from scenario c.args.steps _ c.trial-item.result then split) refl is)
    (c.in_err-with_trial.ensures.written told))

pub loop-trial-preserved : goal.loop-trial-preserved
loop-trial-preserved g c =
    let then = drop (c.loop-trial.trial-index + 1) c.args.trials.now in
    let split = from_one c.args.trials.now c.loop-trial.trial-index c.trial-item.result (omega arith) c.trial-item.is in
    let comes = g.S.Seen.comes c.args.without.now.machine c.args.without.now.seen in
    let more = g.S.Seen.more c.args.beside.now in
    let scenario = c.args.processor.now.scenario in
    let from = c.args.start.now.from in
    let is : c.in-Ok-try_one.came ≡ came comes g.S.Seen.begins more from (tried scenario c.trial-item.result) c.args.steps =
    rw (c.loop-trial.invariant.scenario, c.loop-trial.invariant.from) at c.in-Ok-try_one.ensures.came in
    record {
      written = λ told.
          so_far_more _ _ _ _ _ _ _ (c.loop-trial.invariant.written told)
          (span_told (g.S.Seen.joins_by c.args.told) (g.S.Seen.tells c.args.told) c.loop-trial.pending _ _ c.trial-item.result.cycle _
          (came_with comes g.S.Seen.begins more from scenario c.args.steps c.trial-item.result) _
          (first_came comes g.S.Seen.begins more from scenario c.args.steps _ c.trial-item.result then split) refl is
          c.in_ok-with_trial.ensures.span)
          (c.in_ok-with_trial.ensures.written told);
      failures = c.in_ok-with_trial.ensures.failures ∙ c.loop-trial.invariant.failures;
      scenario = c.in-Ok-try_one.ensures.scenario ∙ c.loop-trial.invariant.scenario;
      within = c.in-Ok-try_one.ensures.within;
      from = c.in-Ok-try_one.ensures.from ∙ c.loop-trial.invariant.from;
      begun = omega (arith, c.loop-trial.invariant.begun, c.in-Ok-try_one.ensures.begun, c.in-Ok-try_one.ensures.from);
      machine = rw c.loop-trial.invariant.scenario at c.in-Ok-try_one.ensures.trunk;
      seen = rw (c.loop-trial.invariant.scenario, c.loop-trial.invariant.from) at c.in-Ok-try_one.ensures.seen;
      way = next_way c.args.processor.now.scenario c.loop-trial.trunk.done _ _ c.trial-item.result then split c.loop-trial.invariant.way
          (rw c.loop-trial.invariant.scenario at c.in-Ok-try_one.ensures.before);
      few = few_span (g.S.Seen.joins_by c.args.told) c.loop-trial.pending c.trial-item.result.cycle _ _ c.loop-trial.trial-index
          c.loop-trial.invariant.few c.in_ok-with_trial.ensures.span;
      once = omega (arith, c.loop-trial.invariant.once, c.in-Ok-try_one.ensures.once);
      held = ap (λ (i : Images). i.held) c.in-Ok-try_one.ensures.images ∙ c.loop-trial.invariant.held;
    }

pub returns-clause-written : goal.returns-clause-written
returns-clause-written g c = λ told.
    so_far_last _ _ _ _ (open_text (g.S.Seen.tells c.args.told) c.loop-trial.pending) _ _ (c.loop-trial.invariant.written told)
    (none_left (g.S.Seen.joins_by c.args.told) (g.S.Seen.tells c.args.told) c.loop-trial.pending _
    (none_came (g.S.Seen.comes c.args.without.now.machine c.args.without.now.seen) g.S.Seen.begins (g.S.Seen.more c.args.beside.now)
    c.args.start.now.from c.args.processor.now.scenario c.args.steps _
    (drop_all c.loop-trial.trial-index c.args.trials.now (omega arith))))
    (c.write_open.ensures.written told)
