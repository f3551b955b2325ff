use Rattle.std.proofs.Common.{◌-◌, ◌∙◌, true, ap, arith}
use Rattle.std.proofs.lemmas.Result.{err_from_is_err_and}
use Rattle.cpu.specs.State.{Scenario}
use Rattle.cpu.specs.Chains.{cells_among, before_step}
use Rattle.replay.specs.Whys.{last_writer}
use Rattle.debugger.specs.Conversation.{link_effort}
use Rattle.origins.specs.Following.{CellSet, cells_of}
use Rattle.debugger.specs.Whys.{end_text}
use Rattle.debugger.specs.WhysSince.{since_step, lines_since, end_since}
use Rattle.debugger.proofs.SinceLines.{told_all, told_short, told_more, told_part, cost_since, cost_left, cost_ended}
use Rattle.debugger.proofs.why_since.chain_since.Goals as goal

pub returns-in_default-clause-writes : goal.returns-in_default-clause-writes
returns-in_default-clause-writes g c = λ told.
    let far = c.loop-left.invariant in
    told_short c.args.symbols.now c.args.session.now.scenario c.args.lines c.args.since _ _ _ c.loop-left.left c.loop-left.before
    c.loop-left.pending (far.told told) _ c.as_slice.result.now _
    (omega (arith, c.loop-left-test.true))
    (λ xs is. c.in_default.ensures.writer xs is ∙ ap (λ (q : Scenario). since_step c.args.since (last_writer q xs c.loop-left.before))
    far.scenario)
    (λ xs is. c.as_slice.ensures.value ∙ c.end_since.ensures
    ∙ ap (λ (cells : CellSet). end_since c.args.symbols.now c.args.since (cells_of cells)) is)
    (c.write_all.ensures.written told)

pub returns-in_default-clause-looked : goal.returns-in_default-clause-looked
returns-in_default-clause-looked g c =
    let far = c.loop-left.invariant in
    let sought = c.in_default.ensures.looked in
    let span = c.args.session.now.n - (c.args.since - 1) in
    let same = ap (λ n. n - (c.args.since - 1)) far.steps in
    record {
      scenario = sought.scenario ∙ far.scenario;
      steps = sought.steps ∙ far.steps;
      cost = cost_ended (link_effort c.args.lines) c.args.session.now.meter c.loop-left.session.meter _ span c.loop-left.left c.args.links
          far.cost (omega (arith, sought.cost, same));
    }

pub returns-in_err-write_all-clause-writes : goal.returns-in_err-write_all-clause-writes
returns-in_err-write_all-clause-writes g c = λ told.
    let far = c.loop-left.invariant in
    let scene = c.in-Some.ensures.looked.scenario ∙ far.scenario in
    let failed = err_from_is_err_and c.from_residual.result c.from_residual.ensures.1 in
    rw failed.1 (told_part c.args.symbols.now c.args.session.now.scenario c.args.lines c.args.since _ _ _ c.loop-left.left
    c.loop-left.before c.loop-left.pending (far.told told) _ c.as_slice-in-loop-left.result.now c.in-Some.step
    (omega (arith, c.loop-left-test.true))
    (λ xs is. c.in-Some.ensures.writer xs is ∙ ap (λ (q : Scenario). since_step c.args.since (last_writer q xs c.loop-left.before))
    far.scenario)
    (λ xs is. c.as_slice-in-loop-left.ensures.value ∙ c.lines_since.ensures.lines xs is
    ∙ ap (λ (q : Scenario). lines_since c.args.symbols.now q c.args.lines c.args.since c.in-Some.step xs) scene)
    (c.in_err-write_all.ensures.written told))

cost_now : goal.returns-in_err-write_all-clause-looked
cost_now g c =
    let far = c.loop-left.invariant in
    let sought = c.in-Some.ensures.looked in
    let looked = c.lines_since.ensures.looked in
    let span = c.args.session.now.n - (c.args.since - 1) in
    let same = ap (λ n. n - (c.args.since - 1)) far.steps in
    let same' = ap (λ n. n - (c.args.since - 1)) (sought.steps ∙ far.steps) in
    record {
      scenario = looked.scenario ∙ sought.scenario ∙ far.scenario;
      steps = looked.steps ∙ sought.steps ∙ far.steps;
      cost = cost_left (link_effort c.args.lines) c.args.session.now.meter _ span (c.loop-left.left - 1) c.args.links
          (cost_since c.args.lines c.args.session.now.meter c.loop-left.session.meter _ _ span c.loop-left.left c.args.links
          (omega (arith, c.loop-left-test.true)) far.cost (omega (arith, sought.cost, same)) (rw same' at looked.cost));
    }

pub returns-in_err-write_all-clause-looked : goal.returns-in_err-write_all-clause-looked
returns-in_err-write_all-clause-looked g c = cost_now g c

pub loop-left-preserved : goal.loop-left-preserved
loop-left-preserved g c =
    let far = c.loop-left.invariant in
    let sought = c.in-Some.ensures.looked in
    let looked = c.lines_since.ensures.looked in
    let scene = sought.scenario ∙ far.scenario in
    let steps = sought.steps ∙ far.steps in
    let span = c.args.session.now.n - (c.args.since - 1) in
    let same = ap (λ n. n - (c.args.since - 1)) far.steps in
    let same' = ap (λ n. n - (c.args.since - 1)) steps in
    record {
      before = omega (arith, c.in-Some.ensures.between, far.before, far.steps, looked.steps, steps);
      left = omega (arith, far.left);
      scenario = looked.scenario ∙ scene;
      steps = looked.steps ∙ steps;
      cost = cost_since c.args.lines c.args.session.now.meter c.loop-left.session.meter _ _ span c.loop-left.left c.args.links
          (omega (arith, c.loop-left-test.true)) far.cost (omega (arith, sought.cost, same)) (rw same' at looked.cost);
      failures = c.in_ok-write_all.ensures.failures ∙ far.failures;
      told = λ told. told_more c.args.symbols.now c.args.session.now.scenario c.args.lines c.args.since _ _ _ c.loop-left.left
          c.loop-left.before c.loop-left.pending (far.told told) _ c.as_slice-in-loop-left.result.now c.in-Some.step _
          (omega (arith, c.loop-left-test.true))
          (λ xs is. c.in-Some.ensures.writer xs is ∙ ap (λ (q : Scenario). since_step c.args.since (last_writer q xs c.loop-left.before))
          far.scenario)
          (λ xs is. c.as_slice-in-loop-left.ensures.value ∙ c.lines_since.ensures.lines xs is
          ∙ ap (λ (q : Scenario). lines_since c.args.symbols.now q c.args.lines c.args.since c.in-Some.step xs) scene)
          (λ xs is. c.lines_since.ensures.pending xs is ∙ ap (λ (q : Scenario). cells_among (before_step q c.in-Some.step xs)) scene)
          (c.in_ok-write_all.ensures.written told);
    }

pub returns-clause-writes : goal.returns-clause-writes
returns-clause-writes g c = λ told.
    let far = c.loop-left.invariant in
    told_all c.args.symbols.now c.args.session.now.scenario c.args.lines c.args.since _ _ _ c.loop-left.left c.loop-left.before
    c.loop-left.pending (far.told told) _ c.as_slice-2.result.now _
    (omega (arith, c.loop-left-test.false))
    (λ xs is. c.as_slice-2.ensures.value ∙ c.end_text.ensures
    ∙ ap (λ (cells : CellSet). end_text c.args.symbols.now true (cells_of cells)) is)
    (c.write_all-2.ensures.written told)
