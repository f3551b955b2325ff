use Rattle.std.proofs.Common.{◌≤◌, ◌-◌, ◌∙◌, true, false, ap, arith}
use Rattle.std.proofs.lemmas.Result.{err_from_is_err_and}
use Rattle.cpu.specs.State.{Scenario}
use Rattle.cpu.specs.Chains.{cells_among, before_step}
use Rattle.replay.specs.View.{SessionView}
use Rattle.replay.specs.Whys.{last_writer}
use Rattle.debugger.specs.Conversation.{link_effort}
use Rattle.origins.specs.Following.{CellSet, cells_of}
use Rattle.debugger.specs.Whys.{end_text, link_lines}
use Rattle.debugger.proofs.WhyLines.{told_all, told_short, told_more, told_part, cost_more, cost_told}
use Rattle.debugger.proofs.why.chain.Goals as goal

pub returns-in_default-clause-writes : goal.returns-in_default-clause-writes
returns-in_default-clause-writes g c = λ xs is told.
    let far = c.loop-left.invariant in
    told_short c.args.symbols.now c.args.session.now.scenario c.args.lines _ _ _ c.loop-left.left c.loop-left.before c.loop-left.pending
    (far.told xs is told) _ c.as_slice.result.now _
    (omega (arith, c.loop-left-test.true))
    (λ ys same. c.in_default.ensures.writer ys same ∙ ap (λ (q : Scenario). last_writer q ys c.loop-left.before) far.scenario)
    (λ ys same. c.as_slice.ensures.value ∙ c.end_text.ensures
    ∙ ap (λ (cells : CellSet). end_text c.args.symbols.now false (cells_of cells)) same)
    (c.write_all.ensures.written told)

pub returns-in_err-write_all-clause-writes : goal.returns-in_err-write_all-clause-writes
returns-in_err-write_all-clause-writes g c = λ xs is told.
    let far = c.loop-left.invariant in
    let scene = ap (λ (v : SessionView). v.scenario) c.seek_writer.ensures.after.same ∙ far.scenario in
    let failed = err_from_is_err_and c.from_residual.result c.from_residual.ensures.1 in
    rw failed.1 (told_part c.args.symbols.now c.args.session.now.scenario c.args.lines _ _ _ c.loop-left.left c.loop-left.before
    c.loop-left.pending (far.told xs is told) _ c.as_slice-in-loop-left.result.now c.in-Some.step
    (omega (arith, c.loop-left-test.true))
    (λ ys same. c.in-Some.ensures.writer ys same ∙ ap (λ (q : Scenario). last_writer q ys c.loop-left.before) far.scenario)
    (λ ys same. c.as_slice-in-loop-left.ensures.value ∙ c.link_lines.ensures.lines ys same
    ∙ ap (λ (q : Scenario). link_lines c.args.symbols.now q c.args.lines c.in-Some.step ys) scene)
    (c.in_err-write_all.ensures.written told))

pub returns-in_err-write_all-clause-looked : goal.returns-in_err-write_all-clause-looked
returns-in_err-write_all-clause-looked g c =
    let far = c.loop-left.invariant in
    let sought = c.in-Some.ensures.after in
    let looked = c.link_lines.ensures.looked in
    let steps = ap (λ (v : SessionView). v.n) sought.same ∙ far.steps in
    let within : c.in-Some.step ≤ c.args.session.now.n = omega (arith, sought.found, sought.least, far.steps) in
    record {
      scenario = looked.scenario ∙ ap (λ (v : SessionView). v.scenario) sought.same ∙ far.scenario;
      steps = looked.steps ∙ steps;
      cost = cost_told (link_effort c.args.lines) c.args.session.now.meter _ c.args.session.now.n (c.loop-left.left - 1) c.args.links
          (cost_more c.args.lines c.args.session.now.meter c.loop-left.session.meter c.seek_writer.new.self.meter _ c.args.session.now.n _
          c.in-Some.step c.loop-left.left c.args.links (omega (arith, c.loop-left-test.true)) far.cost
          (omega (arith, sought.found, far.steps)) looked.cost steps within);
    }

pub loop-left-preserved : goal.loop-left-preserved
loop-left-preserved g c =
    let far = c.loop-left.invariant in
    let sought = c.in-Some.ensures.after in
    let looked = c.link_lines.ensures.looked in
    let scene = ap (λ (v : SessionView). v.scenario) sought.same ∙ far.scenario in
    let steps = ap (λ (v : SessionView). v.n) sought.same ∙ far.steps in
    let within : c.in-Some.step ≤ c.args.session.now.n = omega (arith, sought.found, sought.least, far.steps) in
    record {
      before = omega (arith, within, looked.steps, steps);
      left = omega (arith, far.left);
      scenario = looked.scenario ∙ scene;
      steps = looked.steps ∙ steps;
      cost = cost_more c.args.lines c.args.session.now.meter c.loop-left.session.meter c.seek_writer.new.self.meter _ c.args.session.now.n _
          c.in-Some.step c.loop-left.left c.args.links (omega (arith, c.loop-left-test.true)) far.cost
          (omega (arith, sought.found, far.steps)) looked.cost steps within;
      failures = c.in_ok-write_all.ensures.failures ∙ far.failures;
      told = λ xs is told. told_more c.args.symbols.now c.args.session.now.scenario c.args.lines _ _ _ c.loop-left.left c.loop-left.before
          c.loop-left.pending (far.told xs is told) _ c.as_slice-in-loop-left.result.now c.in-Some.step _
          (omega (arith, c.loop-left-test.true))
          (λ ys same. c.in-Some.ensures.writer ys same ∙ ap (λ (q : Scenario). last_writer q ys c.loop-left.before) far.scenario)
          (λ ys same. c.as_slice-in-loop-left.ensures.value ∙ c.link_lines.ensures.lines ys same
          ∙ ap (λ (q : Scenario). link_lines c.args.symbols.now q c.args.lines c.in-Some.step ys) scene)
          (λ ys same. c.link_lines.ensures.pending ys same ∙ ap (λ (q : Scenario). cells_among (before_step q c.in-Some.step ys)) scene)
          (c.in_ok-write_all.ensures.written told);
    }

pub returns-clause-writes : goal.returns-clause-writes
returns-clause-writes g c = λ xs is told.
    let far = c.loop-left.invariant in
    told_all c.args.symbols.now c.args.session.now.scenario c.args.lines _ _ _ c.loop-left.left c.loop-left.before c.loop-left.pending
    (far.told xs is told) _ c.as_slice-2.result.now _
    (omega (arith, c.loop-left-test.false))
    (λ ys same. c.as_slice-2.ensures.value ∙ c.end_text-2.ensures
    ∙ ap (λ (cells : CellSet). end_text c.args.symbols.now true (cells_of cells)) same)
    (c.write_all-2.ensures.written told)
