use Rattle.std.proofs.Common.{◌≡◌, ◌+◌, ◌-◌, ◌∙◌, ℕ, arith, refl, rules, subst, sym}
use Rattle.cpu.specs.Bursts.{IsQuiet}
use Rattle.cpu.proofs.SilentLaws.{out_next, silent_more, silent_none, state_next}
use Rattle.cover.proofs.recorder.record_quiet_steps.Goals as goal

pub loop-at-init : goal.loop-at-init
loop-at-init g c = record {
  low = omega arith;
  high = c.requires.within;
  quiet = c.requires.quiet;
  state = c.requires.state;
  silent = silent_none c.args.processor.now.scenario c.args.done;
  kept = refl;
  stands = c.requires.stands;
}

pub record_plain-requires-clause-stands : goal.record_plain-requires-clause-stands
record_plain-requires-clause-stands g c = rw c.loop-at.invariant.kept c.loop-at.invariant.stands

pub loop-at-preserved : goal.loop-at-preserved
loop-at-preserved g c =
    let p = c.args.processor.now.scenario in
    let before = c.loop-at.invariant in
    let less : (c.args.end - c.loop-at.at) - 1 ≡ c.args.end - (c.loop-at.at + 1) = omega arith in
    let made = c.record_plain.ensures.made (search rules) in
    record {
      low = omega (arith, before.low);
      high = omega (arith, c.loop-at-test.true);
      quiet = subst (λ (n : ℕ). IsQuiet p c.record_plain.new.machine n) less (c.record_plain.ensures.quiet (search rules));
      state = state_next p c.loop-at.at _ _ _ before.state made;
      silent = silent_more p c.args.done c.loop-at.at before.silent (sym (out_next p c.loop-at.at _ _ _ before.state made));
      kept = c.record_plain.ensures.kept (search rules) ∙ before.kept;
      stands = rw before.kept at (c.record_plain.ensures.stands (search rules));
    }
