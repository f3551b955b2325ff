use Rattle.std.proofs.Common.{◌≡◌, ◌≤◌, ◌-◌, ◌^◌, true}
use Rattle.differ.specs.DifferText.{named, why_text}
use Rattle.differ.specs.WhyTold.{WhyTold}
use Rattle.differ.proofs.why.write_why.Given as goal

abbrev pub invariant-loop-left : goal.invariant-loop-left
invariant-loop-left g l = record {
  few : l.at.here ≤ 2 ^ 40 - 2;
  other_few : l.at.there ≤ 2 ^ 40 - 2;
  names : l.one.names ≡ l.fn.one.names;
  other_names : l.other.names ≡ l.fn.other.names;
  scenario : l.one.processor.scenario ≡ l.fn.one.processor.scenario;
  other_scenario : l.other.processor.scenario ≡ l.fn.other.processor.scenario;
  failures : g.W.Write.failures l.out ≡ g.W.Write.failures l.fn.out;
  told : g.W.Write.told ≡ true → WhyTold (named l.fn.one) (named l.fn.other)
      (why_text (named l.fn.one) (named l.fn.other) l.links l.fn.start)
      (g.W.Write.written l.fn.out) (g.W.Write.written l.out) l.left l.at;
}

abbrev pub decreases-loop-left : goal.decreases-loop-left
decreases-loop-left g l = l.left
