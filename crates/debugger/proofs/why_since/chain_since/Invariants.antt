use Rattle.std.proofs.Common.{◌≡◌, ◌≤◌, ◌+◌, ◌-◌, ◌*◌, true}
use Rattle.debugger.specs.Whys.{subject_spots}
use Rattle.debugger.specs.WhysSince.{since_text}
use Rattle.debugger.specs.Conversation.{link_effort}
use Rattle.debugger.specs.ToldSince.{ToldSince}
use Rattle.debugger.proofs.why_since.chain_since.Given as goal

abbrev pub invariant-loop-left : goal.invariant-loop-left
invariant-loop-left g l = record {
  before : l.before ≤ l.session.n;
  left : l.left ≤ l.fn.links;
  scenario : l.session.scenario ≡ l.fn.session.scenario;
  steps : l.session.n ≡ l.fn.session.n;
  cost : l.session.meter + link_effort l.lines * l.left * (l.fn.session.n - (l.since - 1))
      ≤ l.fn.session.meter + link_effort l.lines * l.fn.links * (l.fn.session.n - (l.since - 1));
  failures : g.W.Write.failures l.out ≡ g.W.Write.failures l.fn.out;
  told : g.W.Write.told ≡ true → ToldSince l.symbols l.fn.session.scenario l.lines l.since
      (since_text l.symbols l.fn.session.scenario l.lines l.since l.fn.links l.fn.position (subject_spots l.fn.subject))
      (g.W.Write.written l.fn.out) (g.W.Write.written l.out) l.left l.before l.pending;
}

abbrev pub decreases-loop-left : goal.decreases-loop-left
decreases-loop-left g l = l.left
