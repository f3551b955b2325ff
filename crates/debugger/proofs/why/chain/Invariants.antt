use Rattle.std.proofs.Common.{◌≡◌, ◌≤◌, ◌+◌, ◌*◌, true, List}
use Rattle.cpu.specs.Chains.{cells_among}
use Rattle.cpu.specs.declared.spot.Spot.{Spot}
use Rattle.debugger.specs.Whys.{why_text}
use Rattle.debugger.specs.Conversation.{link_effort}
use Rattle.debugger.specs.ToldLinks.{ToldLinks}
use Rattle.debugger.proofs.why.chain.Given as goal

abbrev pub invariant-loop-left : goal.invariant-loop-left
invariant-loop-left g l = record {
  before : l.before ≤ l.session.n;
  left : l.left ≤ l.fn.links;
  scenario : l.session.scenario ≡ l.fn.session.scenario;
  steps : l.session.n ≡ l.fn.session.n;
  cost : l.session.meter + link_effort l.lines * l.left * l.fn.session.n
      ≤ l.fn.session.meter + link_effort l.lines * l.fn.links * l.fn.session.n;
  failures : g.W.Write.failures l.out ≡ g.W.Write.failures l.fn.out;
  told : (xs : List Spot) → l.fn.pending ≡ cells_among xs → g.W.Write.told ≡ true → ToldLinks l.symbols l.fn.session.scenario l.lines
      (why_text l.symbols l.fn.session.scenario l.lines l.fn.links l.fn.position xs)
      (g.W.Write.written l.fn.out) (g.W.Write.written l.out) l.left l.before l.pending;
}

abbrev pub decreases-loop-left : goal.decreases-loop-left
decreases-loop-left g l = l.left
