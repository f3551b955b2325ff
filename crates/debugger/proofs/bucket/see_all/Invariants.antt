use Rattle.std.proofs.Common.{◌≡◌}
use Rattle.debugger.specs.Surveying.{seen_up_to, watch_seen}
use Rattle.debugger.proofs.bucket.see_all.Given as goal

abbrev pub invariant-loop-index : goal.invariant-loop-index
invariant-loop-index l = l.watches ≡ seen_up_to (watch_seen l.is_first l.machine) l.index l.fn.watches
