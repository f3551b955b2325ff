use Rattle.std.proofs.Common.{arith}
use Rattle.debugger.specs.Surveying.{watch_seen}
use Rattle.debugger.proofs.Surveyed.{seen_more, seen_all}
use Rattle.debugger.proofs.bucket.see_all.Goals as goal

pub loop-index-preserved : goal.loop-index-preserved
loop-index-preserved c =
    seen_more (watch_seen c.args.is_first c.args.machine.now) c.loop-index.index c.args.watches.now c.loop-index.watches
    c.index-watches-index.result _ c.loop-index.invariant c.see.ensures

pub returns : goal.returns
returns c = seen_all (watch_seen c.args.is_first c.args.machine.now) c.loop-index.index c.args.watches.now c.loop-index.watches
    c.loop-index.invariant (omega (arith, c.loop-index-test.false))
