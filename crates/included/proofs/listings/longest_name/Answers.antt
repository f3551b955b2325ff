use Rattle.included.proofs.Turns.{longest_more}
use Rattle.included.proofs.listings.longest_name.Goals as goal

pub loop-place-preserved : goal.loop-place-preserved
loop-place-preserved c =
    longest_more c.args.joined.now c.loop-place.longest c.longer-longest.result c.loop-place.place-index _
    c.places-place-items.result.now c.in_ok-name.name.items _ c.loop-place-test.true c.places-place-items.ensures c.in_ok-name.ensures
    c.longer-longest.ensures c.loop-place.invariant
