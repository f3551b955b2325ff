use Rattle.std.proofs.Common.{◌*◌, ◌+◌}
use Rattle.space.proofs.ChangedLemmas.{HandsOver}
use Rattle.space.proofs.store.changed.Given as goal

abbrev pub invariant-loop-number : goal.invariant-loop-number
invariant-loop-number l = HandsOver l.one l.other l.number l.count l.fn.places l.places

abbrev pub invariant-loop-chunk : goal.invariant-loop-chunk
invariant-loop-chunk l = HandsOver l.one l.other (l.chunk * 32) l.count l.fn.places l.places

abbrev pub invariant-loop-lane : goal.invariant-loop-lane
invariant-loop-lane l = HandsOver l.one l.other (l.first + l.lane) l.count l.fn.places l.places
