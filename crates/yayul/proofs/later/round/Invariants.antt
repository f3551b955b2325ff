use Rattle.std.proofs.Common.{◌≡◌, drop, map}
use Rattle.yayul.specs.Later.{round}
use Rattle.yayul.specs.Inside.Representation.{promise_of}
use Rattle.yayul.proofs.later.round.Given as goal

abbrev pub invariant-loop-promise : goal.invariant-loop-promise
invariant-loop-promise l = round (map promise_of (drop l.promise-index l.promises)) l.symbols
    ≡ round (map promise_of l.promises) l.initial.symbols
