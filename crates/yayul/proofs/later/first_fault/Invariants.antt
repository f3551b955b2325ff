use Rattle.std.proofs.Common.{◌≡◌, drop, map}
use Rattle.std.specs.List.{fold}
use Rattle.std.specs.Option.{option_or}
use Rattle.yayul.specs.Later.{first_fault, promise_fault}
use Rattle.yayul.specs.Inside.Representation.{promise_of}
use Rattle.yayul.proofs.later.first_fault.Given as goal

abbrev pub invariant-loop-promise : goal.invariant-loop-promise
invariant-loop-promise l =
    fold (λ found p. option_or found (promise_fault l.symbols p)) l.found (map promise_of (drop l.promise-index l.promises))
    ≡ first_fault l.symbols (map promise_of l.promises)
