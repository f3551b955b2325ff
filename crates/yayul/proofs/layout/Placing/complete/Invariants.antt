use Rattle.std.proofs.Common.{ℕ, map, drop}
use Rattle.yayul.specs.Inside.Representation.{request_of}
use Rattle.yayul.specs.Inside.Waiting.{Holds}
use Rattle.yayul.proofs.layout.Placing.complete.Given as goal

abbrev pub invariant-loop-request : goal.invariant-loop-request
invariant-loop-request g l = record {
  holds : (line : ℕ) × Holds line l.symbols g.requests (map request_of (drop l.request-index l.request-items)) l.rope l.fault;
}
