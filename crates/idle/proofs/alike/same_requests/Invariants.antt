use Rattle.std.proofs.Common.{◌≡◌, true}
use Rattle.idle.specs.Alike.{same_requests}
use Rattle.idle.proofs.alike.same_requests.Given as goal

abbrev pub invariant-loop-before : goal.invariant-loop-before
invariant-loop-before l = record {
  all : same_requests l.one.requests l.other.requests l.before ≡ true;
}
