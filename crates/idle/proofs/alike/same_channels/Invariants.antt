use Rattle.std.proofs.Common.{◌≡◌, true}
use Rattle.idle.specs.Alike.{same_channels}
use Rattle.idle.proofs.alike.same_channels.Given as goal

abbrev pub invariant-loop-number : goal.invariant-loop-number
invariant-loop-number l = record {
  all : same_channels l.one.cells l.other.cells l.number ≡ true;
}
