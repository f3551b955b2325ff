use Rattle.std.proofs.Common.{◌≡◌, replicate}
use Rattle.access.specs.Repeats.{no_kept}
use Rattle.access.proofs.tally.nothing_kept.Given as goal

abbrev pub invariant-loop : goal.invariant-loop
invariant-loop l = record {
  items : l.kept.items ≡ replicate l.counter no_kept;
}
