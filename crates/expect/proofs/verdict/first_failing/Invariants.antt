use Rattle.std.proofs.Common.{◌≡◌, drop}
use Rattle.expect.specs.Verdicts.{first_failing}
use Rattle.expect.proofs.verdict.first_failing.Given as goal

abbrev pub invariant-loop-watch : goal.invariant-loop-watch
invariant-loop-watch l = first_failing l.test l.watches ≡ first_failing l.test (drop l.watch-index l.watches)
