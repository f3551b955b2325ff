use Rattle.std.proofs.Common.{◌≡◌, ◌++◌, replicate}
use Rattle.agc_text.specs.Bytes.{space}
use Rattle.included.proofs.paths.push_spaces.Given as goal

abbrev pub invariant-loop-i : goal.invariant-loop-i
invariant-loop-i l = l.out.items ≡ l.initial.out.items ++ replicate l.i space
