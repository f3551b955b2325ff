use Rattle.std.proofs.Common.{◌≡◌, drop, true}
use Rattle.debugger.specs.LeftToWrite.{LeftToWrite}
use Rattle.debugger.specs.OriginsTold.{origin_lines}
use Rattle.debugger.proofs.origins_told.write_origins.Given as goal

abbrev pub invariant-loop-line : goal.invariant-loop-line
invariant-loop-line g l = record {
  failures : g.W.Write.failures l.out ≡ g.W.Write.failures l.fn.out;
  written : g.W.Write.told ≡ true → LeftToWrite (origin_lines l.symbols l.processor.scenario.rope l.kind l.lines)
      (g.W.Write.written l.fn.out) (g.W.Write.written l.out)
      (origin_lines l.symbols l.processor.scenario.rope l.kind (drop l.line-index l.lines));
}
