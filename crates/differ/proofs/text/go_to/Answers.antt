use Rattle.std.proofs.Common.{refl, arith}
use Rattle.differ.proofs.Steps.{run_zero}
use Rattle.differ.proofs.text.go_to.Goals as goal

pub loop-done-init : goal.loop-done-init
loop-done-init c = record {
  scenario = refl;
  meter = omega arith;
  within = omega arith;
  stands = run_zero c.args.processor.now.scenario _ 0 c.requires.starts refl;
}
