use Rattle.std.proofs.Common.{arith}
use Rattle.cpu.proofs.Turns.{few_cycles, fits_after}
use Rattle.differ.proofs.text.NamedRun.write_step.Goals as goal

pub trace_step-requires-clause-cycles : goal.trace_step-requires-clause-cycles
trace_step-requires-clause-cycles g c = few_cycles _ _ _ c.go_to.ensures.stands (omega (arith, c.requires.few))

pub trace_step-requires-clause-fits : goal.trace_step-requires-clause-fits
trace_step-requires-clause-fits g c = fits_after _ _ _ _ c.go_to.ensures.scenario c.go_to.ensures.stands
