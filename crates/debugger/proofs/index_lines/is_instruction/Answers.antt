use Rattle.std.proofs.Common.{ap, ◌∙◌}
use Rattle.debugger.proofs.Indexing.{is_told, executes_instruction}
use Rattle.debugger.proofs.index_lines.is_instruction.Goals as goal

pub returns-in-Takes : goal.returns-in-Takes
returns-in-Takes c = λ fits. ap is_told (c.in-Takes.ensures fits) ∙ executes_instruction c.args.processor.now.scenario c.args.machine.now

pub returns-in-Enters : goal.returns-in-Enters
returns-in-Enters c = λ fits. ap is_told (c.in-Enters.ensures fits) ∙ executes_instruction c.args.processor.now.scenario c.args.machine.now

pub returns-in-Executes : goal.returns-in-Executes
returns-in-Executes c = λ fits. ap is_told (c.in-Executes.ensures fits)
    ∙ executes_instruction c.args.processor.now.scenario c.args.machine.now
