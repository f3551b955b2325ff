use Rattle.std.proofs.Common.{◌∙◌, sym}
use Rattle.whatif.proofs.Stray.{fixed_never_strays}
use Rattle.whatif.proofs.answer.strays.Goals as goal

pub returns-then-is_fixed : goal.returns-then-is_fixed
returns-then-is_fixed c = fixed_never_strays c.args.processor.now.scenario c.args.machine.now (sym c.is_fixed.ensures ∙ c.if-is_fixed.true)
