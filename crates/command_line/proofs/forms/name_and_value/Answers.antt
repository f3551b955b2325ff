use Rattle.std.proofs.Common.{arith, lit<}
use Rattle.std.proofs.lemmas.Grind.{common_steps}
use Rattle.command_line.proofs.forms.name_and_value.Goals as goal

pub returns-in-Some : goal.returns-in-Some
returns-in-Some c =
    let parts = c.in-Some.ensures.byte (lit< tt) (λ w o f. f) in
    grind (arith, common_steps, parts)

pub returns-in-None : goal.returns-in-None
returns-in-None c =
    let lacks = c.in-None.ensures.byte (lit< tt) (λ w o f. f) in
    grind (arith, common_steps, lacks)
