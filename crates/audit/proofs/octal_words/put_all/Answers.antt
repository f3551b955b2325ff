use Rattle.std.proofs.Common.{◌∙◌}
use Rattle.audit.proofs.OctalSteps.{puts_refused}
use Rattle.audit.proofs.octal_words.put_all.Goals as goal

pub returns-in_default-put : goal.returns-in_default-put
returns-in_default-put c = c.loop-field.invariant ∙ puts_refused _ _ _ _ c.in-Some.ensures c.in_default-put.ensures
