use Rattle.std.proofs.Common.{refl, append_assoc}
use Rattle.commands.proofs.refusal.push_wrong_form.Goals as goal

pub returns-in-Some-clause-text : goal.returns-in-Some-clause-text
returns-in-Some-clause-text c = rw (c.push-in-Some-2.ensures, c.push-in-Some.ensures, c.push.ensures, ← c.in-Some.ensures.field)
    (simp append_assoc refl)
