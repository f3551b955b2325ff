use Rattle.std.proofs.Common.{◌≡◌, ◌∙◌, true, refl, sym, append_assoc}
use Rattle.commands.specs.Refusals.{is_numbered}
use Rattle.commands.proofs.refusal.push_no_such.Goals as goal

pub returns-then-is_numbered-clause-text : goal.returns-then-is_numbered-clause-text
returns-then-is_numbered-clause-text c =
    let numbered : is_numbered c.args.field.now ≡ true = sym c.is_numbered.ensures ∙ c.if-is_numbered.true in
    rw (c.push-then-is_numbered-2.ensures, c.push-then-is_numbered.ensures, c.push.ensures, numbered) (simp append_assoc refl)
