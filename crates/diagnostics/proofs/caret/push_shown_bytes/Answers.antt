use Rattle.std.proofs.Common.{◌∙◌, ◌∷◌, [], ◌++◌, ap, arith}
use Rattle.diagnostics.specs.Shown.{shown_byte}
use Rattle.diagnostics.proofs.GrowingTexts.{grown}
use Rattle.diagnostics.proofs.caret.push_shown_bytes.Goals as goal

pub loop-byte-preserved : goal.loop-byte-preserved
loop-byte-preserved c =
    c.in_ok-push.ensures.items ∙ ap (λ b. c.loop-byte.out.items ++ b ∷ []) c.shown_byte.ensures
    ∙ grown shown_byte 0 c.args.text.now c.loop-byte.byte-index c.args.out.now.items c.loop-byte.out.items (omega arith)
    c.loop-byte.invariant
