use Rattle.std.proofs.Common.{◌≡◌, ◌∙◌, ◌+◌, ◌-◌, suc, drop, ap, sym, arith}
use Rattle.agc_text.specs.Lines.{lines}
use Rattle.diagnostics.proofs.lines.text_beyond.Goals as goal

pub loop-preserved : goal.loop-preserved
loop-preserved c =
    let left = c.args.count - (c.loop.counter + 1) in
    let more : c.args.count - c.loop.counter ≡ suc left = omega arith in
    sym (ap (λ n. drop n (lines c.loop.rest.now)) more ∙ ap (drop (suc left)) c.in-Some.ensures.lines) ∙ c.loop.invariant
