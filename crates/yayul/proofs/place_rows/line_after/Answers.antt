use Rattle.std.proofs.Common.{◌∙◌, sym, ap, drop}
use Rattle.std.proofs.lemmas.List.{drop-drop}
use Rattle.agc_text.specs.Lines.{lines}
use Rattle.yayul.proofs.place_rows.line_after.Goals as goal

pub loop-passed-preserved : goal.loop-passed-preserved
loop-passed-preserved c = ap (drop 1) (sym c.in-Some.ensures.lines ∙ c.loop-passed.invariant)
    ∙ drop-drop 1 c.loop-passed.passed (lines c.args.source.now)
