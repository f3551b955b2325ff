use Rattle.std.proofs.Common.{◌∙◌, sym, arith}
use Rattle.std.proofs.lemmas.List.{drop_all}
use Rattle.agc_text.specs.Lines.{lines}
use Rattle.yayul.proofs.Names.{named-no_marks}
use Rattle.yayul.proofs.named.NamedPlaces.of_lines.Goals as goal

pub returns : goal.returns
returns c = sym (named-no_marks c.args.language c.args.symbols.now c.loop-mark.named (lines c.loop-mark.rest.now) _
    (drop_all c.loop-mark.mark-index c.args.marks.now (omega arith))) ∙ c.loop-mark.invariant.named
