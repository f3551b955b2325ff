use Rattle.agc_text.specs.Lines.{lines}
use Rattle.yayul.specs.Layout.{start, layout_after}
use Rattle.yayul.proofs.assembly.assemble.Given as goal

abbrev pub ghost-finish : goal.ghost-finish
ghost-finish a = layout_after 1 (start a.language) (lines a.source.now)
