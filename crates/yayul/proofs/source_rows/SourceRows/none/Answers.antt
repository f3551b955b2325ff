use Rattle.std.proofs.Common.{refl}
use Rattle.agc_text.specs.Lines.{lines}
use Rattle.yayul.proofs.source_rows.SourceRows.none.Goals as goal

pub invariant_of-result : goal.invariant_of-result
unfolding lines
invariant_of-result c = rw (c.new-2.ensures, c.new.ensures.items) refl
