use Rattle.std.proofs.Common.{◌≡◌, drop}
use Rattle.agc_text.specs.Tables.{value_in}
use Rattle.diagnostics.specs.Views.{mends_in}
use Rattle.diagnostics.proofs.mending.mend_among.Given as goal

abbrev pub invariant-loop-name : goal.invariant-loop-name
invariant-loop-name l = value_in (mends_in l.table) l.text ≡ value_in (mends_in (drop l.name-index l.table)) l.text
