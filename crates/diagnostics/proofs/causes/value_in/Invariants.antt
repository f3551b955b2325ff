use Rattle.std.proofs.Common.{◌≡◌, drop}
use Rattle.agc_text.specs.Tables.{value_in}
use Rattle.diagnostics.specs.Views.{entries}
use Rattle.diagnostics.proofs.causes.value_in.Given as goal

abbrev pub invariant-loop-name : goal.invariant-loop-name
invariant-loop-name l = value_in (entries l.table) l.text ≡ value_in (entries (drop l.name-index l.table)) l.text
