use Rattle.std.proofs.Common.{◌≡◌, drop}
use Rattle.agc_text.specs.Tables.{value_in}
use Rattle.agc_text.specs.Tables.{named}
use Rattle.yayul.proofs.operator.find_row.Given as goal

abbrev pub invariant-loop-text : goal.invariant-loop-text
invariant-loop-text g l = value_in (named l.table) l.name ≡ value_in (named (drop l.text-index l.table)) l.name
