use Rattle.std.proofs.Common.{◌≡◌, drop}
use Rattle.agc_text.specs.Tables.{value_in}
use Rattle.explain.specs.Views.{meanings_in}
use Rattle.explain.proofs.note_kinds.kind_among.Given as goal

abbrev pub invariant-loop-other : goal.invariant-loop-other
invariant-loop-other l = value_in (meanings_in l.table) l.name ≡ value_in (meanings_in (drop l.other-index l.table)) l.name
