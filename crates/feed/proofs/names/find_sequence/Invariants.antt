use Rattle.std.proofs.Common.{◌≡◌, drop}
use Rattle.agc_text.specs.Tables.{value_in, named}
use Rattle.feed.proofs.names.find_sequence.Given as goal

abbrev pub invariant-loop-text : goal.invariant-loop-text
invariant-loop-text l = value_in (named l.table) l.name ≡ value_in (named (drop l.text-index l.table)) l.name
