use Rattle.std.proofs.Common.{◌≡◌, drop}
use Rattle.agc_text.specs.Tables.{value_in}
use Rattle.commands.specs.Usages.{usages_of}
use Rattle.commands.proofs.usage.find_usage.Given as goal

abbrev pub invariant-loop-text : goal.invariant-loop-text
invariant-loop-text l = value_in (usages_of l.rows) l.name ≡ value_in (usages_of (drop l.text-index l.rows)) l.name
