use Rattle.std.proofs.Common.{◌≡◌, drop}
use Rattle.command_line.specs.Help.{longest_name}
use Rattle.command_line.proofs.help.longest_name.Given as goal

abbrev pub invariant-loop-it : goal.invariant-loop-it
invariant-loop-it l = longest_name l.longest (drop l.it-index l.table) ≡ longest_name 4 l.table
