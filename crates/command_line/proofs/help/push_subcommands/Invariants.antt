use Rattle.std.proofs.Common.{◌≡◌, ◌++◌, drop}
use Rattle.std.specs.String.{string_bytes}
use Rattle.command_line.specs.Help.{subcommand_entries}
use Rattle.command_line.proofs.help.push_subcommands.Given as goal

abbrev pub invariant-loop-it : goal.invariant-loop-it
invariant-loop-it l = string_bytes l.text ++ subcommand_entries l.longest (drop l.it-index l.table)
    ≡ string_bytes l.initial.text ++ subcommand_entries l.longest l.table
