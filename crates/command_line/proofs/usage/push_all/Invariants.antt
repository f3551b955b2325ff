use Rattle.std.proofs.Common.{◌≡◌, ◌++◌, drop}
use Rattle.std.specs.String.{string_bytes}
use Rattle.command_line.specs.Help.{all_texts}
use Rattle.command_line.proofs.usage.push_all.Given as goal

abbrev pub invariant-loop-part : goal.invariant-loop-part
invariant-loop-part l = string_bytes l.text ++ all_texts (drop l.part-index l.parts) ≡ string_bytes l.initial.text ++ all_texts l.parts
