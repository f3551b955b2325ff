-- Commands that look at the position alone.
use Rattle.std.specs.Prelude.{Bool, true, false}
use Rattle.commands.specs.declared.command.ParsedLine.{ParsedLine}
use Rattle.commands.specs.declared.command.ParsedLine.TheVariants.{Known}
use Rattle.commands.specs.declared.command.Command.{Command}
use Rattle.commands.specs.declared.command.Command.TheVariants.{Registers, Memory, Channel}
use Rattle.commands.specs.declared.extended.ExtendedLine.{ExtendedLine}
use Rattle.commands.specs.declared.extended.ExtendedLine.TheVariants.{Plain, Common, AllRegisters, Words, Listed, Values, Channels}

-- the state after the steps up to the position is all that the reply is made of
abbrev pub command_looks : Command → Bool
command_looks Registers = true
command_looks (Memory place) = true
command_looks (Channel channel) = true
command_looks command = false

abbrev pub request_looks : ParsedLine → Bool
request_looks (Known command) = command_looks command
request_looks request = false

abbrev pub looks : ExtendedLine → Bool
looks (Plain request) = request_looks request
looks (Common command) = command_looks command
looks AllRegisters = true
looks (Words place k) = true
looks (Listed place k) = true
looks (Values place k) = true
looks Channels = true
looks request = false
