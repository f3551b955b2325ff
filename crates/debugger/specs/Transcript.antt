-- The whole text that a session replies.
use Rattle.std.specs.Prelude.{ℕ, Bool, true, false, List, [], ◌∷◌, ◌++◌, Option, take, if◌then◌else◌}
use Rattle.agc_text.specs.Lines.{lines}
use Rattle.cpu.specs.State.{Scenario}
use Rattle.symbols.specs.Values.{SymbolTable}
use Rattle.commands.specs.Commands.{parsed_line}
use Rattle.commands.specs.declared.command.Command.TheVariants.{Quit}
use Rattle.commands.specs.declared.command.ParsedLine.{ParsedLine}
use Rattle.commands.specs.declared.command.ParsedLine.TheVariants.{Known}
use Rattle.debugger.specs.History.{history}
use Rattle.debugger.specs.Replies.{Desk, Reply, answer}

-- the most bytes of commands that are read
abbrev pub most_command_bytes : ℕ
most_command_bytes = 16777216

-- the end is asked for
abbrev pub ends : ParsedLine → Bool
ends (Known Quit) = true
ends request = false

-- what a line brings, over the reference run of what runs now
unfoldable pub line_reply : SymbolTable → Desk → List ℕ → Reply
line_reply symbols d line = answer (history d.scenario) d (parsed_line symbols line)

-- the replies to lines, up to the end
abbrev pub replies : SymbolTable → Desk → List (List ℕ) → List ℕ
replies symbols d [] = []
replies symbols d (line ∷ more) =
    if ends (parsed_line symbols line) then []
    else (let r = line_reply symbols d line in r.text ++ replies symbols r.desk more)

-- where they lead to
abbrev pub desk_at_end : SymbolTable → Desk → List (List ℕ) → Desk
desk_at_end symbols d [] = d
desk_at_end symbols d (line ∷ more) =
    if ends (parsed_line symbols line) then d
    else desk_at_end symbols (line_reply symbols d line).desk more

-- where a session begins
abbrev pub first_desk : Scenario → List Bool → List (Option ℕ) → Desk
first_desk scenario answers additions =
    record { scenario = scenario; steps = 0; position = 0; breakpoints = []; quiet = false; answers = answers; additions = additions }

-- the lines of the commands: those of the first bytes
unfoldable pub command_lines : List ℕ → List (List ℕ)
command_lines commands = lines (take most_command_bytes commands)

-- the transcript: the replies to the lines of the commands
unfoldable pub transcript : SymbolTable → Desk → List ℕ → List ℕ
transcript symbols d commands = replies symbols d (command_lines commands)

-- the lines that are read: those up to the end
unfoldable pub lines_read : SymbolTable → List (List ℕ) → List (List ℕ)
lines_read symbols [] = []
lines_read symbols (line ∷ more) = line ∷ (if ends (parsed_line symbols line) then [] else lines_read symbols more)
