-- The calls that are in progress, the innermost first.
use Rattle.std.specs.Prelude.{ℕ, ◌+◌, List, [], ◌∷◌, ◌++◌, length, codes, decimal}
use Rattle.space.specs.declared.place.Linear.{Linear}
use Rattle.symbols.specs.Values.{SymbolTable}
use Rattle.yayul.specs.Listing.{place_text}
use Rattle.cpu.specs.State.{Scenario}
use Rattle.debugger.specs.Replies.{line}
use Rattle.debugger.specs.Routines.{routines, routines_inside}
use Rattle.debugger.specs.Standing.{nearest_text, inside_text}
use Rattle.names.specs.NamedLines.{nearest_name}
use Rattle.debugger.specs.declared.routines.Call.{Call}

-- a place as a listing has it, and by a symbol
abbrev pub spot_text : SymbolTable → Linear → List ℕ
spot_text symbols place = place_text place ++ nearest_text (nearest_name symbols place)

-- the line of a call: its step, where it stands, and the routine
abbrev pub call_line : SymbolTable → Call → List ℕ
call_line symbols c = line (codes "CALL " ++ decimal c.step ++ codes " " ++ spot_text symbols c.from ++ codes " TO "
    ++ spot_text symbols c.routine)

-- a line for each of some calls, the last of them first
abbrev pub call_lines : SymbolTable → List Call → List ℕ
call_lines symbols [] = []
call_lines symbols (c ∷ more) = call_lines symbols more ++ call_line symbols c

abbrev pub count_line : Scenario → ℕ → List ℕ
count_line scenario p = line (codes "COUNT " ++ decimal (length (routines_inside scenario p) + length (routines scenario p)))

-- those after p steps: of the interrupt that is served, with its line, and of what it came into; and how many they are
unfoldable pub calls_text : SymbolTable → Scenario → ℕ → List ℕ
calls_text symbols scenario p =
    call_lines symbols (routines_inside scenario p) ++ inside_text symbols scenario p ++ call_lines symbols (routines scenario p)
    ++ count_line scenario p
