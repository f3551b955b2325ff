-- How a fault is told.
use Rattle.std.specs.Prelude.{ℕ, ◌==◌, List, [], ◌++◌, codes, decimal, if◌then◌else◌}
use Rattle.yayul.specs.Language.{Fault}

-- the text of a fault: its number, and its line where it stands on one
abbrev pub fault_text : Fault → List ℕ
fault_text fault = codes "E" ++ decimal fault.number ++ (if fault.line == 0 then [] else codes " LINE " ++ decimal fault.line)
