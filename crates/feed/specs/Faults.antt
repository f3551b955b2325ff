-- The faults of a feed.
use Rattle.std.specs.Prelude.{ℕ, List, [], ◌++◌, codes, decimal, Option, None, Some}
use Rattle.feed.specs.declared.fault.FeedFault.{FeedFault}
use Rattle.feed.specs.declared.fault.FeedFault.TheVariants.{NoMemory, ReadFailed, BadLine, OutOfOrder, TooMany, WrongCounter, TooLong}
use Rattle.feed.specs.declared.fault.FeedFault.TheVariants.{TooManySeries}
use Rattle.feed.specs.declared.fault.LineFault.{LineFault}
use Rattle.feed.specs.declared.fault.LineFault.TheVariants as line_fault

-- the number that a fault is told by
abbrev pub number_of : FeedFault → ℕ
number_of NoMemory = 2
number_of ReadFailed = 6
number_of (BadLine line) = 30
number_of (OutOfOrder line) = 31
number_of TooMany = 32
number_of (WrongCounter line) = 33
number_of TooLong = 34
number_of (TooManySeries line) = 35

-- the line that it is told with
abbrev pub line_of : FeedFault → Option ℕ
line_of NoMemory = None
line_of ReadFailed = None
line_of (BadLine line) = Some line
line_of (OutOfOrder line) = Some line
line_of TooMany = None
line_of (WrongCounter line) = Some line
line_of TooLong = None
line_of (TooManySeries line) = Some line

-- the text of a fault: its number, and its line where it is told with one
abbrev pub line_text : Option ℕ → List ℕ
line_text None = []
line_text (Some line) = codes " LINE " ++ decimal line

abbrev pub fault_text : FeedFault → List ℕ
fault_text fault = codes "E" ++ decimal (number_of fault) ++ line_text (line_of fault)

-- the number that a fault of a line by itself is told by
abbrev pub number_of_line : LineFault → ℕ
number_of_line line_fault.BadLine = 30
number_of_line line_fault.WrongCounter = 33
