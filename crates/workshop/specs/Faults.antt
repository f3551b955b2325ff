-- The faults of an engine, and how they are told.
use Rattle.std.specs.Prelude.{ℕ, ◌==◌, if◌then◌else◌, List, ◌++◌, codes, decimal, Option, None, Some}
use Rattle.yayul.specs.declared.faults.Fault.{Fault}
use Rattle.yayul.specs.Program.{no_memory}
use Rattle.feed.specs.Faults as feed
use Rattle.feed.specs.declared.fault.FeedFault.{FeedFault}
use Rattle.feed.specs.declared.fault.FeedFault.TheVariants as feed_fault
use Rattle.rope.specs.Faults as rope
use Rattle.rope.specs.declared.fault.RopeFault.{RopeFault}
use Rattle.rope.specs.declared.fault.RopeFault.TheVariants as rope_fault
use Rattle.debugger.specs.declared.fault.DebugFault.{DebugFault}
use Rattle.debugger.specs.declared.fault.DebugFault.TheVariants as debug_fault
use Rattle.names.specs.declared.table.TableFault.{TableFault}
use Rattle.names.specs.declared.table.TableFault.TheVariants as table_fault
use Rattle.words.specs.declared.text.ReadFault.{ReadFault}
use Rattle.words.specs.declared.text.ReadFault.TheVariants as read_fault
use Rattle.workshop.specs.declared.fault.WorkshopFault.{WorkshopFault}
use Rattle.workshop.specs.declared.fault.WorkshopFault.TheVariants.{NoMemory, ReadFailed, WriteFailed, Source, Feed, Rope, Table, TooLong}

-- a fault of a text that is read whole, as an engine tells it
abbrev pub of_read_fault : ReadFault → WorkshopFault
of_read_fault read_fault.NoMemory = NoMemory
of_read_fault read_fault.ReadFailed = ReadFailed
of_read_fault read_fault.TooLong = TooLong

-- a fault of a source, as an engine tells it
abbrev pub of_source_fault : Fault → WorkshopFault
of_source_fault fault = if fault.number == no_memory.number then NoMemory else Source fault

-- a fault of a feed, as an engine tells it
abbrev pub of_feed_fault : FeedFault → WorkshopFault
of_feed_fault feed_fault.NoMemory = NoMemory
of_feed_fault feed_fault.ReadFailed = ReadFailed
of_feed_fault feed_fault.TooLong = TooLong
of_feed_fault fault = Feed fault

-- a fault of an image, as an engine tells it
abbrev pub of_rope_fault : RopeFault → WorkshopFault
of_rope_fault rope_fault.NoMemory = NoMemory
of_rope_fault rope_fault.ReadFailed = ReadFailed
of_rope_fault fault = Rope fault

-- a fault of a table of names, as an engine tells it
abbrev pub of_table_fault : TableFault → WorkshopFault
of_table_fault table_fault.NoMemory = NoMemory
of_table_fault (table_fault.Line n) = Table n

-- what ends a session of commands early, as an engine tells it
abbrev pub of_debug_fault : DebugFault → WorkshopFault
of_debug_fault debug_fault.NoMemory = NoMemory
of_debug_fault debug_fault.ReadFailed = ReadFailed
of_debug_fault debug_fault.WriteFailed = WriteFailed

-- the number that a fault is told by
abbrev pub number_of : WorkshopFault → ℕ
number_of NoMemory = 2
number_of ReadFailed = 6
number_of WriteFailed = 7
number_of (Source fault) = fault.number
number_of (Feed fault) = feed.number_of fault
number_of (Rope fault) = rope.number_of fault
number_of (Table line) = 36
number_of TooLong = 34

-- the line of a fault of the source: 0 counts as none
abbrev pub source_line_of : Fault → Option ℕ
source_line_of fault = if fault.line == 0 then None else Some fault.line

-- the line that a fault stands on
abbrev pub line_of : WorkshopFault → Option ℕ
line_of (Source fault) = source_line_of fault
line_of (Feed fault) = feed.line_of fault
line_of (Table line) = Some line
line_of _ = None

-- the line of text that tells a fault
abbrev pub fault_text : WorkshopFault → List ℕ
fault_text fault = codes "agcws: E" ++ decimal (number_of fault) ++ feed.line_text (line_of fault) ++ codes "\n"

-- the exit status of a program whose input is refused
abbrev pub input_refused : ℕ
input_refused = 1

-- the exit status of a program whose device failed, or that had no memory
abbrev pub device_failed : ℕ
device_failed = 3

-- the exit status of a program that a fault of the source ends
abbrev pub source_status : Fault → ℕ
source_status fault = if fault.number == no_memory.number then device_failed else input_refused

-- the exit status of a program that a fault of the feed ends
abbrev pub feed_status : FeedFault → ℕ
feed_status feed_fault.NoMemory = device_failed
feed_status feed_fault.ReadFailed = device_failed
feed_status _ = input_refused

-- the exit status of a program that a fault of an image ends
abbrev pub rope_status : RopeFault → ℕ
rope_status rope_fault.NoMemory = device_failed
rope_status rope_fault.ReadFailed = device_failed
rope_status _ = input_refused

-- the exit status of a program that a fault ends
abbrev pub status_of : WorkshopFault → ℕ
status_of NoMemory = device_failed
status_of ReadFailed = device_failed
status_of WriteFailed = device_failed
status_of (Source fault) = source_status fault
status_of (Feed fault) = feed_status fault
status_of (Rope fault) = rope_status fault
status_of (Table line) = input_refused
status_of TooLong = input_refused
