-- What an engine makes of a source and of a feed.
use Rattle.std.specs.Prelude.{ℕ, nat_lt, if◌then◌else◌, List, length, Result, Ok, Err}
use Rattle.symbols.specs.Values.{SymbolTable}
use Rattle.yayul.specs.PlaceRows.{no_source}
use Rattle.yayul.specs.Program.{Program, Source, program}
use Rattle.yayul.specs.declared.language.Language.{Language}
use Rattle.yayul.specs.declared.language.Language.TheVariants.{Standard}
use Rattle.yayul.specs.declared.faults.Fault.{Fault}
use Rattle.feed.specs.Feed.{inputs, most_bytes}
use Rattle.feed.specs.declared.fault.FeedFault.{FeedFault}
use Rattle.feed.specs.declared.entry.Entry.{Entry}
use Rattle.names.specs.Tables.{table_of}
use Rattle.rope.specs.Places.{Words}
use Rattle.rope.specs.declared.fault.RopeFault.{RopeFault}
use Rattle.cpu.specs.State.{Scenario}
use Rattle.workshop.specs.declared.fault.WorkshopFault.{WorkshopFault}
use Rattle.workshop.specs.declared.fault.WorkshopFault.TheVariants as fault
use Rattle.workshop.specs.Faults.{of_feed_fault, of_rope_fault}
use Rattle.workshop.specs.declared.inputs.Loaded.{Loaded}

-- a program, or a fault of the source
abbrev pub of_source : Result Program Fault → Result Program WorkshopFault
of_source (Ok p) = Ok p
of_source (Err f) = Err (fault.Source f)

-- the program of a source, which may have as many bytes as a feed, or its fault
abbrev pub assembled : Language → List ℕ → Result Program WorkshopFault
assembled language source = if nat_lt most_bytes (length source) then Err fault.TooLong else of_source (program language source)

-- inputs, or a fault of the feed
abbrev pub of_feed : Result (List Entry) FeedFault → Result (List Entry) WorkshopFault
of_feed (Ok is) = Ok is
of_feed (Err fault) = Err (of_feed_fault fault)

-- names, or the line of the table that is refused
abbrev pub of_table : Result SymbolTable ℕ → Result SymbolTable WorkshopFault
of_table (Ok names) = Ok names
of_table (Err line) = Err (fault.Table line)

-- the names of a table, which may have as many bytes as a feed, or its fault
abbrev pub named_by : List ℕ → Result SymbolTable WorkshopFault
named_by table = if nat_lt most_bytes (length table) then Err fault.TooLong else of_table (table_of table)

-- a program as it runs: its words in their places, its symbols, and its source
abbrev pub Code : Type 0
Code = Words × SymbolTable × Source

-- what a source gives
abbrev pub code_of : Result Program WorkshopFault → Result Code WorkshopFault
code_of (Ok p) = Ok (p.rope, p.symbols, p.source)
code_of (Err fault) = Err fault

-- what an image gives: its words, with the names that stand for its places, and no source
abbrev pub imaged : SymbolTable → Result Words RopeFault → Result Code WorkshopFault
imaged names (Ok words) = Ok (words, names, no_source)
imaged names (Err fault) = Err (of_rope_fault fault)

-- a program and inputs, or the first fault: that of the program comes before that of the feed
abbrev pub loaded : Result Code WorkshopFault → Result (List Entry) WorkshopFault → Result Loaded WorkshopFault
loaded (Err fault) inputs = Err fault
loaded (Ok code) (Err fault) = Err fault
loaded (Ok code) (Ok is) = Ok (record { rope = code.0; symbols = code.1; rows = code.2; feed = is })

-- the program of a source of the standard language and the inputs of a feed, or the first fault
unfoldable pub prepared : List ℕ → List ℕ → Result Loaded WorkshopFault
prepared source feed = loaded (code_of (assembled Standard source)) (of_feed (inputs feed))

-- what runs
abbrev pub scenario_of : Loaded → Scenario
scenario_of l = record { rope = l.rope; inputs = l.feed }
