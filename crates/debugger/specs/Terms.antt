-- What replies are told by, besides what runs and where a session stands.
use Rattle.std.specs.Prelude.{ℕ, List, filter, None}
use Rattle.feed.specs.CountsTaken.{is_from}
use Rattle.feed.specs.declared.entry.Entry.{Entry}
use Rattle.symbols.specs.Values.{SymbolTable}
use Rattle.yayul.specs.Program.{Source}
use Rattle.cpu.specs.State.{Scenario}
use Rattle.debugger.specs.Additions.{line_after}

-- the symbols, the source, and the line from which on inputs stand that were added
pub record Terms : Type 0 where
  pub symbols : SymbolTable
  pub source : Source
  pub first : ℕ

-- the inputs that are from no series
abbrev pub plain_inputs : Scenario → List Entry
plain_inputs scenario = filter (is_from None) scenario.inputs

-- a line after all of theirs: what is added to them stands there, or after it
abbrev pub first_added : Scenario → ℕ
first_added scenario = line_after (plain_inputs scenario)

-- the terms of a session with these symbols and this source, of which this runs at first
abbrev pub terms_of : SymbolTable → Source → Scenario → Terms
terms_of symbols source scenario = record { symbols = symbols; source = source; first = first_added scenario }
