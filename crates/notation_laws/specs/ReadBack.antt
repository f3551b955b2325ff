-- What is written of numbers, places, registers, cells, symbols, inputs and breakpoints is read as these.
use Rattle.std.specs.Prelude.{◌≡◌, ℕ, ◌-◌, ◌^◌, ◌<◌, nat_lt, List, [], ◌++◌, codes}
use Rattle.std.specs.Prelude.{decimal, Some, Option, Ok, if◌then◌else◌, unwrap_or, option_and_then, IfSome}
use Rattle.std.specs.Option.{option_map, option_or}
use Rattle.words.specs.Numerals.{octal_text}
use Rattle.agc_text.specs.Digits.{number_of}
use Rattle.agc_text.specs.Fields.{runs, texts}
use Rattle.agc_text.specs.Tables.{value_in as named_in}
use Rattle.space.specs.Cells.{erasable_count}
use Rattle.space.specs.declared.place.Linear.{Linear}
use Rattle.space.specs.declared.place.Linear.TheVariants.{Erasable, Fixed}
use Rattle.feed.specs.Counters.{row_of}
use Rattle.feed.specs.Statements.{cycle_in, parsed, statement_of, word_in}
use Rattle.feed.specs.declared.input.Counter.{Counter}
use Rattle.feed.specs.declared.input.Input.{Input}
use Rattle.feed.specs.declared.statement.Statement.TheVariants.{Gives}
use Rattle.symbols.specs.Registers.{registers}
use Rattle.symbols.specs.Values.{SymbolTable}
use Rattle.yayul.specs.Listing.{place_text}
use Rattle.commands.specs.Commands.{channel_in, count_in, numbered_place}
use Rattle.commands.specs.Extended.{extended_line, subject_alone}
use Rattle.commands.specs.NamedPlaces.{named_place, own_place, place_first, unnamed_place}
use Rattle.commands.specs.declared.command.Breakpoint.{Breakpoint}
use Rattle.commands.specs.declared.command.Breakpoint.TheVariants.{Bits, Executed, Changed}
use Rattle.commands.specs.declared.command.Breakpoint.TheVariants as breakpoint
use Rattle.commands.specs.declared.command.Command.TheVariants.{Break}
use Rattle.commands.specs.declared.extended.ExtendedLine.TheVariants.{Common}
use Rattle.commands.specs.declared.subject.Subject.{Subject}
use Rattle.commands.specs.declared.subject.Subject.TheVariants.{Place, Channel}
use Rattle.audit.specs.WordLines.{place_text as rope_place_text}
use Rattle.trace.specs.TraceLines.{cell_name, full_name, input_text, operand_gap, place_name, register_name, special_name}
use Rattle.names.specs.NamedLines.{distance_text, nearest_name}
use Rattle.debugger.specs.ExtendedReplies.{breakpoint_text}
use Rattle.expect.specs.Fields.{value_in}
use Rattle.notation_laws.specs.Named.{AreApart}

-- ## Numbers: a word, in a feed or a command and in a test; a channel, an erasable place, a step or a number of steps, and a cycle
pub record NumbersReadBack : Type 0 where
  pub word : (w : ℕ) → w < 2 ^ 15 → word_in (octal_text 5 w) ≡ Some w
  pub tested : (w : ℕ) → w < 2 ^ 15 → value_in (octal_text 5 w) ≡ Some w
  pub channel : (n : ℕ) → n < 0o1000 → channel_in (octal_text 3 n) ≡ Some n
  pub erasable : (p : ℕ) → p < erasable_count → numbered_place (octal_text 4 p) ≡ Some (Erasable p)
  pub count : (n : ℕ) → n < 10 ^ 15 → count_in (decimal n) ≡ Some n
  pub cycle : (n : ℕ) → n < 10 ^ 15 → cycle_in (decimal n) ≡ Some n

-- ## Places, as a listing has them
-- whether there is such a place
abbrev pub IsPlace : Linear → Type 0
IsPlace (Erasable p) = p < erasable_count
IsPlace (Fixed bank offset) = (bank < 0o50) × (offset < 0o2000)

-- it is read where no symbol is needed, and by a session without symbols
pub record PlaceReadsBack (place : Linear) : Type 0 where
  pub alone : unnamed_place (place_text place) ≡ Some place
  pub asked : named_place [] (place_text place) ≡ Some place

-- what is written of words of fixed memory has the same text
abbrev pub HasOneText : ℕ → ℕ → Type 0
HasOneText bank offset = rope_place_text bank offset ≡ place_text (Fixed bank offset)

-- ## Registers and counters
-- the place of a name in the table by which a source is assembled
abbrev pub place_of_name : List ℕ → Option ℕ
place_of_name name = option_and_then (number_of 8 2) (named_in registers name)

-- the name of an erasable place that is no symbol's
abbrev pub own_name : ℕ → Option (List ℕ)
own_name p = option_or (register_name p) (special_name p)

-- each name that a trace writes, that a session reads, and that a feed has is that of the same place in this table; a session reads each
-- that is written
pub record NamesAgree : Type 0 where
  pub written : (p : ℕ) → IfSome (own_name p) (λ name. place_of_name name ≡ Some p)
  pub asked : (name : List ℕ) → IfSome (own_place name) (λ place. option_map (λ p. Erasable p) (place_of_name name) ≡ Some place)
  pub counted : (counter : Counter) → place_of_name (row_of counter).name ≡ Some (row_of counter).place
  pub read : (p : ℕ) → IfSome (own_name p) (λ name. named_place [] name ≡ Some (Erasable p))

-- ## Symbols
-- what is read as a place without symbols is read as it with those of a source
abbrev pub StaysRead : SymbolTable → List ℕ → Linear → Type 0
StaysRead symbols text place = AreApart symbols → named_place [] text ≡ Some place → named_place symbols text ≡ Some place

-- the place that the fields of a text begin with
abbrev pub place_asked : SymbolTable → List ℕ → Option Linear
place_asked symbols text = place_first symbols (texts (runs text))

-- the nearest symbol at or before a place, with how far before it stands
abbrev pub NearestReadsBack : SymbolTable → Linear → Type 0
NearestReadsBack symbols place = AreApart symbols → IsPlace place
    → IfSome (nearest_name symbols place) (λ near. place_asked symbols (near.0 ++ distance_text near.1) ≡ Some place)

-- ## Places by their names, and cells
-- by the name of an operand, with the symbol before an erasable place and how far, the place is read; and so by its name alone, or where
-- it has none as a listing has it
pub record IsReadByName (symbols : SymbolTable) (place : Linear) : Type 0 where
  pub operand : IfSome (full_name operand_gap symbols place) (λ name. place_asked symbols name ≡ Some place)
  pub shown : place_asked symbols (unwrap_or (place_name symbols place) (place_text place)) ≡ Some place

abbrev pub NamedPlaceReadsBack : SymbolTable → Linear → Type 0
NamedPlaceReadsBack symbols place = AreApart symbols → IsPlace place → IsReadByName symbols place

-- a cell: an erasable place or a channel
abbrev pub subject_of : ℕ → Subject
subject_of c = if nat_lt c erasable_count then Place c else Channel (c - erasable_count)

abbrev pub CellReadsBack : SymbolTable → ℕ → Type 0
CellReadsBack symbols c = AreApart symbols → c < 0o5000
    → subject_alone symbols (texts (runs (cell_name symbols c))) ≡ Some (subject_of c)

-- ## Inputs
-- after its cycle it is a line of a feed, and so what `add` takes
abbrev pub input_line : ℕ → Input → List ℕ
input_line cycle input = decimal cycle ++ codes " " ++ input_text input

pub record InputReadsBack (cycle : ℕ) (input : Input) : Type 0 where
  pub fed : statement_of (input_line cycle input) ≡ Gives cycle input
  pub added : parsed (input_line cycle input) ≡ Ok (cycle, input)

-- ## Breakpoints
-- one that a line sets
abbrev pub CanBeSet : Breakpoint → Type 0
CanBeSet (breakpoint.Place place) = IsPlace place
CanBeSet (breakpoint.Word p w) = (p < erasable_count) × (w < 2 ^ 15)
CanBeSet (breakpoint.Channel c w) = (c < 0o1000) × (w < 2 ^ 15)
CanBeSet (Bits c w mask) = (c < 0o1000) × (w < 2 ^ 15) × (mask < 2 ^ 15)
CanBeSet (Executed place) = IsPlace place
CanBeSet (Changed (Place p)) = p < erasable_count
CanBeSet (Changed (Channel c)) = c < 0o1000
CanBeSet other = ⊥

-- what `breaks` tells of it, behind `break`, is the line that sets it
abbrev pub BreakpointReadsBack : SymbolTable → Breakpoint → Type 0
BreakpointReadsBack symbols b = AreApart symbols → CanBeSet b
    → extended_line symbols (codes "break " ++ breakpoint_text b) ≡ Common (Break b)
