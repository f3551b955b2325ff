-- The inputs of a feed, or its first fault.
use Rattle.std.specs.Prelude.{ℕ, ◌+◌, ◌-◌, Bool, false, nat_le, nat_lt, List, [], ◌∷◌, ◌++◌, length, map, Option, None, Some, Result, Ok}
use Rattle.std.specs.Prelude.{Err, slice_get, if◌then◌else◌}
use Rattle.std.specs.Option.{option_map_or, option_or}
use Rattle.agc_text.specs.Lines.{lines}
use Rattle.feed.specs.Merged.{merged, series_on}
use Rattle.feed.specs.Statements.{statement_of}
use Rattle.feed.specs.declared.entry.Entry.{Entry}
use Rattle.feed.specs.declared.entry.Plain.{Plain}
use Rattle.feed.specs.declared.entry.Series.{Series}
use Rattle.feed.specs.declared.fault.FeedFault.{FeedFault}
use Rattle.feed.specs.declared.fault.FeedFault.TheVariants as fault
use Rattle.feed.specs.declared.fault.LineFault.{LineFault}
use Rattle.feed.specs.declared.fault.LineFault.TheVariants as own
use Rattle.feed.specs.declared.statement.Statement.{Statement}
use Rattle.feed.specs.declared.statement.Statement.TheVariants.{Nothing, Faulty, Gives, Repeats}

-- the most bytes of a feed
abbrev pub most_bytes : ℕ
most_bytes = 8388608

-- the most plain inputs of a feed
abbrev pub most_inputs : ℕ
most_inputs = 65536

-- the most series of a feed
abbrev pub most_series : ℕ
most_series = 16

-- what the lines of a feed say
abbrev pub statements : List ℕ → List Statement
statements text = map statement_of (lines text)

-- the plain input that a line with this number gives
abbrev pub plain_in : ℕ → Statement → List Plain
plain_in line Nothing = []
plain_in line (Faulty fault) = []
plain_in line (Gives cycle input) = record { cycle = cycle; line = line; input = input } ∷ []
plain_in line (Repeats rule) = []

-- the series that it gives
abbrev pub series_in : ℕ → Statement → List Series
series_in line Nothing = []
series_in line (Faulty fault) = []
series_in line (Gives cycle input) = []
series_in line (Repeats rule) = series_on line rule ∷ []

-- the plain inputs that lines give, the first of them with this number
unfoldable pub plain_from : ℕ → List Statement → List Plain
plain_from line [] = []
plain_from line (said ∷ more) = plain_in line said ++ plain_from (line + 1) more

-- the series that they give
unfoldable pub series_from : ℕ → List Statement → List Series
series_from line [] = []
series_from line (said ∷ more) = series_in line said ++ series_from (line + 1) more

-- a cycle is below that of the last plain input
abbrev pub is_late : List Plain → ℕ → Bool
is_late before cycle = option_map_or (λ last. nat_lt cycle last.cycle) (slice_get before (length before - 1)) false

-- the fault of a line by itself
abbrev pub line_fault : ℕ → LineFault → FeedFault
line_fault line own.BadLine = fault.BadLine line
line_fault line own.WrongCounter = fault.WrongCounter line

-- the fault of the line with this number, where the lines before it give these plain inputs and series
abbrev pub fault_after : List Plain → List Series → ℕ → Statement → Option FeedFault
fault_after plain series line Nothing = None
fault_after plain series line (Faulty fault) = Some (line_fault line fault)
fault_after plain series line (Gives cycle input) =
    if is_late plain cycle then Some (fault.OutOfOrder line)
    else (if nat_le most_inputs (length plain) then Some fault.TooMany else None)
fault_after plain series line (Repeats rule) = if nat_le most_series (length series) then Some (fault.TooManySeries line) else None

-- the first fault of some lines, where others stand before them
unfoldable pub first_fault : List Statement → List Statement → Option FeedFault
first_fault before [] = None
first_fault before (line ∷ after) =
    option_or (fault_after (plain_from 1 before) (series_from 1 before) (length before + 1) line) (first_fault (before ++ line ∷ []) after)

-- the inputs of a feed's lines: all that they give, in order
abbrev pub inputs_of : List Statement → List Entry
inputs_of said = merged (plain_from 1 said) (series_from 1 said)

-- a fault, or else some inputs
abbrev pub unless_fault : Option FeedFault → List Entry → Result (List Entry) FeedFault
unless_fault None given = Ok given
unless_fault (Some f) given = Err f

-- the first fault of a feed's lines, else the inputs that they give
abbrev pub inputs_by : List Statement → Result (List Entry) FeedFault
inputs_by said = unless_fault (first_fault [] said) (inputs_of said)

-- the inputs of a feed, or what is wrong with it
unfoldable pub inputs : List ℕ → Result (List Entry) FeedFault
inputs text = if nat_lt most_bytes (length text) then Err fault.TooLong else inputs_by (statements text)
