-- Forms that the language of flight programs takes.
use Rattle.std.specs.Prelude.{ℕ, Bool, true, false, ◌||◌, not, List, Some, is_some}
use Rattle.std.specs.List.{list_any}
use Rattle.yayul.specs.Layout.{start, line_faults, statement_on}
use Rattle.yayul.specs.Language.{BadLabel, BadOperand, Constant, Constants, Content, FaultKind, Flight, Gives, LongLine, Operation}
use Rattle.yayul.specs.Language.{UnknownOperator}

-- a fault of a line's form: of its length, its label, its operator or its operand
abbrev pub is_of_form : FaultKind → Bool
is_of_form LongLine = true
is_of_form BadLabel = true
is_of_form UnknownOperator = true
is_of_form BadOperand = true
is_of_form _ = false

-- a constant is more than its words hold
abbrev pub is_too_great : Content → Bool
is_too_great (Constant number) = not (is_some number)
is_too_great (Constants pair) = not (is_some pair)
is_too_great _ = false

-- a line gives one
abbrev pub gives_too_great : Operation → Bool
gives_too_great (Gives (Some content)) = is_too_great content
gives_too_great _ = false

-- the language of flight programs takes the form of a line: as the first of a source the line has no fault of its form, and no constant
-- that is too great
unfoldable pub has_flight_form : List ℕ → Bool
has_flight_form text = not (list_any is_of_form (line_faults 1 (start Flight) text)
    || gives_too_great (statement_on (start Flight) text).operation)
