-- The values of names that wait for symbols of later lines.
use Rattle.std.specs.Prelude.{ℕ, List, [], ◌∷◌, ◌++◌, fold, Option, None, Some, is_some, Result, Ok, ok_or, if◌then◌else◌}
use Rattle.std.specs.Option.{option_map, option_or}
use Rattle.std.specs.Result.{result_err, result_unwrap_or}
use Rattle.agc_text.specs.Tables.{value_in}
use Rattle.yayul.specs.Layout.{Promise, Layout, and_then, fault_number, is_later, value_of}
use Rattle.yayul.specs.Language.{Equals, Fault, FaultKind, Fixed, Label, Named, Operand, Operation, UsedTooEarly, Value}

-- symbols with their values
abbrev pub Table : Type 0
Table = List (List ℕ × Value)

-- the value of an operand that is a symbol, wherever its line stands
abbrev pub awaited : Table → Operand → Result Value FaultKind
awaited table operand = value_of UsedTooEarly table (Fixed 2 0) operand

-- a table with a symbol more, where it has no value yet
abbrev pub with_value : Table → List ℕ → Value → Table
with_value table name value = if is_some (value_in table name) then table else table ++ (name, value) ∷ []

-- a table with the value of a name that waits, where its operand has one
abbrev pub kept : Table → Promise → Table
kept table p = result_unwrap_or (and_then (λ v. Ok (with_value table p.name v)) (awaited table p.operand)) table

-- all names that wait, in the order of their lines
abbrev pub round : List Promise → Table → Table
round promises table = fold kept table promises

abbrev pub four_rounds : List Promise → Table → Table
four_rounds promises table = round promises (round promises (round promises (round promises table)))

-- eight times: a symbol may be that of a later line, whose own is that of a later one, and so on
abbrev pub settled : List Promise → Table → Table
settled promises table = four_rounds promises (four_rounds promises table)

-- the value that a name has come to, where its operand has one
abbrev pub value_of_promise : Table → List ℕ → Operand → Result Value FaultKind
value_of_promise table name operand = and_then (λ v. ok_or (value_in table name) UsedTooEarly) (awaited table operand)

-- what is wrong with a name that waits, by the symbols of the whole source
abbrev pub promise_kind : Table → List ℕ → Operand → Option FaultKind
promise_kind table name operand = result_err (value_of_promise table name operand)

abbrev pub promise_fault : Table → Promise → Option Fault
promise_fault table p = option_map (λ kind. record { line = p.line; number = fault_number kind }) (promise_kind table p.name p.operand)

-- the first fault of names that wait, which is the least, since they stand in the order of their lines
abbrev pub first_fault : Table → List Promise → Option Fault
first_fault table promises = fold (λ found p. option_or found (promise_fault table p)) None promises

-- a layout with the values of the names that wait
abbrev pub with_values : Layout → Layout
with_values s = record s { symbols = settled s.promises s.symbols }

-- what is wrong with a name that a line lets wait
abbrev pub label_kind : Table → Layout → Label → Operand → Option FaultKind
label_kind table s (Named name) operand = if is_later s operand then promise_kind table name operand else None
label_kind table s _ operand = None

abbrev pub waiting_kind : Table → Layout → Label → Operation → Option FaultKind
waiting_kind table s label (Equals (Some operand)) = label_kind table s label operand
waiting_kind table s label _ = None
