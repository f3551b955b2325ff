-- What the definitions of the source language come to.
use Rattle.std.specs.Prelude.{◌≡◌, ◌≢◌, ℕ, ◌+◌, ◌-◌, ◌*◌, ◌^◌, ◌<◌, ◌≤◌, ◌==◌, ◌&&◌, ◌||◌, not, Bool, true, false, List, [], ◌∷◌, All}
use Rattle.std.specs.Prelude.{AllPairs, length, filter, slice_get, take, Option, Some, None, option_and_then, unwrap_or, Result, Ok}
use Rattle.std.specs.Prelude.{Err, IfOk, IfSome}
use Rattle.std.specs.List.{list_any}
use Rattle.agc_text.specs.Lines.{lines}
use Rattle.agc_text.specs.Tables.{same_name}
use Rattle.yayul.specs.Forms.{scaled}
use Rattle.yayul.specs.Layout.{Layout, Request, start, extends, stands_at, fault_number, is_later, layout_after, layout_faults}
use Rattle.yayul.specs.Layout.{statement_on}
use Rattle.yayul.specs.Mended.{lacks_operand}
use Rattle.yayul.specs.Operators.{operators, address_operators}
use Rattle.yayul.specs.Program.{Program, program}
use Rattle.yayul.specs.Survey.{Survey, counts_from_here, erases, layout_kinds, looked_at, operand_of, operation_on, passed_lines}
use Rattle.yayul.specs.Survey.{rests_on_known, told, unmarked}
use Rattle.yayul.specs.Words.{addressed_word}
use Rattle.yayul.specs.Language.{AddressedCode, BankFull, Channel, CodeInErasable, Content, Either, Equals, Extracode, Fault, FaultKind}
use Rattle.yayul.specs.Language.{Label, Language, Named, No, Num, Operand, Operation, Operator, OutOfRange, PlaceTaken, Takes, Term}
use Rattle.yayul.specs.Language.{Undefined, UsedTooEarly, Value, WrongKindOfAddress, Yes}
use Rattle.yayul.specs.declared.finding.Finding.{Finding}

-- ## The words of instructions
-- the rows of all other operators
abbrev pub instructions : List (List ℕ × Operator)
instructions = filter (λ row. not (list_any (same_name row.0) address_operators)) operators

-- an operator may stand where extracode is in force, or where it is not
abbrev pub may_stand : Extracode → Bool → Bool
may_stand No extracode = not extracode
may_stand Yes extracode = extracode
may_stand Either extracode = true

-- an operator without an operand gives a word, where extracode is in force or is not
abbrev pub GivesAlone : Operator → Bool → ℕ → Type 0
GivesAlone (Operator.Plain i) extracode word = (may_stand i.extracode extracode ≡ true) × (word ≡ i.code)
GivesAlone _ extracode word = ⊥

-- a code gives a word of a number as its operand
abbrev pub CodeGives : AddressedCode → Bool → ℕ → ℕ → Type 0
CodeGives i extracode n word = (may_stand i.extracode extracode ≡ true) × (addressed_word i extracode (Num n) ≡ Ok (word ∷ []))

-- an operator gives a word of a number as its operand; NOOP of the location after it
abbrev pub GivesWith : Operator → Bool → ℕ → ℕ → Type 0
GivesWith (Operator.Addressed i) extracode n word = CodeGives i extracode n word
GivesWith (Operator.ToNext i) extracode n word = CodeGives i extracode n word
GivesWith _ extracode n word = ⊥

-- after a line with an operator, whatever its operand, extracode is in force on the next line that gives words, or is not, as the layout
-- has it
abbrev pub LeavesExtracode : Operator → Bool → Bool → Type 0
LeavesExtracode (Operator.Plain i) extracode after = extends (Content.Plain i) extracode ≡ after
LeavesExtracode (Operator.Addressed i) extracode after = (operand : Operand) → extends (Content.Addressed i operand) extracode ≡ after
LeavesExtracode (Operator.ToNext i) extracode after = (operand : Operand) → extends (Content.Addressed i operand) extracode ≡ after
LeavesExtracode _ extracode after = ⊥

-- how many octal digits show what a field holds
abbrev pub digits_shown : Takes → ℕ
digits_shown Channel = 3
digits_shown _ = 4

-- how many octal digits show the operand of an operator: a channel's three, an address's four
abbrev pub operand_digits : Operator → ℕ
operand_digits (Operator.Addressed i) = digits_shown i.takes
operand_digits _ = 4

-- ## Fractions
-- so many multiples of 2 ^ -14 are nearer to a fraction of decimals and their unit than any other: less than half of one away, on either
-- side
pub record IsNearest (word decimals unit : ℕ) : Type 0 where
  pub above : 2 * (word * unit) < decimals * 2 ^ 15 + unit
  pub below : decimals * 2 ^ 15 < 2 * (word * unit) + unit

-- the word of a fraction of 1 to 9 decimals is nearest
abbrev pub ScalesToNearest : ℕ → ℕ → Type 0
ScalesToNearest decimals digits = 1 ≤ digits → digits ≤ 9 → IsNearest (scaled decimals (10 ^ digits)) decimals (10 ^ digits)

-- ## Places
-- of two requests of which one stands before the other, none asks for a place of the other's
abbrev pub ShareNoPlace : List Request → Type 0
ShareNoPlace requests =
    (i j : ℕ) (q r : Request) → i < j → slice_get requests i ≡ Some q → slice_get requests j ≡ Some r
    → (bank offset : ℕ) → stands_at bank offset q ≡ true → stands_at bank offset r ≡ false

-- no two words of a source without a layout fault share a place
abbrev pub WordsShareNoPlace : Language → List ℕ → Type 0
WordsShareNoPlace language source = layout_faults 1 (start language) (lines source) ≡ []
    → ShareNoPlace (layout_after 1 (start language) (lines source)).requests

-- ## Names
-- no two symbols have one name
abbrev pub StandOnce : List (List ℕ × Value) → Type 0
StandOnce symbols = AllPairs (λ a b. a.0 ≢ b.0) symbols

-- no name is defined twice in a source that assembles
abbrev pub NamesStandOnce : Language → List ℕ → Type 0
NamesStandOnce language source = IfOk (program language source) (λ p. StandOnce p.symbols)

-- ## What is told
-- a finding tells a fault: it has its line and the number of its kind
abbrev pub is_of : Fault → Finding → Bool
is_of fault f = f.line == fault.line && fault_number f.kind == fault.number

-- where a source assembles nothing is told, and where it is refused its fault is
abbrev pub TellsOf : Result Program Fault → List Finding → Type 0
TellsOf (Ok p) findings = findings ≡ []
TellsOf (Err fault) findings = list_any (is_of fault) findings ≡ true

-- what is told of a source agrees with what it assembles to
abbrev pub FindingsAgree : Language → List ℕ → Type 0
FindingsAgree language source = TellsOf (program language source) (told language source)

-- a finding tells what another does
abbrev pub same_fault : Finding → Finding → Bool
same_fault a b = b.line == a.line && fault_number b.kind == fault_number a.kind

-- no finding tells what one before it does
abbrev pub StandEachOnce : List Finding → Type 0
StandEachOnce [] = Unit {0}
StandEachOnce (f ∷ fs) = (list_any (same_fault f) fs ≡ false) × StandEachOnce fs

-- each fault of a source is told once
abbrev pub FindingsStandOnce : Language → List ℕ → Type 0
FindingsStandOnce language source = StandEachOnce (told language source)

-- ## What is sure
-- what stands before a line of a source, by its number
abbrev pub before_line : Language → List ℕ → ℕ → Survey
before_line language source line = passed_lines 1 (unmarked language) (take (line - 1) (looked_at language source))

-- a line of a source, by its number
abbrev pub text_of_line : Language → List ℕ → ℕ → List ℕ
text_of_line language source line = unwrap_or (slice_get (looked_at language source) (line - 1)) []

-- what it says
abbrev pub said_on : Language → List ℕ → ℕ → Operation
said_on language source line = operation_on (before_line language source line).layout (text_of_line language source line)

-- where it stands is known: no line that moves the location on to it is refused
abbrev pub IsPlaced : Language → List ℕ → ℕ → Type 0
IsPlaced language source line = (before_line language source line).known.location ≡ true

-- a fault is one of where words stand
abbrev pub is_of_place : ℕ → Bool
is_of_place number = number == fault_number BankFull || (number == fault_number PlaceTaken || number == fault_number CodeInErasable)

-- a fault is one of an address that its line itself gives: of what ERASE passes, or of an operand that counts from its own line
abbrev pub is_of_own_address : ℕ → Operation → Bool
is_of_own_address number operation =
    (number == fault_number WrongKindOfAddress && (erases operation || counts_from_here operation))
    || (number == fault_number OutOfRange && counts_from_here operation)

-- a fault that rests on where its line stands is told where that is known; and a line that a fault names stands above, where it is known
-- too
pub record IsSure (language : Language) (source : List ℕ) (f : Finding) : Type 0 where
  pub own : (is_of_place (fault_number f.kind) || is_of_own_address (fault_number f.kind) (said_on language source f.line)) ≡ true
      → IsPlaced language source f.line
  pub named : IfSome f.taken_by (λ line. (line < f.line) × IsPlaced language source line)

-- each fault that is told of a source is sure
abbrev pub FindingsAreSure : Language → List ℕ → Type 0
FindingsAreSure language source = All (IsSure language source) (told language source)

-- the label of a line, by its number
abbrev pub label_on : Language → List ℕ → ℕ → Label
label_on language source line = (statement_on (before_line language source line).layout (text_of_line language source line)).label

-- the symbol that a term is
abbrev pub symbol_in : Term → Option (List ℕ)
symbol_in (Term.Named name) = Some name
symbol_in _ = None

-- the symbol that the operand of a line is
abbrev pub symbol_of : Operation → Option (List ℕ)
symbol_of operation = option_and_then (λ operand. symbol_in operand.term) (operand_of operation)

-- a name is the label of no line of a source, a refused one among them
abbrev pub IsNoLabel : Language → List ℕ → List ℕ → Type 0
IsNoLabel language source name = (line : ℕ) → 1 ≤ line → line ≤ length (looked_at language source)
    → label_on language source line ≢ Named name

-- the operand of a line is a symbol, and that is the label of no line
abbrev pub NamesNoLabel : Language → List ℕ → ℕ → Type 0
NamesNoLabel language source line = (name : List ℕ)
    × ((symbol_of (said_on language source line) ≡ Some name) × IsNoLabel language source name)

-- that no line defines a symbol is told only where none has it as its label
abbrev pub UndefinedIsSure : Language → List ℕ → Type 0
UndefinedIsSure language source = All (λ f. fault_number f.kind ≡ fault_number Undefined → NamesNoLabel language source f.line)
    (told language source)

-- a line lets its label wait for a symbol of a later line
abbrev pub is_waiting : Layout → Operation → Bool
is_waiting s (Equals (Some operand)) = is_later s operand
is_waiting s _ = false

abbrev pub IsWaiting : Language → List ℕ → ℕ → Type 0
IsWaiting language source line = is_waiting (before_line language source line).layout (said_on language source line) ≡ true

-- no line above another has a name as its label, a refused one neither, but one that lets it wait
abbrev pub IsNotAbove : Language → List ℕ → ℕ → List ℕ → Type 0
IsNotAbove language source last name = (line : ℕ) → 1 ≤ line → line < last → label_on language source line ≡ Named name
    → IsWaiting language source line

-- the operand of a line is a symbol, and no line above gives it a value
abbrev pub NamesNoneAbove : Language → List ℕ → ℕ → Type 0
NamesNoneAbove language source line = (name : List ℕ)
    × ((symbol_of (said_on language source line) ≡ Some name) × IsNotAbove language source line name)

-- that the value of a symbol is needed too early is told only where no line above gives it one
abbrev pub EarlyIsSure : Language → List ℕ → Type 0
EarlyIsSure language source = All (λ f. fault_number f.kind ≡ fault_number UsedTooEarly → NamesNoneAbove language source f.line)
    (told language source)

-- the layout faults of what a line says
abbrev pub faults_on : Language → List ℕ → ℕ → List FaultKind
faults_on language source line = layout_kinds line (before_line language source line).layout (label_on language source line)
    (said_on language source line)

-- all is known that a line rests on
abbrev pub RestsOnKnown : Language → List ℕ → ℕ → Type 0
RestsOnKnown language source line =
    rests_on_known (before_line language source line).known
    (lacks_operand (before_line language source line).layout.language (text_of_line language source line))
    (said_on language source line) ≡ true

-- a line gives a name its value: it has the name as its label, no layout fault stands on it, and all is known that it rests on
pub record GivesValue (language : Language) (source : List ℕ) (name : List ℕ) (line : ℕ) : Type 0 where
  pub counted : (1 ≤ line) × (line ≤ length (looked_at language source))
  pub label : label_on language source line ≡ Named name
  pub faultless : faults_on language source line ≡ []
  pub known : RestsOnKnown language source line

abbrev pub IsGiven : Language → List ℕ → List ℕ → Type 0
IsGiven language source name = (line : ℕ) × GivesValue language source name line

-- a fault is one of the kind of a value, or of its range
abbrev pub is_of_value : ℕ → Bool
is_of_value number = number == fault_number WrongKindOfAddress || number == fault_number OutOfRange

-- that the value of a symbol is of the wrong kind or out of range is told only where a line without a layout fault gives it
abbrev pub ValueIsSure : Language → List ℕ → Type 0
ValueIsSure language source =
    All (λ f. is_of_value (fault_number f.kind) ≡ true → (name : List ℕ) → symbol_of (said_on language source f.line) ≡ Some name
    → IsGiven language source name) (told language source)
