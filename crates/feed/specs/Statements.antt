-- What a line of a feed says, whatever stands before it.
use Rattle.std.specs.Prelude.{ℕ, ◌==◌, ◌&&◌, ◌||◌, Bool, nat_le, List, [], ◌∷◌, length, Option, None, Some, Result, Ok, Err, codes}
use Rattle.std.specs.Prelude.{if◌then◌else◌, option_and_then}
use Rattle.std.specs.List.{list_all}
use Rattle.std.specs.Option.{option_map}
use Rattle.agc_text.specs.Bytes.{line_length, is_text_byte}
use Rattle.agc_text.specs.Digits.{number_of}
use Rattle.agc_text.specs.Fields.{fields, texts}
use Rattle.agc_text.specs.Tables.{same_name, value_in}
use Rattle.feed.specs.Counters.{takes}
use Rattle.feed.specs.Names.{counters, sequences}
use Rattle.feed.specs.declared.entry.Rule.{Rule}
use Rattle.feed.specs.declared.fault.LineFault.{LineFault}
use Rattle.feed.specs.declared.fault.LineFault.TheVariants.{BadLine, WrongCounter}
use Rattle.feed.specs.declared.input.Counter.{Counter}
use Rattle.feed.specs.declared.input.Input.{Input}
use Rattle.feed.specs.declared.input.Input.TheVariants.{Count, Word, Interrupt}
use Rattle.feed.specs.declared.input.Sequence.{Sequence}
use Rattle.feed.specs.declared.statement.Statement.{Statement}
use Rattle.feed.specs.declared.statement.Statement.TheVariants.{Nothing, Faulty, Gives, Repeats}

-- a number that passes a test
abbrev pub passing : (ℕ → Bool) → Option ℕ → Option ℕ
passing test number = option_and_then (λ n. if test n then Some n else None) number

-- a cycle: 1 to 15 decimal digits
abbrev pub cycle_in : List ℕ → Option ℕ
cycle_in text = number_of 10 15 text

-- a number that makes the cycles of a series: 1 to 9 decimal digits, and not zero
abbrev pub factor_in : List ℕ → Option ℕ
factor_in text = passing (λ n. nat_le 1 n) (number_of 10 9 text)

-- the channels that take inputs: all but 1 and 2
abbrev pub is_input_channel : ℕ → Bool
is_input_channel n = n == 0 || (nat_le 3 n && nat_le n 0o777)

-- a channel that takes inputs: 1 to 5 octal digits
abbrev pub channel_in : List ℕ → Option ℕ
channel_in text = passing is_input_channel (number_of 8 5 text)

-- a word: 1 to 5 octal digits
abbrev pub word_in : List ℕ → Option ℕ
word_in text = passing (λ n. nat_le n 0o77777) (number_of 8 5 text)

-- an interrupt that is asked for: 1 to 10, in 1 or 2 decimal digits
abbrev pub request_in : List ℕ → Option Input
request_in text = option_map (λ n. Interrupt n) (passing (λ n. nat_le 1 n && nat_le n 10) (number_of 10 2 text))

-- a word on a channel, where both have their form
abbrev pub word_on : Option ℕ → Option ℕ → Option Input
word_on None word = None
word_on (Some channel) None = None
word_on (Some channel) (Some word) = Some (Word channel word)

-- an input, where it has its form
abbrev pub formed : Option Input → Result Input LineFault
formed None = Err BadLine
formed (Some input) = Ok input

-- a pulse of a counter, where both have their names and the counter takes the sequence
abbrev pub pulse_of : Option Counter → Option Sequence → Result Input LineFault
pulse_of None sequence = Err BadLine
pulse_of (Some counter) None = Err BadLine
pulse_of (Some counter) (Some sequence) = if takes counter sequence then Ok (Count counter sequence) else Err WrongCounter

-- two fields: an interrupt that is asked for, or a pulse of a counter
abbrev pub short_input : List ℕ → List ℕ → Result Input LineFault
short_input name argument =
    if same_name name (codes "RUPT") then formed (request_in argument)
    else pulse_of (value_in counters name) (value_in sequences argument)

-- three fields: a word on a channel
abbrev pub long_input : List ℕ → List ℕ → List ℕ → Result Input LineFault
long_input name channel word =
    if same_name name (codes "CHAN") then formed (word_on (channel_in channel) (word_in word)) else Err BadLine

-- the input that some fields tell
abbrev pub input_in : List (List ℕ) → Result Input LineFault
input_in [] = Err BadLine
input_in (name ∷ []) = Err BadLine
input_in (name ∷ argument ∷ []) = short_input name argument
input_in (name ∷ channel ∷ word ∷ []) = long_input name channel word
input_in (name ∷ channel ∷ word ∷ next ∷ more) = Err BadLine

-- an input at a cycle, where that has its form
abbrev pub at_cycle : Option ℕ → Result Input LineFault → Result (ℕ × Input) LineFault
at_cycle None input = Err BadLine
at_cycle (Some cycle) (Ok input) = Ok (cycle, input)
at_cycle (Some cycle) (Err fault) = Err fault

-- a cycle and an input
abbrev pub timed_in : List (List ℕ) → Result (ℕ × Input) LineFault
timed_in [] = Err BadLine
timed_in (cycle ∷ input) = at_cycle (cycle_in cycle) (input_in input)

-- a rule by four numbers, where each has its form
abbrev pub rule_by : Option ℕ → Option ℕ → Option ℕ → Option ℕ → Result Input LineFault → Result Rule LineFault
rule_by (Some first) (Some num) (Some den) (Some count) (Ok input) = Ok
    (record { first = first; num = num; den = den; count = count; input = input })
rule_by (Some first) (Some num) (Some den) (Some count) (Err fault) = Err fault
rule_by first num den count input = Err BadLine

-- what follows EVERY: first, num, den, count, and an input
abbrev pub rule_in : List (List ℕ) → Result Rule LineFault
rule_in (first ∷ num ∷ den ∷ count ∷ input) = rule_by (cycle_in first) (factor_in num) (factor_in den) (factor_in count) (input_in input)
rule_in few = Err BadLine

abbrev pub gives : Result (ℕ × Input) LineFault → Statement
gives (Ok timed) = Gives timed.0 timed.1
gives (Err fault) = Faulty fault

abbrev pub repeats : Result Rule LineFault → Statement
repeats (Ok rule) = Repeats rule
repeats (Err fault) = Faulty fault

-- what the fields of a line say
abbrev pub statement_in : List (List ℕ) → Statement
statement_in [] = Nothing
statement_in (first ∷ rest) = if same_name first (codes "EVERY") then repeats (rule_in rest) else gives (timed_in (first ∷ rest))

-- a line with no more bytes than it may have and none that it may not hold, its comment included
abbrev pub is_allowed : List ℕ → Bool
is_allowed line = nat_le (length line) line_length && list_all is_text_byte line

-- what a line says
unfoldable pub statement_of : List ℕ → Statement
statement_of line = if is_allowed line then statement_in (texts (fields line)) else Faulty BadLine

-- the input of a line by itself, and its cycle
unfoldable pub parsed : List ℕ → Result (ℕ × Input) LineFault
parsed line = if is_allowed line then timed_in (texts (fields line)) else Err BadLine
