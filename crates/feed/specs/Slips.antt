-- Which field of a line is refused, and why.
use Rattle.std.specs.Prelude.{◌≡◌, ℕ, zero, suc, ◌+◌, Bool, true, false, List, [], ◌∷◌, Option, None, Some, is_some, codes, if◌then◌else◌}
use Rattle.agc_text.specs.Tables.{same_name, value_in}
use Rattle.feed.specs.Counters.{takes}
use Rattle.feed.specs.Names.{counters, sequences}
use Rattle.feed.specs.Statements.{channel_in, cycle_in, factor_in, request_in, statement_in, word_in}
use Rattle.feed.specs.declared.input.Counter.{Counter}
use Rattle.feed.specs.declared.input.Sequence.{Sequence}
use Rattle.feed.specs.declared.slip.Slip.{Slip}
use Rattle.feed.specs.declared.slip.Why.{Why}
use Rattle.feed.specs.declared.statement.Statement.{Statement}
use Rattle.feed.specs.declared.statement.Statement.TheVariants.{Faulty}
use Rattle.feed.specs.declared.slip.Why.TheVariants.{Taken, Cycle, First, Factor, MissingFactor, Name, Channel, Word, Request, NotTaken}
use Rattle.feed.specs.declared.slip.Why.TheVariants.{Missing, Surplus}

-- a field that so many stand before, and why it is refused
abbrev pub slip_at : ℕ → Why → Slip
slip_at field why = record { field = field; why = why }

-- why a counter does not take what stands for its sequence
abbrev pub why_not_taken : Counter → Option Sequence → Why
why_not_taken counter None = Why.Sequence counter
why_not_taken counter (Some sequence) = if takes counter sequence then Taken else NotTaken counter

abbrev pub sequence_why : Counter → List ℕ → Why
sequence_why counter text = why_not_taken counter (value_in sequences text)

-- of some fields after so many, which are a whole input but for this: the first is one too many, where there is one
abbrev pub surplus_slip : ℕ → Why → List (List ℕ) → Slip
surplus_slip field why [] = slip_at field why
surplus_slip field why (text ∷ rest) = slip_at (field + 1) Surplus

-- those after a channel: a word
abbrev pub word_slip : ℕ → List (List ℕ) → Slip
word_slip field [] = slip_at field Missing
word_slip field (text ∷ rest) = if is_some (word_in text) then surplus_slip (field + 1) Taken rest else slip_at (field + 1) Word

-- those after CHAN: a channel and a word
abbrev pub channel_slip : ℕ → List (List ℕ) → Slip
channel_slip field [] = slip_at field Missing
channel_slip field (text ∷ rest) = if is_some (channel_in text) then word_slip (field + 1) rest else slip_at (field + 1) Channel

-- those after RUPT: an interrupt
abbrev pub request_slip : ℕ → List (List ℕ) → Slip
request_slip field [] = slip_at field Missing
request_slip field (text ∷ rest) = if is_some (request_in text) then surplus_slip (field + 1) Taken rest else slip_at (field + 1) Request

-- those after a counter: a sequence
abbrev pub sequence_slip : ℕ → Counter → List (List ℕ) → Slip
sequence_slip field counter [] = slip_at field Missing
sequence_slip field counter (text ∷ rest) = surplus_slip (field + 1) (sequence_why counter text) rest

-- those after what may be a counter
abbrev pub counter_slip : ℕ → Option Counter → List (List ℕ) → Slip
counter_slip field None rest = slip_at field Name
counter_slip field (Some counter) rest = sequence_slip field counter rest

-- those after a cycle, or after the numbers of a series: an input
abbrev pub input_slip : ℕ → List (List ℕ) → Slip
input_slip field [] = slip_at field Missing
input_slip field (name ∷ rest) =
    if same_name name (codes "CHAN") then channel_slip (field + 1) rest
    else if same_name name (codes "RUPT") then request_slip (field + 1) rest
    else counter_slip (field + 1) (value_in counters name) rest

-- those after the first cycle of a series: so many numbers, and an input
abbrev pub factors_slip : ℕ → ℕ → List (List ℕ) → Slip
factors_slip zero field rest = input_slip field rest
factors_slip (suc left) field [] = slip_at field MissingFactor
factors_slip (suc left) field (text ∷ rest) = if is_some (factor_in text) then factors_slip left (field + 1) rest else slip_at (field + 1)
    Factor

-- those after EVERY
abbrev pub series_slip : List (List ℕ) → Slip
series_slip [] = slip_at 0 MissingFactor
series_slip (text ∷ rest) = if is_some (cycle_in text) then factors_slip 3 1 rest else slip_at 1 First

-- the fields of a line
abbrev pub line_slip : List (List ℕ) → Slip
line_slip [] = slip_at 0 Taken
line_slip (text ∷ rest) =
    if same_name text (codes "EVERY") then series_slip rest
    else if is_some (cycle_in text) then input_slip 0 rest
    else slip_at 0 Cycle

-- ## What a slip tells
-- nothing is wrong with a line
abbrev pub is_taken : Why → Bool
is_taken Taken = true
is_taken _ = false

-- what some fields say has no fault
abbrev pub is_said : Statement → Bool
is_said (Faulty fault) = false
is_said _ = true

-- fields are refused exactly where their slip says why
abbrev pub SlipTells : List (List ℕ) → Type 0
SlipTells fields = is_taken (line_slip fields).why ≡ is_said (statement_in fields)
