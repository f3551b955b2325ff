-- What an input does when it is taken.
use Rattle.std.specs.Prelude.{ℕ, ◌+◌, Bool, true, false, Option, Some, None, if◌then◌else◌, ◌==◌}
use Rattle.std.specs.FinSet as set
use Rattle.words.specs.declared.counters.Carry.{Carry}
use Rattle.words.specs.declared.counters.Carry.TheVariants.{Plus, Minus, ShiftedOut}
use Rattle.words.specs.declared.counters.CounterStep.{CounterStep}
use Rattle.words.specs.Numbers.{extend, correct}
use Rattle.words.specs.Counters.{pinc, minc, dinc, pcdu, mcdu, shinc, shanc}
use Rattle.space.specs.Cells.{get}
use Rattle.feed.specs.declared.counter.Asks.{Asks}
use Rattle.feed.specs.declared.counter.Asks.TheVariants.{Nothing, CarryInto, OnOverflow, AtZero, OnOneShiftedOut}
use Rattle.feed.specs.declared.input.Counter.{Counter}
use Rattle.feed.specs.declared.input.Sequence.{Sequence}
use Rattle.feed.specs.declared.input.Sequence.TheVariants.{Pinc, Minc, Dinc, Pcdu, Mcdu, Shinc, Shanc}
use Rattle.feed.specs.declared.input.Input.{Input}
use Rattle.feed.specs.declared.input.Input.TheVariants.{Count, Word, Interrupt}
use Rattle.feed.specs.Counters.{row_of, counter_place}
use Rattle.feed.specs.CountsTaken as from
use Rattle.cpu.specs.State.{State}
use Rattle.cpu.specs.Effects.{change}
use Rattle.cpu.specs.Effects.Change.{AtPlace, OnChannel}

-- the interrupts for which the two keyboards ask
abbrev pub first_keyboard_interrupt : ℕ
first_keyboard_interrupt = 5

abbrev pub second_keyboard_interrupt : ℕ
second_keyboard_interrupt = 6

-- the channels of the two keyboards
abbrev pub first_keyboard_channel : ℕ
first_keyboard_channel = 0o15

abbrev pub second_keyboard_channel : ℕ
second_keyboard_channel = 0o16

-- the step that a sequence makes of a word
abbrev pub step_of : Sequence → ℕ → CounterStep
step_of Pinc w = pinc w
step_of Minc w = minc w
step_of Dinc w = dinc w
step_of Pcdu w = pcdu w
step_of Mcdu w = mcdu w
step_of Shinc w = shinc w
step_of Shanc w = shanc w

-- whether plus or minus one has overflowed
abbrev pub is_overflow : Carry → Bool
is_overflow Plus = true
is_overflow Minus = true
is_overflow _ = false

-- whether a one was shifted out
abbrev pub is_shifted_out : Carry → Bool
is_shifted_out ShiftedOut = true
is_shifted_out _ = false

-- the interrupt that is asked for after a step
abbrev pub asked_by : Asks → CounterStep → Option ℕ
asked_by Nothing step = None
asked_by (CarryInto counter) step = None
asked_by (OnOverflow k) step = if is_overflow step.carry then Some k else None
asked_by (AtZero k) step = if step.word == 0 then Some k else None
asked_by (OnOneShiftedOut k) step = if is_shifted_out step.carry then Some k else None

-- the interrupt for which a counter asks after a step
abbrev pub asked_after : Counter → CounterStep → Option ℕ
asked_after counter step = asked_by (row_of counter).asks step

-- the counter into which an overflow is carried
abbrev pub carried_by : Asks → Option Counter
carried_by (CarryInto counter) = Some counter
carried_by _ = None

-- the counter into which a counter's overflow is carried
abbrev pub carries_into : Counter → Option Counter
carries_into counter = carried_by (row_of counter).asks

-- the word that a counter holds
abbrev pub count_of : State → Counter → ℕ
count_of s counter = correct (get s.cells (counter_place counter))

-- a counter holds the word of a step
abbrev pub stepped : State → Counter → CounterStep → State
stepped s counter step = change s (AtPlace (counter_place counter) (extend step.word))

-- what a counter's overflow adds to another counter
abbrev pub carried : State → Option Counter → Carry → State
carried s None carry = s
carried s (Some counter) carry = if is_overflow carry then stepped s counter (pinc (count_of s counter)) else s

-- an interrupt is asked for, if any is
abbrev pub asked : State → Option ℕ → State
asked s None = s
asked s (Some k) = record s { requests = set.insert s.requests k }

-- a sequence of a counter: the counter's step, what it carries into another counter, and the interrupt for which it asks
unfoldable pub counted : State → Counter → Sequence → State
counted s counter sequence =
    let step = step_of sequence (count_of s counter) in
    asked (carried (stepped s counter step) (carries_into counter) step.carry) (asked_after counter step)

-- the interrupt for which a word on a channel asks: that of a keyboard on the keyboard's channel
abbrev pub asked_on : ℕ → Option ℕ
asked_on n =
    if n == first_keyboard_channel then Some first_keyboard_interrupt
    else (if n == second_keyboard_channel then Some second_keyboard_interrupt
    else None)

-- a word on a channel is stored as a program's would be, and may ask for an interrupt
unfoldable pub received : State → ℕ → ℕ → State
received s n w = asked (change s (OnChannel n (extend w))) (asked_on n)

-- what an input does
abbrev pub input_effect : State → Input → State
input_effect s (Count counter sequence) = counted s counter sequence
input_effect s (Word n w) = received s n w
input_effect s (Interrupt k) = asked s (Some k)

-- the cycles that an input takes
abbrev pub input_cycles : Input → ℕ
input_cycles (Count counter sequence) = 1
input_cycles (Word n w) = 0
input_cycles (Interrupt k) = 0

-- an input is taken, with the series that it is from: it is counted, and for its series, its cycles pass, and it does what it does
unfoldable pub take : State → Input × Option ℕ → State
take s given =
    input_effect
    (record s { taken = s.taken + 1; counts = from.counts_after s.counts given.1; cycles = s.cycles + input_cycles given.0 })
    given.0
