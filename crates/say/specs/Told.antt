-- What a sentence tells of: places, what stands there before a step and after it, and what they are called.
use Rattle.std.specs.Prelude.{ℕ, ◌+◌, ◌-◌, ◌%◌, ◌^◌, ◌==◌, ◌&&◌, Bool, false, not, nat_lt, List, [], ◌++◌, Option, None, Some, is_some}
use Rattle.std.specs.Prelude.{unwrap_or, if◌then◌else◌}
use Rattle.std.specs.Option.{option_map}
use Rattle.words.specs.Numbers.{correct}
use Rattle.words.specs.Numerals.{octal_text}
use Rattle.space.specs.Cells.{get, get_channel, accumulator, lower_accumulator, return_address, program_counter}
use Rattle.space.specs.declared.place.Linear.{Linear}
use Rattle.space.specs.declared.place.Linear.TheVariants.{Erasable, Fixed}
use Rattle.rope.specs.Places.{Words}
use Rattle.feed.specs.Counters.{counter_place}
use Rattle.feed.specs.declared.input.Counter.{Counter}
use Rattle.feed.specs.declared.input.Input.{Input}
use Rattle.feed.specs.declared.input.Input.TheVariants.{Count, Word, Interrupt}
use Rattle.feed.specs.declared.input.Sequence.TheVariants.{Pinc}
use Rattle.symbols.specs.Values.{SymbolTable}
use Rattle.cpu.specs.declared.instruction.Instruction.{Instruction}
use Rattle.cpu.specs.declared.instruction.Instruction.TheVariants.{Das, Dxch}
use Rattle.cpu.specs.declared.next_step.Fetched.{Fetched}
use Rattle.cpu.specs.declared.next_step.NextStep.{NextStep}
use Rattle.cpu.specs.declared.next_step.NextStep.TheVariants.{Takes, Enters, Executes}
use Rattle.cpu.specs.Asking.{interrupt_asked}
use Rattle.cpu.specs.Codes.{code_of}
use Rattle.cpu.specs.Effects.{place_in, value_at}
use Rattle.cpu.specs.Inputs.{carries_into}
use Rattle.cpu.specs.Next.{following_address}
use Rattle.cpu.specs.Operands.{address_of}
use Rattle.cpu.specs.State.{State}
use Rattle.trace.specs.TraceLines.{added_text, input_text, interrupt_name, near_name, operand_gap, place_name, symbol_at}
use Rattle.say.specs.declared.places.Places.{Places}
use Rattle.say.specs.declared.values.Values.{Values}

-- ## Places

abbrev pub no_places : Places
no_places = record { first = Erasable accumulator; second = Erasable accumulator; channel = 0 }

-- where an operand leads
abbrev pub first_place : State → Option ℕ → Linear
first_place s None = Erasable accumulator
first_place s (Some k) = place_in s k

-- the operand of two words is the second's address
abbrev pub second_address : Instruction → ℕ → ℕ
second_address Das word = word % 2 ^ 10
second_address Dxch word = word % 2 ^ 10
second_address _ word = word % 2 ^ 12

abbrev pub executed_places : State → Fetched → Places
executed_places s f =
    let code = code_of f.extra f.word in
    record {
      first = first_place s (address_of code);
      second = place_in s (second_address code.instruction f.word);
      channel = f.word
          % 2 ^ 9;
    }

-- of a counter: its place, and that of the counter into which its overflow is carried
abbrev pub counter_places : Counter → Option Counter → Places
counter_places counter None = record { first = Erasable (counter_place counter); second = Erasable (counter_place counter); channel = 0 }
counter_places counter (Some other) = record {
  first = Erasable (counter_place counter);
  second = Erasable (counter_place other);
  channel
      = 0;
}

abbrev pub input_places : Input → Places
input_places (Count counter sequence) = counter_places counter (carries_into counter)
input_places (Word n w) = record { first = Erasable accumulator; second = Erasable accumulator; channel = n }
input_places (Interrupt k) = no_places

abbrev pub places_of : State → NextStep → Places
places_of s (Takes input) = input_places input
places_of s (Enters k) = no_places
places_of s (Executes f) = executed_places s f

-- ## What stands there

abbrev pub is_z : Linear → Bool
is_z (Erasable p) = p == program_counter
is_z (Fixed bank offset) = false

-- what a step reads: Z has moved on when it is read, unless a word waited
abbrev pub read_at : Words → State → Linear → ℕ
read_at rope s place = if is_z place && not (is_some s.waiting_word) then following_address s else value_at rope s place

abbrev pub values_by : (Linear → ℕ) → State → Places → Values
values_by reading s p = record {
  a = get s.cells accumulator;
  l = get s.cells lower_accumulator;
  q = get s.cells return_address;
  first = reading p.first;
  second = reading p.second;
  channel = get_channel s.cells p.channel;
}

-- what a step finds, and what stands there after it
abbrev pub values_before : Words → State → Places → Values
values_before rope s p = values_by (read_at rope s) s p

abbrev pub values_after : Words → State → Places → Values
values_after rope s p = values_by (value_at rope s) s p

-- ## Names

-- an address and the sum that INDEX left make another address
abbrev pub leads : ℕ → ℕ → ℕ → Bool
leads k x to = if nat_lt x (2 ^ 15) then k + x == to else k == to + (2 ^ 16 - 1 - x)

-- an address by the symbol at another one and the sum of INDEX that makes it of that, as TABLE +2
abbrev pub indexed_by : SymbolTable → State → ℕ → ℕ → Option ℕ → Option (List ℕ)
indexed_by symbols s x to None = None
indexed_by symbols s x to (Some k) = if leads k x to then option_map (λ name. name ++ added_text (Some x))
    (symbol_at symbols (place_in s k)) else None

abbrev pub indexed : SymbolTable → Words → State → Fetched → Option ℕ → ℕ → Option (List ℕ)
indexed symbols rope s f None to = None
indexed symbols rope s f (Some x) to = indexed_by symbols s x to (address_of (code_of f.extra (correct (value_at rope s f.place))))

-- where an address leads: by its name, else by that of the word before INDEX, else by the symbol before it, else the address
abbrev pub named_address : SymbolTable → Words → State → Fetched → ℕ → List ℕ
named_address symbols rope s f k = unwrap_or (place_name symbols (place_in s k))
    (unwrap_or (indexed symbols rope s f f.added k) (unwrap_or (near_name operand_gap symbols (place_in s k)) (octal_text 4 k)))

abbrev pub operand_by : SymbolTable → Words → State → Fetched → Option ℕ → List ℕ
operand_by symbols rope s f None = []
operand_by symbols rope s f (Some k) = named_address symbols rope s f k

-- what a sentence calls an operand, a pulse, the pulse of the other counter that this gives, and an interrupt
pub record Called : Type 0 where
  pub operand : List ℕ
  pub other : List ℕ
  pub interrupt : List ℕ

abbrev pub other_pulse : Option Counter → List ℕ
other_pulse None = []
other_pulse (Some other) = input_text (Count other Pinc)

abbrev pub interrupt_called : Option ℕ → List ℕ
interrupt_called None = []
interrupt_called (Some k) = interrupt_name k

abbrev pub input_other : Input → List ℕ
input_other (Count counter sequence) = other_pulse (carries_into counter)
input_other (Word n w) = []
input_other (Interrupt k) = []

abbrev pub called : SymbolTable → Words → State → NextStep → Called
called symbols rope s (Takes input) = record {
  operand = input_text input;
  other = input_other input;
  interrupt = interrupt_called
      (interrupt_asked s input);
}
called symbols rope s (Enters k) = record { operand = []; other = []; interrupt = interrupt_name k }
called symbols rope s (Executes f) = record {
  operand = operand_by symbols rope s f (address_of (code_of f.extra f.word));
  other = [];
  interrupt = [];
}
