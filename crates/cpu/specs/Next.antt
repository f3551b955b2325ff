-- One step of the computer.
use Rattle.std.specs.Prelude.{ℕ, ◌+◌, ◌*◌, ◌%◌, ◌^◌, Bool, true, false, Option, Some, None, if◌then◌else◌, ◌==◌, ◌||◌, unwrap_or, find}
use Rattle.std.specs.Prelude.{is_some}
use Rattle.std.specs.List.{range_with_len}
use Rattle.std.specs.Ordering.{nat_cmp}
use Rattle.std.specs.FinSet as set
use Rattle.words.specs.Numbers.{extend, correct, sum}
use Rattle.words.specs.Signs.{over}
use Rattle.space.specs.Cells.{Cells, put, get_channel, program_counter, lower_accumulator_channel, return_address_channel}
use Rattle.space.specs.Cells.{superbank_channel}
use Rattle.cpu.specs.declared.instruction.Instruction.{Instruction}
use Rattle.cpu.specs.declared.instruction.Role.{Role}
use Rattle.cpu.specs.declared.instruction.Role.TheVariants.{JumpsAtZero, JumpsAtZeroOrMinus, PutsOut, BeginsExtracode, KeepsExtracode}
use Rattle.cpu.specs.declared.output.Output.{Output}
use Rattle.cpu.specs.Codes.{Code, row_of, code_of}
use Rattle.rope.specs.Places.{Words}
use Rattle.feed.specs.declared.input.Input.{Input}
use Rattle.feed.specs.Merged.{due}
use Rattle.cpu.specs.State.{State, Scenario, first_address, interrupted_address, interrupted_word}
use Rattle.cpu.specs.Inputs.{take}
use Rattle.cpu.specs.Effects.{accumulator_of, next_address, operand, has_overflow, is_at_zero, is_at_zero_or_minus, after}

-- the address after Z
abbrev pub following_address : State → ℕ
following_address s = (next_address s + 1) % 0o10000

-- the word at Z
abbrev pub word_at_z : Words → State → ℕ
word_at_z rope s = correct (operand rope s (next_address s))

-- the sum that waits is added to the word
abbrev pub with_sum : Option ℕ → ℕ → ℕ
with_sum None w = w
with_sum (Some x) w = correct (sum (extend w) x)

-- the word that is executed: the one that waits or the one at Z, with the sum that waits
unfoldable pub instruction_word : Words → State → ℕ
instruction_word rope s = with_sum s.waiting_sum (unwrap_or s.waiting_word (word_at_z rope s))

-- the cells after the fetch: Z moves on, but stays where a word waits
abbrev pub fetched_cells : State → Option ℕ → Cells
fetched_cells s (Some w) = s.cells
fetched_cells s None = put s.cells program_counter (following_address s)

-- the state after the fetch; what waited is used up
unfoldable pub fetched : State → State
fetched s = record s { cells = fetched_cells s s.waiting_word; waiting_sum = None; waiting_word = None }

-- whether extracode is in force after an instruction of this role: after EXTEND, and still after INDEX
abbrev pub extra_by : Role → Bool → Bool
extra_by BeginsExtracode extra = true
extra_by KeepsExtracode extra = extra
extra_by _ extra = false

abbrev pub extra_after : Instruction → Bool → Bool
extra_after instruction extra = extra_by (row_of instruction).role extra

-- whether a word, under extracode or not, puts extracode in force for the word after it
abbrev pub extracode_after : Bool → ℕ → Bool
extracode_after extra word = extra_after (code_of extra word).instruction extra

-- the channel that an instruction of this role writes, where its operand is n
abbrev pub written_by : Role → ℕ → Option ℕ
written_by PutsOut n = Some n
written_by _ n = None

abbrev pub written_channel : Code → Option ℕ
written_channel code = written_by (row_of code.instruction).role code.operand

-- whether an instruction of this role jumps, for those that take fewer cycles then
abbrev pub jumps_by : State → Role → Bool
jumps_by s JumpsAtZero = is_at_zero s
jumps_by s JumpsAtZeroOrMinus = is_at_zero_or_minus s
jumps_by s _ = false

abbrev pub jumps : State → Instruction → Bool
jumps s instruction = jumps_by s (row_of instruction).role

-- the cycles of a branch that jumps
abbrev pub jump_cycles : ℕ
jump_cycles = 1

-- the cycles that an instruction takes in the state after its fetch
abbrev pub cycles_of : State → Instruction → ℕ
cycles_of s instruction = if jumps s instruction then jump_cycles else (row_of instruction).cycles

-- what is written on a channel goes out, but not where the channel is a register or the superbank's
abbrev pub output_on : State → Option ℕ → Option Output
output_on s None = None
output_on s (Some n) =
    if n == lower_accumulator_channel || n == return_address_channel || n == superbank_channel then None
    else Some (record { cycles = s.cycles; channel = n; word = correct (get_channel s.cells n) })

-- the state after an instruction is executed in the state after its fetch
unfoldable pub executed : Words → State → Code → State
executed rope s code =
    record (after rope s code.instruction code.operand) {
      extra = extra_after code.instruction s.extra;
      cycles = s.cycles + cycles_of s code.instruction;
    }

-- an instruction is executed, and may give an output
abbrev pub execute_code : Words → State → Code → State × Option Output
execute_code rope s code = let t = executed rope (fetched s) code in (t, output_on t (written_channel code))

unfoldable pub execute : Words → State → State × Option Output
execute rope s = execute_code rope s (code_of s.extra (instruction_word rope s))

-- the least of the ten interrupts that is asked for
abbrev pub least_request : set.FinSet nat_cmp → Option ℕ
least_request requests = find (λ k. set.contains requests k) (range_with_len 1 10)

-- the interrupt that is entered now: none while interrupts are inhibited or one is served, under extracode, while a sum or
-- a word waits, or while A overflows
unfoldable pub entry : State → Option ℕ
entry s =
    if s.inhibit || s.inside || s.extra || is_some s.waiting_sum || is_some s.waiting_word
    || has_overflow (over (accumulator_of s))
    then None else least_request s.requests

-- interrupt k is entered, at the fourth word after that of interrupt k - 1
unfoldable pub entered : Words → State → ℕ → State
entered rope s k =
    record s {
      cells =
          put (put (put s.cells interrupted_word (extend (word_at_z rope s))) interrupted_address (following_address s))
          program_counter (first_address + 4 * k);
      inside = true;
      requests = set.remove s.requests k;
      cycles = s.cycles + 3;
    }

-- a step: an input that is due is taken, else an interrupt is entered, else an instruction is executed
abbrev pub next_by : Words → State → Option (Input × Option ℕ) → Option ℕ → State × Option Output
next_by rope s (Some input) k = (take s input, None)
next_by rope s None (Some k) = (entered rope s k, None)
next_by rope s None None = execute rope s

-- the cycles up to which a step is promised; 2^40 steps from the start don't pass them
abbrev pub most_cycles : ℕ
most_cycles = 2 ^ 62

-- one step: the first input that was not taken yet is due where its cycle has come
unfoldable pub next : Scenario → State → State × Option Output
next scenario s = next_by scenario.rope s (due scenario.inputs s.taken s.cycles) (entry s)
