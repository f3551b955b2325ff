-- The reference run, step by step.
use Rattle.std.proofs.Common.{◌≡◌, ◌≤◌, ◌+◌, ◌*◌, ◌++◌, ℕ, zero, suc, [], Bool, true, false, cond, Option, Some, None, refl, arith, add-one}
use Rattle.std.proofs.Common.{◌∙◌, inl, inr, ◌⊎◌}
use Rattle.std.specs.Option.{option_to_list}
use Rattle.words.specs.declared.counters.Carry.{Carry}
use Rattle.words.specs.declared.counters.Carry.TheVariants.{No, Plus, Minus, ShiftedOut}
use Rattle.rope.specs.Places.{Words}
use Rattle.feed.specs.declared.input.Counter.{Counter}
use Rattle.feed.specs.declared.input.Input.{Input}
use Rattle.feed.specs.declared.input.Input.TheVariants.{Count, Word, Interrupt}
use Rattle.feed.specs.Merged.{due}
use Rattle.feed.specs.CountsTaken as from
use Rattle.cpu.specs.State.{State, Scenario, start}
use Rattle.cpu.specs.declared.instruction.Instruction.{Instruction}
use Rattle.cpu.specs.Codes.{row_of, code_of}
use Rattle.cpu.specs.Next.{fetched, jumps, jump_cycles, executed, execute, instruction_word, entry, entered, next_by, next}
use Rattle.cpu.specs.Inputs.{take, input_effect, input_cycles, counted, received, asked, asked_after, asked_on, carried, carries_into}
use Rattle.cpu.specs.Inputs.{stepped, step_of, count_of}
use Rattle.cpu.specs.Run.{run, out, outs}

pub run-zero : (scenario : Scenario) → run scenario 0 ≡ start
unfolding run
run-zero scenario = refl

pub run-add-one : (scenario : Scenario) (n : ℕ) → run scenario (n + 1) ≡ (next scenario (run scenario n)).0
unfolding run
run-add-one scenario n = rw add-one refl

pub out-add-one : (scenario : Scenario) (n : ℕ) → out scenario (n + 1) ≡ (next scenario (run scenario n)).1
unfolding out
out-add-one scenario n = rw add-one refl

pub outs-zero : (scenario : Scenario) → outs scenario 0 ≡ []
unfolding outs
outs-zero scenario = refl

pub outs-add-one : (scenario : Scenario) (n : ℕ) → outs scenario (n + 1) ≡ outs scenario n ++ option_to_list (out scenario (n + 1))
unfolding outs
outs-add-one scenario n = rw add-one refl

-- no instruction takes more than six cycles
few-row : (instruction : Instruction) → (row_of instruction).cycles ≤ 6
few-row instruction = search (arith)

cycles-either : (b : Bool) (m n : ℕ) → m ≤ 6 → n ≤ 6 → cond b m n ≤ 6
cycles-either true m n p q = p
cycles-either false m n p q = q

cycles-execute : (rope : Words) (s : State) → (execute rope s).0.cycles ≤ s.cycles + 6
unfolding execute executed fetched
cycles-execute rope s =
    let code = code_of s.extra (instruction_word rope s) in
    let few = few-row code.instruction in
    let most = cycles-either (jumps (fetched s) code.instruction) jump_cycles (row_of code.instruction).cycles (omega arith) few in
    omega (arith, most)

cycles-asked : (s : State) (o : Option ℕ) → (asked s o).cycles ≡ s.cycles
cycles-asked s None = refl
cycles-asked s (Some k) = refl

cycles-carried : (s : State) (o : Option Counter) (carry : Carry) → (carried s o carry).cycles ≡ s.cycles
cycles-carried s None carry = refl
cycles-carried s (Some counter) No = refl
cycles-carried s (Some counter) Plus = refl
cycles-carried s (Some counter) Minus = refl
cycles-carried s (Some counter) ShiftedOut = refl

-- the effect of an input is none on cycles
pub cycles-effect : (s : State) (input : Input) → (input_effect s input).cycles ≡ s.cycles
unfolding counted received
cycles-effect s (Count counter sequence) =
    let step = step_of sequence (count_of s counter) in
    cycles-asked _ (asked_after counter step) ∙ cycles-carried (stepped s counter step) (carries_into counter) step.carry
cycles-effect s (Word n w) = cycles-asked _ (asked_on n)
cycles-effect s (Interrupt k) = refl

few-input : (input : Input) → input_cycles input ≤ 6
few-input (Count counter sequence) = omega arith
few-input (Word n w) = omega arith
few-input (Interrupt k) = omega arith

-- a state in which an input is counted, and its cycles have passed
abbrev pub counted_in : State → Input × Option ℕ → State
counted_in s given = record s { taken = s.taken + 1; counts = from.counts_after s.counts given.1; cycles = s.cycles + input_cycles given.0 }

cycles-take : (s : State) (given : Input × Option ℕ) → (take s given).cycles ≤ s.cycles + 6
unfolding take
cycles-take s given =
    let e = cycles-effect (counted_in s given) given.0 in
    let few = few-input given.0 in
    omega (arith, e, few)

cycles-next_by : (rope : Words) (s : State) (i : Option (Input × Option ℕ)) (o : Option ℕ) → (next_by rope s i o).0.cycles ≤ s.cycles + 6
unfolding entered
cycles-next_by rope s (Some given) o = cycles-take s given
cycles-next_by rope s None (Some k) = omega arith
cycles-next_by rope s None None = cycles-execute rope s

-- a step takes at most six cycles
pub cycles-next : (scenario : Scenario) (s : State) → (next scenario s).0.cycles ≤ s.cycles + 6
unfolding next
cycles-next scenario s = cycles-next_by scenario.rope s (due scenario.inputs s.taken s.cycles) (entry s)

-- n steps take at most 6n cycles
pub cycles-run : (scenario : Scenario) (n : ℕ) → (run scenario n).cycles ≤ 6 * n
unfolding run start
cycles-run scenario zero = omega arith
cycles-run scenario (suc n) = omega (arith, cycles-next scenario (run scenario n), cycles-run scenario n)

-- a step never takes cycles back
rise-execute : (rope : Words) (s : State) → s.cycles ≤ (execute rope s).0.cycles
unfolding execute executed fetched
rise-execute rope s = omega arith

pub rise-take : (s : State) (given : Input × Option ℕ) → s.cycles ≤ (take s given).cycles
unfolding take
rise-take s given =
    let e = cycles-effect (counted_in s given) given.0 in
    omega (arith, e)

pub rise-next_by : (rope : Words) (s : State) (i : Option (Input × Option ℕ)) (o : Option ℕ) → s.cycles ≤ (next_by rope s i o).0.cycles
unfolding entered
rise-next_by rope s (Some given) o = rise-take s given
rise-next_by rope s None (Some k) = omega arith
rise-next_by rope s None None = rise-execute rope s

pub rise-next : (scenario : Scenario) (s : State) → s.cycles ≤ (next scenario s).0.cycles
unfolding next
rise-next scenario s = rise-next_by scenario.rope s (due scenario.inputs s.taken s.cycles) (entry s)

-- the cycles of earlier states are no more than those of later ones
pub rise-run : (scenario : Scenario) (t n : ℕ) → t ≤ n → (run scenario t).cycles ≤ (run scenario n).cycles
unfolding run
rise-run scenario t zero h = let same : t ≡ 0 = omega arith in rw same (omega arith)
rise-run scenario t (suc n) h = elim (earlier_or_same t n h) [
  | inl less ↦ omega (arith, rise-run scenario t n less, rise-next scenario (run scenario n))
  | inr same ↦ rw same (omega arith)
]
  where
    earlier_or_same : (t n : ℕ) → t ≤ suc n → (t ≤ n) ⊎ (t ≡ suc n)
    earlier_or_same t n h = grind arith
