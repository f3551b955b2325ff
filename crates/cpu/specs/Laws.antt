-- What a step comes to.
use Rattle.std.specs.Prelude.{◌≡◌, ℕ, ◌+◌, ◌≤◌, Bool, true, false, Option, None, Some, length, not, ◌==◌, ◌||◌, is_some}
use Rattle.std.specs.FinSet as set
use Rattle.words.specs.Numbers.{extend, correct}
use Rattle.space.specs.Cells.{get_channel, lower_accumulator_channel, return_address_channel, superbank_channel}
use Rattle.feed.specs.declared.input.Input.{Input}
use Rattle.feed.specs.Merged.{due}
use Rattle.cpu.specs.State.{State, Scenario, FitsRun}
use Rattle.cpu.specs.Codes.{Code, code_of}
use Rattle.cpu.specs.Effects.{accumulator_of}
use Rattle.cpu.specs.Inputs.{input_cycles}
use Rattle.cpu.specs.Next.{instruction_word, entry, next}
use Rattle.cpu.specs.declared.instruction.Instruction.{Instruction}
use Rattle.cpu.specs.declared.instruction.Instruction.TheVariants.{Write, Wand, Wor}
use Rattle.cpu.specs.declared.output.Output.{Output}

-- a step takes an input: it is due
abbrev pub TakesInput : Scenario → State → Input × Option ℕ → Type 0
TakesInput scenario s given = due scenario.inputs s.taken s.cycles ≡ Some given

-- a step enters an interrupt: no input is due
pub record EntersInterrupt (scenario : Scenario) (s : State) (k : ℕ) : Type 0 where
  pub none_due : due scenario.inputs s.taken s.cycles ≡ None
  pub enters : entry s ≡ Some k

-- a step executes an instruction with its operand: no input is due, and no interrupt is entered
pub record ExecutesCode (scenario : Scenario) (s : State) (code : Code) : Type 0 where
  pub none_due : due scenario.inputs s.taken s.cycles ≡ None
  pub none_entered : entry s ≡ None
  pub executes : code_of s.extra (instruction_word scenario.rope s) ≡ code

-- a step takes no cycle back, and adds at most six: an input its own, which are one or none, an entry three, an instruction at least one
pub record AddsFewCycles (scenario : Scenario) (s : State) : Type 0 where
  pub none_back : s.cycles ≤ (next scenario s).0.cycles
  pub at_most_six : (next scenario s).0.cycles ≤ s.cycles + 6
  pub by_input : (given : Input × Option ℕ) → TakesInput scenario s given → (next scenario s).0.cycles ≡ s.cycles + input_cycles given.0
  pub by_entry : (k : ℕ) → EntersInterrupt scenario s k → (next scenario s).0.cycles ≡ s.cycles + 3
  pub by_code : (code : Code) → ExecutesCode scenario s code → s.cycles + 1 ≤ (next scenario s).0.cycles

-- a step takes the input that is due, and else none, and no more than there are
pub record TakesInTurn (scenario : Scenario) (s : State) : Type 0 where
  pub none_back : s.taken ≤ (next scenario s).0.taken
  pub at_most_one : (next scenario s).0.taken ≤ s.taken + 1
  pub within : FitsRun scenario s → (next scenario s).0.taken ≤ length scenario.inputs
  pub one : (given : Input × Option ℕ) → TakesInput scenario s given → (next scenario s).0.taken ≡ s.taken + 1
  pub none : due scenario.inputs s.taken s.cycles ≡ None → (next scenario s).0.taken ≡ s.taken

-- WRITE, WAND and WOR
abbrev pub writes_channel : Instruction → Bool
writes_channel Write = true
writes_channel Wand = true
writes_channel Wor = true
writes_channel _ = false

-- a channel that leads out: not L, not Q, and not the superbank's
abbrev pub leads_out : ℕ → Bool
leads_out n = not (n == lower_accumulator_channel || n == return_address_channel || n == superbank_channel)

-- What an instruction puts out that leads to a state: the word that A then holds, which is also what the channel holds, on the channel that
-- it names, at the cycles that have passed with it.
pub record IsPutOut (code : Code) (t : State) (o : Output) : Type 0 where
  pub writes : writes_channel code.instruction ≡ true
  pub channel : o.channel ≡ code.operand
  pub out : leads_out o.channel ≡ true
  pub cycles : o.cycles ≡ t.cycles
  pub word : o.word ≡ correct (accumulator_of t)
  pub held : get_channel t.cells o.channel ≡ extend o.word

-- A step puts out where it executes WRITE, WAND or WOR on a channel that leads out, and nowhere else: not where an input is taken or an
-- interrupt entered.
pub record PutsOutByWriting (scenario : Scenario) (s : State) : Type 0 where
  pub only : (o : Output) → (next scenario s).1 ≡ Some o
      → writes_channel (code_of s.extra (instruction_word scenario.rope s)).instruction ≡ true
  pub by_input : (given : Input × Option ℕ) → TakesInput scenario s given → (next scenario s).1 ≡ None
  pub by_entry : (k : ℕ) → EntersInterrupt scenario s k → (next scenario s).1 ≡ None
  pub by_code : (code : Code) → ExecutesCode scenario s code → (o : Output) → (next scenario s).1 ≡ Some o
      → IsPutOut code (next scenario s).0 o
  pub each : (code : Code) → ExecutesCode scenario s code → writes_channel code.instruction ≡ true → leads_out code.operand ≡ true
      → is_some (next scenario s).1 ≡ true

-- a step that takes no input asks for no interrupt
abbrev pub AsksNothing : Scenario → State → Type 0
AsksNothing scenario s =
    due scenario.inputs s.taken s.cycles ≡ None
    → (k : ℕ) → set.contains (next scenario s).0.requests k ≡ true → set.contains s.requests k ≡ true
