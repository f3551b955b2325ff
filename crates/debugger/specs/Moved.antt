-- The step that `why` tells as the INDEX that moved an operand.
use Rattle.std.specs.Prelude.{◌≡◌, ℕ, ◌+◌, ◌^◌, ◌<◌, true, Bool, Some, is_some, pos, ◌+ℤ◌, unsigned_abs}
use Rattle.words.specs.Numbers.{extend, value}
use Rattle.feed.specs.Merged.{due}
use Rattle.cpu.specs.State.{State, Scenario}
use Rattle.cpu.specs.Run.{run}
use Rattle.cpu.specs.Codes.{code_of}
use Rattle.cpu.specs.Next.{instruction_word, word_at_z}
use Rattle.cpu.specs.NextStep.{next_step}
use Rattle.cpu.specs.ByValue.{ExecutesIndex, reads_at}
use Rattle.debugger.specs.Whys.{added_by, last_executed}

-- an input is due
abbrev pub IsDue : Scenario → State → Type 0
IsDue scenario s = is_some (due scenario.inputs s.taken s.cycles) ≡ true

-- The step from the state after i steps is an INDEX that read a sum. The sum waited from then on until p steps, under the same extracode,
-- while inputs alone came.
pub record IsIndexBefore (scenario : Scenario) (p sum i : ℕ) : Type 0 where
  pub earlier : i < p
  pub place : ℕ
  pub executes : ExecutesIndex scenario (run scenario i) place
  pub reads : reads_at scenario (run scenario i) place ≡ sum
  pub inputs : (u : ℕ) → i < u → u < p → IsDue scenario (run scenario u)
  pub waits : (u : ℕ) → i < u → u < p + 1 → (run scenario u).waiting_sum ≡ Some sum
  pub extra : (run scenario p).extra ≡ (run scenario i).extra

-- A word with a number added to it has the sum of both values; where that is the same instruction, it has the sum of its own operand and
-- the number.
pub record IsMovedBy (extra : Bool) (own x moved : ℕ) : Type 0 where
  pub sum : value moved ≡ value own +ℤ value x
  pub operand : (code_of extra moved).instruction ≡ (code_of extra own).instruction
      → pos (code_of extra moved).operand ≡ pos (code_of extra own).operand +ℤ value x

-- the word at Z is moved by a number, where a word has the sum of the values
abbrev pub MovesWord : Scenario → State → ℕ → Type 0
MovesWord scenario s x =
    unsigned_abs (value (word_at_z scenario.rope s) +ℤ value x) < 2 ^ 14
    → IsMovedBy s.extra (word_at_z scenario.rope s) x (instruction_word scenario.rope s)

-- What `why` tells of an instruction to which a sum was added, as the step of the INDEX, is one, and it is that INDEX which moved it: by
-- the value where it read a word.
pub record TellsIndex (scenario : Scenario) (t sum : ℕ) : Type 0 where
  pub stands : is_some (last_executed scenario t) ≡ true
  pub index : (i : ℕ) → last_executed scenario t ≡ Some i → IsIndexBefore scenario t sum i
  pub moved : (x : ℕ) → x < 2 ^ 15 → sum ≡ extend x → MovesWord scenario (run scenario t) x

abbrev pub IndexIsTold : Scenario → (t sum : ℕ) → Type 0
IndexIsTold scenario t sum = added_by (next_step scenario (run scenario t)) ≡ Some sum → TellsIndex scenario t sum
