-- What the next step is, as it is told.
use Rattle.std.specs.Prelude.{ℕ, Option, Some, None, is_some}
use Rattle.rope.specs.Places.{Words}
use Rattle.feed.specs.declared.input.Input.{Input}
use Rattle.feed.specs.Merged.{due}
use Rattle.cpu.specs.State.{State, Scenario}
use Rattle.cpu.specs.Effects.{place_in, next_address}
use Rattle.cpu.specs.Next.{instruction_word, entry}
use Rattle.cpu.specs.declared.next_step.NextStep.{NextStep}
use Rattle.cpu.specs.declared.next_step.NextStep.TheVariants.{Takes, Enters, Executes}

-- an input that is taken; an interrupt that is entered; an instruction, with the place where Z leads, the word that is executed,
-- whether extracode is in force for it, whether it waited, and the sum that INDEX left for it
abbrev pub next_step_by : Words → State → Option (Input × Option ℕ) → Option ℕ → NextStep
next_step_by rope s (Some given) k = Takes given.0
next_step_by rope s None (Some k) = Enters k
next_step_by rope s None None =
    Executes
    (record {
      place = place_in s (next_address s);
      word = instruction_word rope s;
      extra = s.extra;
      waited = is_some s.waiting_word;
      added = s.waiting_sum;
    })

unfoldable pub next_step : Scenario → State → NextStep
next_step scenario s = next_step_by scenario.rope s (due scenario.inputs s.taken s.cycles) (entry s)
