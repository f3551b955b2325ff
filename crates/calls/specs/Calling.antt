-- What a step does that enters a routine.
use Rattle.std.specs.Prelude.{◌≡◌, ◌<◌, ◌↔◌, ℕ, ◌+◌, ◌%◌, true, false, Some, codes}
use Rattle.agc_text.specs.Tables.{same_name}
use Rattle.space.specs.Places.{same_place}
use Rattle.space.specs.declared.place.Linear.{Linear}
use Rattle.cpu.specs.Codes.{code_of, row_of}
use Rattle.cpu.specs.State.{State, Scenario}
use Rattle.cpu.specs.Effects.{next_address, place_in}
use Rattle.cpu.specs.Laws.{ExecutesCode}
use Rattle.cpu.specs.Next.{instruction_word}
use Rattle.calls.specs.Calls.{is_fixed, enters}
use Rattle.calls.specs.Waiting.{standing_address}

-- the word that the next instruction is, and the place to which its low 12 bits lead, the operand of TC
abbrev pub word_executed : Scenario → State → ℕ
word_executed scenario s = instruction_word scenario.rope s

abbrev pub place_led_to : Scenario → State → Linear
place_led_to scenario s = place_in s (word_executed scenario s % 0o10000)

-- The next step executes TC, which stands at an address of fixed memory and leads to another place there; the routine returns to the place
-- of the address after that at which TC stands.
pub record Calls (scenario : Scenario) (s : State) (back : Linear) : Type 0 where
  pub executes : ExecutesCode scenario s (code_of s.extra (word_executed scenario s))
  pub tc : same_name (row_of (code_of s.extra (word_executed scenario s)).instruction).name (codes "TC") ≡ true
  pub from : is_fixed (place_in s (standing_address s)) ≡ true
  pub to : is_fixed (place_led_to scenario s) ≡ true
  pub away : same_place (place_led_to scenario s) (place_in s (standing_address s)) ≡ false
  pub returns : back ≡ place_in s ((standing_address s + 1) % 0o10000)

-- From a state whose Z is an address a step enters a routine, as it is told, exactly where it does so.
abbrev pub EntersByCalling : Scenario → State → Type 0
EntersByCalling scenario s = next_address s < 0o10000 → (back : Linear) → (enters scenario s ≡ Some back) ↔ Calls scenario s back
