-- How a run has come out after all its steps, beside another.
use Rattle.std.specs.Prelude.{ℕ, ◌==◌, not, Bool, List, Option, find}
use Rattle.std.specs.List.{range_with_len}
use Rattle.std.specs.Option.{option_map}
use Rattle.words.specs.Numbers.{correct}
use Rattle.space.specs.Cells.{Cells, get}
use Rattle.space.specs.declared.place.Linear.{Linear}
use Rattle.feed.specs.declared.entry.Plain.{Plain}
use Rattle.cpu.specs.Effects.{next_address, place_in}
use Rattle.cpu.specs.State.{Scenario, State}
use Rattle.whatif.specs.declared.finish.Difference.{Difference}
use Rattle.whatif.specs.declared.finish.Finish.{Finish}
use Rattle.whatif.specs.declared.sent.Sent.{Sent}
use Rattle.whatif.specs.Looked.{all_came, came}
use Rattle.whatif.specs.Outcomes.{Outcome, begun, see}

-- the place of the next instruction
abbrev pub next_place : State → Linear
next_place s = place_in s (next_address s)

-- erasable places behind the registers and the counters: the first, and how many
abbrev pub first_word : ℕ
first_word = 0o61

abbrev pub words_behind : ℕ
words_behind = 0o3717

abbrev pub differs_at : Cells → Cells → ℕ → Bool
differs_at without now p = not (get without p == get now p)

-- the first of these whose words differ, with the word that it has and the word that it has in the other run
abbrev pub difference : Cells → Cells → ℕ → Difference
difference without now p = record { place = p; word = correct (get now p); other = correct (get without p) }

unfoldable pub first_place : Cells → Cells → Option ℕ
first_place without now = find (differs_at without now) (range_with_len first_word words_behind)

abbrev pub first_difference : Cells → Cells → Option Difference
first_difference without now = option_map (difference without now) (first_place without now)

-- what has come of the words that were put out, the place of the next instruction, and the first erasable word that differs
abbrev pub finish_of : Cells → State → Outcome → Finish
finish_of without s a = record { answer = a; place = next_place s; difference = first_difference without s.cells }

-- after so many steps, of which those after some are looked at; and with each of some inputs alone
abbrev pub finish : List Sent → Cells → ℕ → Scenario → ℕ → Finish
finish base without from scenario steps = came (finish_of without) begun (see base) from scenario steps

abbrev pub finishes : List Sent → Cells → ℕ → Scenario → ℕ → List Plain → List (ℕ × Finish)
finishes base without from scenario steps trials = all_came (finish_of without) begun (see base) from scenario steps trials
