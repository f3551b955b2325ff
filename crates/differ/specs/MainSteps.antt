-- The first step outside of interrupts that two runs do not have in common.
use Rattle.std.specs.Prelude.{ℕ, zero, suc, ◌+◌, ◌-◌, ◌*◌, ◌==◌, ◌&&◌, ◌||◌, not, Bool, true, false, List, [], ◌∷◌, ◌++◌, take, slice_get}
use Rattle.std.specs.Prelude.{Option, None, Some, if◌then◌else◌}
use Rattle.std.specs.Cmp.Lexicographic.{pointwise}
use Rattle.std.specs.List.{flat_map}
use Rattle.space.specs.Cells.{Cells, program_counter}
use Rattle.space.specs.Places.{same_place}
use Rattle.space.specs.declared.place.Linear.{Linear}
use Rattle.cpu.specs.declared.next_step.Fetched.{Fetched}
use Rattle.cpu.specs.declared.next_step.NextStep.{NextStep}
use Rattle.cpu.specs.declared.next_step.NextStep.TheVariants.{Takes, Enters, Executes}
use Rattle.cpu.specs.Links.{link, targets}
use Rattle.cpu.specs.Next.{next}
use Rattle.cpu.specs.NextStep.{next_step}
use Rattle.cpu.specs.Run.{run}
use Rattle.cpu.specs.State.{State, Scenario}
use Rattle.differ.specs.declared.written.Written.{Written}
use Rattle.differ.specs.declared.turn.Turn.{Turn}
use Rattle.differ.specs.declared.turn.Turn.TheVariants.{Ended, Moves, Parts}
use Rattle.differ.specs.States.{reading}

-- a step outside of interrupts: its number, its place, whether its word waited, the word, whether extracode was in force, and what it
-- has written
pub record MainStep : Type 0 where
  pub step : ℕ
  pub place : Linear
  pub waited : Bool
  pub word : ℕ
  pub extra : Bool
  pub written : List Written

-- a cell that was written, with what is read there then; Z is told by the place of the next step
abbrev pub written_at : Cells → ℕ → List Written
written_at cells c = if c == program_counter then [] else record { cell = c; word = reading cells c } ∷ []

abbrev pub written_by : Cells → List ℕ → List Written
written_by cells cs = flat_map (written_at cells) cs

-- the step that follows the state after n steps, where it is outside of interrupts: no input, no entry, no step up to RESUME with it
abbrev pub main_step : ℕ → Fetched → List Written → MainStep
main_step step f written = record { step = step; place = f.place; waited = f.waited; word = f.word; extra = f.extra; written = written }

abbrev pub main_by : ℕ → Bool → NextStep → List Written → List MainStep
main_by step inside (Takes input) written = []
main_by step inside (Enters k) written = []
main_by step inside (Executes f) written = if inside then [] else main_step step f written ∷ []

unfoldable pub main_after : ℕ → Scenario → State → List MainStep
main_after step scenario s = main_by step s.inside (next_step scenario s) (written_by (next scenario s).0.cells (targets (link scenario s)))

-- those of k steps that follow the first n
unfoldable pub mains : Scenario → ℕ → ℕ → List MainStep
mains scenario n zero = []
mains scenario n (suc k) = main_after (n + 1) scenario (run scenario n) ++ mains scenario (n + 1) k

-- ## Two steps are the same
abbrev pub same_flag : Bool → Bool → Bool
same_flag true b = b
same_flag false b = not b

abbrev pub is_equal : Written → Written → Bool
is_equal a b = a.cell == b.cell && a.word == b.word

abbrev pub same_written : List Written → List Written → Bool
same_written = pointwise is_equal

-- a word that waited, as RESUME leaves it, is taken for one at its place
abbrev pub same_step : MainStep → MainStep → Bool
same_step a b =
    (a.word == b.word && same_flag a.extra b.extra)
    && ((a.waited || (b.waited || same_place a.place b.place)) && same_written a.written b.written)

-- ## Rounds of waiting
-- the four steps before, the last one first, and the steps that follow
pub record Side : Type 0 where
  pub before : List MainStep
  pub rest : List MainStep

abbrev pub most_before : ℕ
most_before = 4

-- a step on
abbrev pub on_by : List MainStep → List MainStep → Side
on_by before [] = record { before = before; rest = [] }
on_by before (x ∷ more) = record { before = take most_before (x ∷ before); rest = more }

abbrev pub on : Side → Side
on s = on_by s.before s.rest

-- n steps on
abbrev pub moved : ℕ → Side → Side
moved zero s = s
moved (suc n) s = moved n (on s)

-- step q of those that follow is the one n steps before it
abbrev pub same_found : Option MainStep → Option MainStep → Bool
same_found None x = false
same_found (Some a) None = false
same_found (Some a) (Some b) = same_step a b

abbrev pub is_again : List MainStep → List MainStep → ℕ → ℕ → Bool
is_again before ahead n q = same_found (slice_get before (n - 1 - q)) (slice_get ahead q)

abbrev pub are_again : List MainStep → List MainStep → ℕ → ℕ → Bool
are_again before ahead n zero = true
are_again before ahead n (suc q) = are_again before ahead n q && is_again before ahead n q

-- the n steps that follow are the n before them
unfoldable pub repeats : List MainStep → List MainStep → ℕ → Bool
repeats before ahead n = are_again before ahead n n

-- of how many steps is the round that follows, up to four; 0 where none does
unfoldable pub round : List MainStep → List MainStep → ℕ
round before ahead =
    if repeats before ahead 1 then 1
    else (if repeats before ahead 2 then 2
    else (if repeats before ahead 3 then 3
    else (if repeats before ahead 4 then 4
    else 0)))

-- ## What comes next
-- steps that are not the same: a round that one run has alone is passed over; else the runs part
abbrev pub parting : ℕ → ℕ → ℕ → ℕ → Turn
parting a b zero zero = Parts a b
parting a b zero (suc m) = Moves 0 (suc m)
parting a b (suc n) zero = Moves (suc n) 0
parting a b (suc n) (suc m) = Parts a b

abbrev pub turn_by : List MainStep → List MainStep → List MainStep → List MainStep → Turn
turn_by before [] past there = Ended
turn_by before (a ∷ more) past [] = Ended
turn_by before (a ∷ more) past (b ∷ others) =
    if same_step a b then Moves 1 1 else parting a.step b.step (round before (a ∷ more)) (round past (b ∷ others))

-- by the four steps that follow
unfoldable pub turn : Side → Side → Turn
turn s t = turn_by s.before (take most_before s.rest) t.before (take most_before t.rest)

-- the first steps that are not the same, found in so many turns
abbrev pub parts_by : (Side → Side → Option (ℕ × ℕ)) → Side → Side → Turn → Option (ℕ × ℕ)
parts_by later s t Ended = None
parts_by later s t (Moves n m) = later (moved n s) (moved m t)
parts_by later s t (Parts a b) = Some (a, b)

unfoldable pub parts : ℕ → Side → Side → Option (ℕ × ℕ)
parts zero s t = None
parts (suc k) s t = parts_by (parts k) s t (turn s t)

abbrev pub side_from : Scenario → ℕ → Side
side_from scenario n = record { before = []; rest = mains scenario 0 n }

-- of the first n steps of two runs. Each turn passes a step of one of them at least
abbrev pub first_step : Scenario → Scenario → ℕ → Option (ℕ × ℕ)
first_step one other n = parts (2 * n) (side_from one n) (side_from other n)
