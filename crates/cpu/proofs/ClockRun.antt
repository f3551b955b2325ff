-- A loop of one jump, over a clock that counts and a key, and over one pulse more.
use Rattle.std.proofs.Common.{◌≡◌, ℕ, false, List, [], ◌∷◌, Some, None, replicate, ap, refl, ◌∙◌}
use Rattle.std.specs.Ordering.{nat_cmp}
use Rattle.std.specs.FinSet as set
use Rattle.rope.specs.Places.{Placed}
use Rattle.feed.specs.Added.{plain_on}
use Rattle.feed.specs.Merged.{due}
use Rattle.feed.specs.declared.entry.Entry.{Entry}
use Rattle.feed.specs.declared.input.Counter.TheVariants.{Time1}
use Rattle.feed.specs.declared.input.Sequence.TheVariants.{Pinc}
use Rattle.feed.specs.declared.input.Input.TheVariants.{Count, Word}
use Rattle.space.specs.Cells.{kept, put}
use Rattle.space.specs.Places.{place}
use Rattle.cpu.specs.Codes.{code_of, basic_rows}
use Rattle.cpu.specs.State.{Scenario, start}
use Rattle.cpu.specs.Next.{next}
use Rattle.cpu.proofs.Holding.{put-holding, zero-holding}
use Rattle.cpu.proofs.Held.{Held, state, scenario, executes-word, takes-input}
use Rattle.cpu.proofs.HeldSteps.{jumps_to, counts, receives}
use Rattle.cpu.proofs.HeldRuns.{Move, Goes}

-- TCF 4000
abbrev pub loop_words : List Placed
loop_words = record { bank = 2; offset = 0; word = 0o14000 } ∷ []

-- entry `number` of the clock, a series on line 1
abbrev pub pulse : ℕ → ℕ → Entry
pulse number cycle = record { cycle = cycle; line = 1; number = number; input = Count Time1 Pinc; series = Some 0 }

-- a clock and a key, and then more
abbrev pub clock : List Entry → List Entry
clock more = pulse 0 3 ∷ pulse 1 5 ∷ plain_on 2 5 (Word 0o15 0o21) ∷ pulse 2 8 ∷ pulse 3 10 ∷ more

-- a pulse that was added
abbrev pub added : Entry
added = plain_on 3 12 (Count Time1 Pinc)

abbrev pub loop : List Entry → Scenario
loop more = scenario loop_words (clock more)

abbrev at : List (ℕ × ℕ) → set.FinSet nat_cmp → ℕ → ℕ → ℕ → Held
at cells requests taken pulses cycles =
    record { cells = cells; extra = false; requests = requests; taken = taken; counts = pulses ∷ replicate 15 0; cycles = cycles }

abbrev asks_none : set.FinSet nat_cmp
asks_none = set.empty

abbrev asks_key : set.FinSet nat_cmp
asks_key = set.insert set.empty 5

abbrev cells_0 : List (ℕ × ℕ)
cells_0 = (5, 0o4000) ∷ []

abbrev cells_1 : List (ℕ × ℕ)
cells_1 = (5, 0o4000) ∷ (5, 0o4001) ∷ cells_0

abbrev cells_2 : List (ℕ × ℕ)
cells_2 = (5, 0o4000) ∷ (5, 0o4001) ∷ cells_1

abbrev cells_3 : List (ℕ × ℕ)
cells_3 = (5, 0o4000) ∷ (5, 0o4001) ∷ cells_2

abbrev cells_4 : List (ℕ × ℕ)
cells_4 = (0o25, 1) ∷ cells_3

abbrev cells_5 : List (ℕ × ℕ)
cells_5 = (5, 0o4000) ∷ (5, 0o4001) ∷ cells_4

abbrev cells_6 : List (ℕ × ℕ)
cells_6 = (0o25, 2) ∷ cells_5

abbrev cells_7 : List (ℕ × ℕ)
cells_7 = (0o4015, 0o21) ∷ cells_6

abbrev cells_8 : List (ℕ × ℕ)
cells_8 = (5, 0o4000) ∷ (5, 0o4001) ∷ cells_7

abbrev cells_9 : List (ℕ × ℕ)
cells_9 = (5, 0o4000) ∷ (5, 0o4001) ∷ cells_8

abbrev cells_10 : List (ℕ × ℕ)
cells_10 = (0o25, 3) ∷ cells_9

abbrev cells_11 : List (ℕ × ℕ)
cells_11 = (5, 0o4000) ∷ (5, 0o4001) ∷ cells_10

abbrev cells_12 : List (ℕ × ℕ)
cells_12 = (0o25, 4) ∷ cells_11

abbrev cells_13 : List (ℕ × ℕ)
cells_13 = (5, 0o4000) ∷ (5, 0o4001) ∷ cells_12

abbrev cells_14 : List (ℕ × ℕ)
cells_14 = (0o25, 5) ∷ cells_13

abbrev pub after_0 : Held
after_0 = at cells_0 asks_none 0 0 0

abbrev after_1 : Held
after_1 = at cells_1 asks_none 0 0 1

abbrev after_2 : Held
after_2 = at cells_2 asks_none 0 0 2

abbrev after_3 : Held
after_3 = at cells_3 asks_none 0 0 3

abbrev after_4 : Held
after_4 = at cells_4 asks_none 1 1 4

abbrev after_5 : Held
after_5 = at cells_5 asks_none 1 1 5

abbrev after_6 : Held
after_6 = at cells_6 asks_none 2 2 6

abbrev after_7 : Held
after_7 = at cells_7 asks_key 3 2 6

abbrev after_8 : Held
after_8 = at cells_8 asks_key 3 2 7

abbrev after_9 : Held
after_9 = at cells_9 asks_key 3 2 8

abbrev after_10 : Held
after_10 = at cells_10 asks_key 4 3 9

abbrev after_11 : Held
after_11 = at cells_11 asks_key 4 3 10

abbrev after_12 : Held
after_12 = at cells_12 asks_key 5 4 11

abbrev after_13 : Held
after_13 = at cells_13 asks_key 5 4 12

abbrev after_14 : Held
after_14 = at cells_14 asks_key 6 4 13

pub start-held : start ≡ state after_0
unfolding start kept
start-held = ap (λ c. record (state after_0) { cells = c }) (ap (λ c. put c 5 0o4000) zero-holding ∙ put-holding [] 5 0o4000)

step_1 : (more : List Entry) → next (loop more) (state after_0) ≡ (state after_1, None)
unfolding due code_of basic_rows place kept
step_1 more = executes-word loop_words (clock more) after_0 refl ∙ jumps_to loop_words after_0 0o4000

step_2 : (more : List Entry) → next (loop more) (state after_1) ≡ (state after_2, None)
unfolding due code_of basic_rows place kept
step_2 more = executes-word loop_words (clock more) after_1 refl ∙ jumps_to loop_words after_1 0o4000

step_3 : (more : List Entry) → next (loop more) (state after_2) ≡ (state after_3, None)
unfolding due code_of basic_rows place kept
step_3 more = executes-word loop_words (clock more) after_2 refl ∙ jumps_to loop_words after_2 0o4000

step_4 : (more : List Entry) → next (loop more) (state after_3) ≡ (state after_4, None)
unfolding due code_of basic_rows place kept
step_4 more = takes-input loop_words (clock more) after_3 (Count Time1 Pinc, Some 0) refl
    ∙ ap (λ s. (s, None)) (counts after_3 (Some 0) 1 refl)

step_5 : (more : List Entry) → next (loop more) (state after_4) ≡ (state after_5, None)
unfolding due code_of basic_rows place kept
step_5 more = executes-word loop_words (clock more) after_4 refl ∙ jumps_to loop_words after_4 0o4000

step_6 : (more : List Entry) → next (loop more) (state after_5) ≡ (state after_6, None)
unfolding due code_of basic_rows place kept
step_6 more = takes-input loop_words (clock more) after_5 (Count Time1 Pinc, Some 0) refl
    ∙ ap (λ s. (s, None)) (counts after_5 (Some 0) 2 refl)

step_7 : (more : List Entry) → next (loop more) (state after_6) ≡ (state after_7, None)
unfolding due code_of basic_rows place kept
step_7 more = takes-input loop_words (clock more) after_6 (Word 0o15 0o21, None) refl ∙ ap (λ s. (s, None)) (receives after_6 0o21)

step_8 : (more : List Entry) → next (loop more) (state after_7) ≡ (state after_8, None)
unfolding due code_of basic_rows place kept
step_8 more = executes-word loop_words (clock more) after_7 refl ∙ jumps_to loop_words after_7 0o4000

step_9 : (more : List Entry) → next (loop more) (state after_8) ≡ (state after_9, None)
unfolding due code_of basic_rows place kept
step_9 more = executes-word loop_words (clock more) after_8 refl ∙ jumps_to loop_words after_8 0o4000

step_10 : (more : List Entry) → next (loop more) (state after_9) ≡ (state after_10, None)
unfolding due code_of basic_rows place kept
step_10 more = takes-input loop_words (clock more) after_9 (Count Time1 Pinc, Some 0) refl
    ∙ ap (λ s. (s, None)) (counts after_9 (Some 0) 3 refl)

step_11 : (more : List Entry) → next (loop more) (state after_10) ≡ (state after_11, None)
unfolding due code_of basic_rows place kept
step_11 more = executes-word loop_words (clock more) after_10 refl ∙ jumps_to loop_words after_10 0o4000

step_12 : (more : List Entry) → next (loop more) (state after_11) ≡ (state after_12, None)
unfolding due code_of basic_rows place kept
step_12 more = takes-input loop_words (clock more) after_11 (Count Time1 Pinc, Some 0) refl
    ∙ ap (λ s. (s, None)) (counts after_11 (Some 0) 4 refl)

step_13 : next (loop (added ∷ [])) (state after_12) ≡ (state after_13, None)
unfolding due code_of basic_rows place kept
step_13 = executes-word loop_words (clock (added ∷ [])) after_12 refl ∙ jumps_to loop_words after_12 0o4000

step_14 : next (loop (added ∷ [])) (state after_13) ≡ (state after_14, None)
unfolding due code_of basic_rows place kept
step_14 = takes-input loop_words (clock (added ∷ [])) after_13 (Count Time1 Pinc, None) refl
    ∙ ap (λ s. (s, None)) (counts after_13 None 5 refl)

-- the first twelve steps, and two more over the pulse that was added
abbrev pub twelve_and : List Move → List Move
twelve_and more =
    (after_1, None) ∷ (after_2, None) ∷ (after_3, None) ∷ (after_4, None) ∷ (after_5, None) ∷ (after_6, None) ∷ (after_7, None)
    ∷ (after_8, None) ∷ (after_9, None) ∷ (after_10, None) ∷ (after_11, None) ∷ (after_12, None) ∷ more

pub goes_on : (inputs : List Entry) (more : List Move) → Goes (loop inputs) after_12 more → Goes (loop inputs) after_0 (twelve_and more)
goes_on inputs more g = (
  step_1 inputs,
  (
    step_2 inputs,
    (
      step_3 inputs,
      (
        step_4 inputs,
        (
          step_5 inputs,
          (step_6 inputs, (step_7 inputs, (step_8 inputs, (step_9 inputs, (step_10 inputs, (step_11 inputs, (step_12 inputs, g))))))),
        ),
      ),
    ),
  ),
)

abbrev pub two : List Move
two = (after_13, None) ∷ (after_14, None) ∷ []

pub goes-twelve : Goes (loop []) after_0 (twelve_and [])
goes-twelve = goes_on [] [] tt

pub goes-fourteen : Goes (loop (added ∷ [])) after_0 (twelve_and two)
goes-fourteen = goes_on (added ∷ []) two (step_13, (step_14, tt))
