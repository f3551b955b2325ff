-- Eight steps of a small program, which adds five and five and sends the sum.
use Rattle.std.proofs.Common.{◌≡◌, ℕ, Bool, true, false, List, [], ◌∷◌, Some, None, replicate, ap, ◌∙◌, refl}
use Rattle.std.specs.FinSet as set
use Rattle.words.specs.Numbers.{correct}
use Rattle.rope.specs.Places.{Placed}
use Rattle.feed.specs.Merged.{due}
use Rattle.space.specs.Cells.{kept, put}
use Rattle.space.specs.Places.{place}
use Rattle.cpu.specs.declared.output.Output.{Output}
use Rattle.cpu.specs.Codes.{code_of, basic_rows, extracode_rows}
use Rattle.cpu.specs.State.{Scenario, start}
use Rattle.cpu.specs.Next.{next}
use Rattle.cpu.proofs.Holding.{put-holding, zero-holding, get_channel-holding}
use Rattle.cpu.proofs.Held.{Held, state, scenario, executes-word}
use Rattle.cpu.proofs.HeldSteps.{loads, adds, extends, writes, jumps_to}
use Rattle.cpu.proofs.HeldRuns.{Move, Goes}

abbrev word : ℕ → ℕ → Placed
word offset w = record { bank = 2; offset = offset; word = w }

-- CA FIVE; AD FIVE; EXTEND; WRITE 10; TCF 4000; FIVE OCT 5
abbrev pub five_words : List Placed
five_words = word 0 0o34005 ∷ word 1 0o64005 ∷ word 2 0o00006 ∷ word 3 0o01010 ∷ word 4 0o14000 ∷ word 5 0o00005 ∷ []

-- that program, with no inputs
abbrev pub five : Scenario
five = scenario five_words []

abbrev at : List (ℕ × ℕ) → Bool → ℕ → Held
at cells extra cycles = record { cells = cells; extra = extra; requests = set.empty; taken = 0; counts = replicate 16 0; cycles = cycles }

abbrev cells_0 : List (ℕ × ℕ)
cells_0 = (5, 0o4000) ∷ []

abbrev cells_1 : List (ℕ × ℕ)
cells_1 = (0, 5) ∷ (5, 0o4001) ∷ cells_0

abbrev cells_2 : List (ℕ × ℕ)
cells_2 = (0, 10) ∷ (5, 0o4002) ∷ cells_1

abbrev cells_3 : List (ℕ × ℕ)
cells_3 = (5, 0o4003) ∷ cells_2

abbrev cells_4 : List (ℕ × ℕ)
cells_4 = (0o4010, 10) ∷ (5, 0o4004) ∷ cells_3

abbrev cells_5 : List (ℕ × ℕ)
cells_5 = (5, 0o4000) ∷ (5, 0o4005) ∷ cells_4

abbrev cells_6 : List (ℕ × ℕ)
cells_6 = (0, 5) ∷ (5, 0o4001) ∷ cells_5

abbrev cells_7 : List (ℕ × ℕ)
cells_7 = (0, 10) ∷ (5, 0o4002) ∷ cells_6

abbrev cells_8 : List (ℕ × ℕ)
cells_8 = (5, 0o4003) ∷ cells_7

abbrev pub after_0 : Held
after_0 = at cells_0 false 0

abbrev after_1 : Held
after_1 = at cells_1 false 2

abbrev after_2 : Held
after_2 = at cells_2 false 4

abbrev after_3 : Held
after_3 = at cells_3 true 5

abbrev after_4 : Held
after_4 = at cells_4 false 7

abbrev after_5 : Held
after_5 = at cells_5 false 8

abbrev after_6 : Held
after_6 = at cells_6 false 10

abbrev after_7 : Held
after_7 = at cells_7 false 12

abbrev after_8 : Held
after_8 = at cells_8 true 13

abbrev pub ten : Output
ten = record { cycles = 7; channel = 8; word = 10 }

-- the output of a wide on channel 10
abbrev output : ℕ → Output
output w = record { cycles = 7; channel = 8; word = correct w }

pub start-held : start ≡ state after_0
unfolding start kept
start-held = ap (λ c. record (state after_0) { cells = c }) (ap (λ c. put c 5 0o4000) zero-holding ∙ put-holding [] 5 0o4000)

step_1 : next five (state after_0) ≡ (state after_1, None)
unfolding due code_of basic_rows extracode_rows place kept
step_1 = executes-word five_words [] after_0 refl ∙ loads five_words after_0 0o4005 2 5 refl

step_2 : next five (state after_1) ≡ (state after_2, None)
unfolding due code_of basic_rows extracode_rows place kept
step_2 = executes-word five_words [] after_1 refl ∙ adds five_words after_1 0o4005 2 5 refl

step_3 : next five (state after_2) ≡ (state after_3, None)
unfolding due code_of basic_rows extracode_rows place kept
step_3 = executes-word five_words [] after_2 refl ∙ extends five_words after_2

step_4 : next five (state after_3) ≡ (state after_4, Some ten)
unfolding due code_of basic_rows extracode_rows place kept
step_4 = executes-word five_words [] after_3 refl ∙ writes five_words after_3 8
    ∙ ap (λ w. (state after_4, Some (output w))) (get_channel-holding cells_4 8)

step_5 : next five (state after_4) ≡ (state after_5, None)
unfolding due code_of basic_rows extracode_rows place kept
step_5 = executes-word five_words [] after_4 refl ∙ jumps_to five_words after_4 0o4000

step_6 : next five (state after_5) ≡ (state after_6, None)
unfolding due code_of basic_rows extracode_rows place kept
step_6 = executes-word five_words [] after_5 refl ∙ loads five_words after_5 0o4005 2 5 refl

step_7 : next five (state after_6) ≡ (state after_7, None)
unfolding due code_of basic_rows extracode_rows place kept
step_7 = executes-word five_words [] after_6 refl ∙ adds five_words after_6 0o4005 2 5 refl

step_8 : next five (state after_7) ≡ (state after_8, None)
unfolding due code_of basic_rows extracode_rows place kept
step_8 = executes-word five_words [] after_7 refl ∙ extends five_words after_7

-- the first steps
abbrev pub moves : List Move
moves =
    (after_1, None) ∷ (after_2, None) ∷ (after_3, None) ∷ (after_4, Some ten) ∷ (after_5, None) ∷ (after_6, None) ∷ (after_7, None)
    ∷ (after_8, None) ∷ []

pub goes : Goes five after_0 moves
goes = (step_1, (step_2, (step_3, (step_4, (step_5, (step_6, (step_7, (step_8, tt))))))))
