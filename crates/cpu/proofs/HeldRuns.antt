-- Runs of states whose cells are held by lists.
use Rattle.std.proofs.Common.{◌≡◌, ℕ, suc, List, [], ◌∷◌, ◌++◌, map, Option, None, ap, refl, ◌∙◌}
use Rattle.std.specs.Option.{option_to_list}
use Rattle.cpu.specs.declared.output.Output.{Output}
use Rattle.cpu.specs.State.{State, Scenario, start}
use Rattle.cpu.specs.Next.{next}
use Rattle.cpu.specs.Run.{run, out, outs}
use Rattle.cpu.proofs.Held.{Held, state}

-- a state, and the output of the step to it
abbrev pub Move : Type 0
Move = Held × Option Output

-- each state follows the one before by a step
abbrev pub Goes : Scenario → Held → List Move → Type 0
Goes sc h [] = Unit {0}
Goes sc h (m ∷ more) = (next sc (state h) ≡ (state m.0, m.1)) × Goes sc m.0 more

-- a function has these values first
abbrev pub Agrees : {X : Type 0} → List X → (ℕ → X) → Type 0
Agrees [] f = Unit {0}
Agrees (x ∷ xs) f = (f 0 ≡ x) × Agrees xs (λ k. f (suc k))

-- the states of moves, their outputs, and those up to each
abbrev pub states : Held → List Move → List State
states h moves = state h ∷ map (λ (m : Move). state m.0) moves

abbrev pub told : List Move → List (Option Output)
told moves = map (λ (m : Move). m.1) moves

abbrev pub sent : List Output → List Move → List (List Output)
sent before [] = before ∷ []
sent before (m ∷ more) = before ∷ sent (before ++ option_to_list m.1) more

-- a function goes on by steps
abbrev Steps : Scenario → (ℕ → State) → Type 0
Steps sc f = (k : ℕ) → f (suc k) ≡ (next sc (f k)).0

-- outputs are told by steps, and gathered
abbrev Tells : Scenario → (ℕ → State) → (ℕ → Option Output) → Type 0
Tells sc f g = (k : ℕ) → g k ≡ (next sc (f k)).1

abbrev Gathers : (ℕ → Option Output) → (ℕ → List Output) → Type 0
Gathers g o = (k : ℕ) → o (suc k) ≡ o k ++ option_to_list (g k)

first : (sc : Scenario) (h : Held) (m : Move) (f : ℕ → State) → f 0 ≡ state h → Steps sc f → next sc (state h) ≡ (state m.0, m.1)
    → f 1 ≡ state m.0
first sc h m f e s n = s 0 ∙ ap (λ t. (next sc t).0) e ∙ ap (λ (t : State × Option Output). t.0) n

tells : (sc : Scenario) (h : Held) (m : Move) (f : ℕ → State) (g : ℕ → Option Output) → f 0 ≡ state h → Tells sc f g
    → next sc (state h) ≡ (state m.0, m.1) → g 0 ≡ m.1
tells sc h m f g e t n = t 0 ∙ ap (λ s. (next sc s).1) e ∙ ap (λ (s : State × Option Output). s.1) n

agree-states : (sc : Scenario) (h : Held) (moves : List Move) (f : ℕ → State) → f 0 ≡ state h → Steps sc f → Goes sc h moves
    → Agrees (states h moves) f
agree-states sc h [] f e s g = (e, tt)
agree-states sc h (m ∷ more) f e s g = (e, agree-states sc m.0 more (λ k. f (suc k)) (first sc h m f e s g.0) (λ k. s (suc k)) g.1)

agree-told : (sc : Scenario) (h : Held) (moves : List Move) (f : ℕ → State) (o : ℕ → Option Output) → f 0 ≡ state h → Steps sc f
    → Tells sc f o → Goes sc h moves → Agrees (told moves) o
agree-told sc h [] f o e s t g = tt
agree-told sc h (m ∷ more) f o e s t g = (
  tells sc h m f o e t g.0,
  agree-told sc m.0 more (λ k. f (suc k)) (λ k. o (suc k)) (first sc h m f e s g.0) (λ k. s (suc k))
      (λ k. t (suc k)) g.1,
)

agree-sent : (sc : Scenario) (h : Held) (moves : List Move) (f : ℕ → State) (o : ℕ → Option Output) (before : List Output)
    (all : ℕ → List Output)
    → f 0 ≡ state h → Steps sc f → Tells sc f o → all 0 ≡ before → Gathers o all → Goes sc h moves → Agrees (sent before moves) all
agree-sent sc h [] f o before all e s t b a g = (b, tt)
agree-sent sc h (m ∷ more) f o before all e s t b a g = (
  b,
  agree-sent sc m.0 more (λ k. f (suc k)) (λ k. o (suc k)) (before ++ option_to_list m.1) (λ k. all (suc k))
      (first sc h m f e s g.0) (λ k. s (suc k)) (λ k. t (suc k))
      (a 0 ∙ (λ i. b i ++ option_to_list (tells sc h m f o e t g.0 i))) (λ k. a (suc k)) g.1,
)

run-steps : (sc : Scenario) (k : ℕ) → run sc (suc k) ≡ (next sc (run sc k)).0
unfolding run
run-steps sc k = refl

out-tells : (sc : Scenario) (k : ℕ) → out sc (suc k) ≡ (next sc (run sc k)).1
unfolding out
out-tells sc k = refl

out-none : (sc : Scenario) → out sc 0 ≡ None
unfolding out
out-none sc = refl

outs-gather : (sc : Scenario) (k : ℕ) → outs sc (suc k) ≡ outs sc k ++ option_to_list (out sc (suc k))
unfolding outs
outs-gather sc k = refl

outs-none : (sc : Scenario) → outs sc 0 ≡ []
unfolding outs
outs-none sc = refl

run-none : (sc : Scenario) → run sc 0 ≡ start
unfolding run
run-none sc = refl

-- the states, the outputs and all outputs of the reference run, of which the first steps are known
pub run-agrees : (sc : Scenario) (h : Held) (moves : List Move) → start ≡ state h → Goes sc h moves → Agrees (states h moves) (run sc)
run-agrees sc h moves e g = agree-states sc h moves (run sc) (run-none sc ∙ e) (run-steps sc) g

pub out-agrees : (sc : Scenario) (h : Held) (moves : List Move) → start ≡ state h → Goes sc h moves → Agrees (None ∷ told moves) (out sc)
out-agrees sc h moves e g =
    (out-none sc, agree-told sc h moves (run sc) (λ k. out sc (suc k)) (run-none sc ∙ e) (run-steps sc) (out-tells sc) g)

pub outs-agree : (sc : Scenario) (h : Held) (moves : List Move) → start ≡ state h → Goes sc h moves → Agrees (sent [] moves) (outs sc)
outs-agree sc h moves e g =
    agree-sent sc h moves (run sc) (λ k. out sc (suc k)) [] (outs sc) (run-none sc ∙ e) (run-steps sc) (out-tells sc) (outs-none sc)
    (outs-gather sc) g
