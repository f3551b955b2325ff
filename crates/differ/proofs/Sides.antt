-- A run that is gone through by its steps outside of interrupts.
use Rattle.std.proofs.Common.{◌≡◌, ℕ, zero, suc, ◌+◌, ◌-◌, ◌<◌, ◌≤◌, ◌++◌, ◌∷◌, [], List, append_assoc, refl, sym, ap, ◌∙◌, arith}
use Rattle.std.proofs.Common.{append-nil, take, length, inl, inr, Bool, true, false}
use Rattle.cpu.specs.Run.{run}
use Rattle.cpu.specs.State.{Scenario, State}
use Rattle.differ.specs.declared.side.Window.{Window}
use Rattle.cpu.specs.declared.next_step.NextStep.{NextStep}
use Rattle.cpu.specs.declared.next_step.NextStep.TheVariants.{Takes, Enters, Executes}
use Rattle.cpu.specs.Links.{link, targets}
use Rattle.cpu.specs.Next.{next}
use Rattle.cpu.specs.NextStep.{next_step}
use Rattle.differ.specs.declared.written.Written.{Written}
use Rattle.differ.specs.MainSteps.{MainStep, main_after, main_by, mains, written_by}
use Rattle.differ.specs.Windows.{AreWithin, IsFull, side_of}

pub mains_none : (scenario : Scenario) (n k : ℕ) → k ≡ 0 → mains scenario n k ≡ []
unfolding mains
mains_none scenario n k none = rw none refl

mains_suc : (scenario : Scenario) (n k : ℕ) → mains scenario n (suc k)
    ≡ main_after (n + 1) scenario (run scenario n) ++ mains scenario (n + 1) k
unfolding mains
mains_suc scenario n k = refl

pub mains_one : (scenario : Scenario) (n steps : ℕ) → n < steps
    → mains scenario n (steps - n) ≡ main_after (n + 1) scenario (run scenario n) ++ mains scenario (n + 1) (steps - (n + 1))
mains_one scenario n steps lt =
    let more : steps - n ≡ suc (steps - (n + 1)) = omega (arith, lt) in
    ap (mains scenario n) more ∙ mains_suc scenario n (steps - (n + 1))

-- a step more is made
pub fill_more : (scenario : Scenario) (steps n : ℕ) (ahead after next : List MainStep) → n < steps
    → after ≡ main_after (n + 1) scenario (run scenario n) → next ≡ ahead ++ after
    → next ++ mains scenario (n + 1) (steps - (n + 1)) ≡ ahead ++ mains scenario n (steps - n)
fill_more scenario steps n ahead after next lt is made =
    ap (λ (xs : List MainStep). xs ++ mains scenario (n + 1) (steps - (n + 1))) made
    ∙ append_assoc ahead after (mains scenario (n + 1) (steps - (n + 1)))
    ∙ ap (λ (xs : List MainStep). ahead ++ (xs ++ mains scenario (n + 1) (steps - (n + 1)))) is
    ∙ ap (λ (xs : List MainStep). ahead ++ xs) (sym (mains_one scenario n steps lt))

take_whole : (xs more : List MainStep) (n : ℕ) → length xs ≡ n → take n (xs ++ more) ≡ xs
take_whole [] more n e = rw (sym e) refl
take_whole (x ∷ xs) more n e = rw (sym e) (ap (λ ys. x ∷ ys) (take_whole xs more (length xs) refl))

take_short : (xs : List MainStep) (n : ℕ) → length xs ≤ n → take n xs ≡ xs
take_short [] zero le = refl
take_short [] (suc n) le = refl
take_short (x ∷ xs) zero le = absurd (omega (arith, le))
take_short (x ∷ xs) (suc n) le = ap (λ ys. x ∷ ys) (take_short xs n (omega (arith, le)))

-- the four steps that follow are those that are kept
pub seen : (scenario : Scenario) (steps : ℕ) (w : Window) → IsFull scenario steps w → take 4 (side_of scenario steps w).rest ≡ w.ahead.items
seen scenario steps w is = elim is.full [
  | inl four ↦ take_whole w.ahead.items (mains scenario w.done (steps - w.done)) 4 four
  | inr all ↦
      let none : mains scenario w.done (steps - w.done) ≡ [] = mains_none scenario w.done (steps - w.done) (omega (arith, all)) in
      ap (λ (xs : List MainStep). take 4 (w.ahead.items ++ xs)) none ∙ ap (take 4) (append-nil w.ahead.items)
      ∙ take_short w.ahead.items 4 is.short
]

-- steps are within a last one
pub within_append : (n : ℕ) (xs ys : List MainStep) → AreWithin n xs → AreWithin n ys → AreWithin n (xs ++ ys)
within_append n [] ys first second = second
within_append n (x ∷ xs) ys first second = (first.0, within_append n xs ys first.1 second)

within_by : (n steps : ℕ) (inside : Bool) (step : NextStep) (written : List Written) → n ≤ steps
    → AreWithin steps (main_by n inside step written)
within_by n steps inside (Takes input) written le = tt
within_by n steps inside (Enters k) written le = tt
within_by n steps true (Executes f) written le = tt
within_by n steps false (Executes f) written le = (le, tt)

within_after : (scenario : Scenario) (s : State) (n steps : ℕ) → n ≤ steps → AreWithin steps (main_after n scenario s)
unfolding main_after
within_after scenario s n steps le = within_by n steps s.inside (next_step scenario s)
    (written_by (next scenario s).0.cells (targets (link scenario s))) le

pub within_more : (scenario : Scenario) (s : State) (n steps : ℕ) (ahead after next : List MainStep) → n < steps → AreWithin steps ahead
    → after ≡ main_after (n + 1) scenario s → next ≡ ahead ++ after → AreWithin steps next
within_more scenario s n steps ahead after next lt known is made =
    rw (made, is) (within_append steps ahead (main_after (n + 1) scenario s) known
    (within_after scenario s (n + 1) steps (omega (arith, lt))))
