-- Cycles that rise, and steps before them.
use Rattle.std.specs.Prelude.{is_some}
use Rattle.std.proofs.Common.{Option, None, Some, ◌≡◌, ℕ, ◌+◌, ◌<◌, ◌≤◌, List, [], ◌∷◌, ◌&&◌, true, false, leb, ltb, refl, sym, ap, ◌∙◌}
use Rattle.std.proofs.Common.{arith, inl, inr}
use Rattle.std.proofs.lemmas.Bool.{cases_Bool}
use Rattle.std.proofs.lemmas.Bool.Decides.{nat_tests}
use Rattle.feed.specs.Merged.{due}
use Rattle.feed.specs.declared.entry.Plain.{Plain}
use Rattle.feed.specs.declared.input.Input.{Input}
use Rattle.cpu.specs.Next.{next}
use Rattle.cpu.specs.Run.{run}
use Rattle.cpu.proofs.RunLaws.{rise-next, rise-run, run-add-one}
use Rattle.cpu.specs.State.{Scenario, State}
use Rattle.whatif.specs.Trials.{BeginsBefore, IsBefore, are_rising}
use Rattle.whatif.proofs.Given.{rises_unless_given}

-- a run stands at a step before which none has begun at a cycle, from which on the cycles of the trials that are left rise
pub record IsOnTheWay (scenario : Scenario) (n : ℕ) (left : List Plain) : Type 0 where
  pub from : ℕ
  pub before : IsBefore scenario n from
  pub rising : are_rising from left ≡ true

pub before_none : (scenario : Scenario) (n cycle : ℕ) → n ≡ 0 → IsBefore scenario n cycle
before_none scenario n cycle none j less = absurd (omega (arith, none, less))

pub before_more : (scenario : Scenario) (n cycle : ℕ) (s : State) → s ≡ run scenario n → s.cycles < cycle → IsBefore scenario n cycle
    → IsBefore scenario (n + 1) cycle
before_more scenario n cycle s is less before j within =
    elim (cases_Bool (ltb j n)) [
      | inl holds ↦ before j (grind (arith, nat_tests, holds))
      | inr fails ↦ let last : j ≡ n = grind (arith, nat_tests, fails, within) in rw last (inl (rw is at less))
    ]

later_begins : (scenario : Scenario) (s : State) (cycle later : ℕ) → BeginsBefore scenario s cycle → cycle ≤ later
    → BeginsBefore scenario s later
later_begins scenario s cycle later (inl below) least = inl (omega (arith, below, least))
later_begins scenario s cycle later (inr given) least = inr (omega (arith, given.0, least), given.1)

pub before_later : (scenario : Scenario) (n cycle later : ℕ) → IsBefore scenario n cycle → cycle ≤ later → IsBefore scenario n later
before_later scenario n cycle later before least j less = later_begins scenario (run scenario j) cycle later (before j less) least

rising_parts : (from : ℕ) (t : Plain) (more : List Plain) → are_rising from (t ∷ more) ≡ true
    → (from ≤ t.cycle) × (are_rising t.cycle more ≡ true)
rising_parts from t more rising =
    elim (cases_Bool (leb from t.cycle)) [
      | inl holds ↦ (grind (arith, nat_tests, holds), rw holds at rising)
      | inr fails ↦ absurd (let e : false ≡ true = rw fails at rising in cc)
    ]

-- the next trial comes no earlier
pub next_before : (scenario : Scenario) (n : ℕ) (left : List Plain) (t : Plain) (more : List Plain) → left ≡ t ∷ more
    → IsOnTheWay scenario n left → IsBefore scenario n t.cycle
next_before scenario n left t more is way = before_later scenario n way.from t.cycle way.before
    (rising_parts way.from t more (rw is at way.rising)).0

pub next_way : (scenario : Scenario) (n m : ℕ) (left : List Plain) (t : Plain) (more : List Plain) → left ≡ t ∷ more
    → IsOnTheWay scenario n left → IsBefore scenario m t.cycle → IsOnTheWay scenario m more
next_way scenario n m left t more is way before = record
    { from = t.cycle; before = before; rising = (rising_parts way.from t more (rw is at way.rising)).1 }

pub first_way : (scenario : Scenario) (n m first : ℕ) (trials : List Plain) → m ≡ n → IsBefore scenario n first
    → are_rising first trials ≡ true → IsOnTheWay scenario m trials
first_way scenario n m first trials at before rising = record { from = first; before = rw at before; rising = rising }

begins_before : (scenario : Scenario) (s : State) (cycle : ℕ) → (next scenario s).0.cycles ≤ cycle → (o : Option (Input × Option ℕ))
    → o ≡ due scenario.inputs s.taken s.cycles → BeginsBefore scenario s cycle
begins_before scenario s cycle most None is = inl (omega (arith, most, rises_unless_given scenario s (sym is)))
begins_before scenario s cycle most (Some given) is = inr (omega (arith, most, rise-next scenario s), rw (sym is) refl)

-- each step up to one begins before an input at the cycles there, or later
pub before_here : (scenario : Scenario) (n cycle : ℕ) (s : State) → s ≡ run scenario n → s.cycles ≤ cycle → IsBefore scenario n cycle
before_here scenario n cycle s is most j less =
    let after : (run scenario (j + 1)).cycles ≤ (run scenario n).cycles = rise-run scenario (j + 1) n (omega (arith, less)) in
    let whole : (run scenario n).cycles ≤ cycle = rw is at most in
    let most_after : (run scenario (j + 1)).cycles ≤ cycle = omega (arith, after, whole) in
    let rises : (next scenario (run scenario j)).0.cycles ≤ cycle = rw (run-add-one scenario j) at most_after in
    begins_before scenario (run scenario j) cycle rises (due scenario.inputs (run scenario j).taken (run scenario j).cycles) refl
