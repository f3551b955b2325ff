-- Which routines are in progress.
use Rattle.std.specs.Prelude.{◌≡◌, ◌≤◌, ℕ, ◌+◌, ◌-◌, true, false, List, [], ◌∷◌, Some, length}
use Rattle.space.specs.Places.{same_place}
use Rattle.cpu.specs.State.{State, Scenario}
use Rattle.cpu.specs.Effects.{next_address, place_in}
use Rattle.cpu.specs.Run.{run}
use Rattle.calls.specs.Calls.{enters}
use Rattle.calls.specs.Calling.{place_led_to}
use Rattle.calls.specs.Waiting.{standing_place}
use Rattle.debugger.specs.Routines.{most_routines, routines, routines_inside}
use Rattle.debugger.specs.declared.routines.Call.{Call}

-- the state before the step of a call
abbrev pub calling_state : Scenario → Call → State
calling_state scenario call = run scenario (call.step - 1)

-- A call of a routine that is in progress after p steps: its step entered the routine from its place while no interrupt was served, and
-- since then Z has led to the place to which the routine returns nowhere but while one was.
pub record IsInProgress (scenario : Scenario) (p : ℕ) (call : Call) : Type 0 where
  pub first : 1 ≤ call.step
  pub made : call.step ≤ p
  pub outside : (calling_state scenario call).inside ≡ false
  pub enters : enters scenario (calling_state scenario call) ≡ Some call.back
  pub from : call.from ≡ standing_place (calling_state scenario call)
  pub routine : call.routine ≡ place_led_to scenario (calling_state scenario call)
  pub not_back : (u : ℕ) → call.step ≤ u → u ≤ p → (run scenario u).inside ≡ false
      → same_place (place_in (run scenario u) (next_address (run scenario u))) call.back ≡ false

-- of each of some calls something holds, each by a later step than the one before, from a first one on
abbrev pub OneAfterAnother : (Call → Type 0) → ℕ → List Call → Type 0
OneAfterAnother holds first [] = Unit {0}
OneAfterAnother holds first (x ∷ xs) = (first ≤ x.step) × holds x × OneAfterAnother holds (x.step + 1) xs

-- Each that is told is in progress, in the order in which they were entered, so that the last is the innermost; and no more are told than
-- may be.
pub record RoutinesAreInProgress (scenario : Scenario) (p : ℕ) : Type 0 where
  pub each : OneAfterAnother (IsInProgress scenario p) 0 (routines scenario p)
  pub few : length (routines scenario p) ≤ most_routines

-- A call of a routine that the interrupt made that is served after p steps: this one was served when the step entered the routine, and has
-- been ever since, and since then Z has never led to the place to which the routine returns.
pub record IsInProgressInside (scenario : Scenario) (p : ℕ) (call : Call) : Type 0 where
  pub first : 1 ≤ call.step
  pub made : call.step ≤ p
  pub served : (u : ℕ) → call.step ≤ u + 1 → u ≤ p → (run scenario u).inside ≡ true
  pub enters : enters scenario (calling_state scenario call) ≡ Some call.back
  pub from : call.from ≡ standing_place (calling_state scenario call)
  pub routine : call.routine ≡ place_led_to scenario (calling_state scenario call)
  pub not_back : (u : ℕ) → call.step ≤ u → u ≤ p
      → same_place (place_in (run scenario u) (next_address (run scenario u))) call.back ≡ false

-- The same of those that an interrupt made; where none is served there are none.
pub record RoutinesInsideAreInProgress (scenario : Scenario) (p : ℕ) : Type 0 where
  pub each : OneAfterAnother (IsInProgressInside scenario p) 0 (routines_inside scenario p)
  pub few : length (routines_inside scenario p) ≤ most_routines
  pub none : (run scenario p).inside ≡ false → routines_inside scenario p ≡ []
