-- Those routines that the interrupt made which is served were entered one after another while it was.
use Rattle.std.proofs.Common.{inl, inr, List, [], ◌∷◌, ◌++◌, ◌≡◌, ◌≤◌, ◌<◌, ◌+◌, ◌-◌, zero, suc, length, ℕ, Bool, true, false, cond}
use Rattle.std.proofs.Common.{Option, Some, None, refl, sym, ap, subst, arith}
use Rattle.std.proofs.lemmas.Bool.{cases_eq}
use Rattle.space.specs.Places.{same_place}
use Rattle.space.specs.declared.place.Linear.{Linear}
use Rattle.cpu.specs.State.{Scenario}
use Rattle.cpu.specs.Effects.{next_address, place_in}
use Rattle.cpu.specs.NextStep.{next_step}
use Rattle.cpu.specs.Run.{run}
use Rattle.calls.specs.Calls.{enters}
use Rattle.calls.specs.Calling.{place_led_to}
use Rattle.calls.specs.Waiting.{standing_place}
use Rattle.debugger.specs.Calling.{IsInProgressInside, OneAfterAnother, RoutinesInsideAreInProgress, calling_state}
use Rattle.debugger.specs.Routines.{call_made, followed, inside_by, left_at, most_routines, routines_inside, with_call, without}
use Rattle.debugger.specs.declared.routines.Call.{Call}
use Rattle.debugger.proofs.Calling.{dropped, fewer, front, led, made_by, pushed, weaker, with_few}

-- the same up to the state before p alone
record Since (scenario : Scenario) (p : ℕ) (call : Call) : Type 0 where
  first : 1 ≤ call.step
  made : call.step ≤ p
  served : (u : ℕ) → call.step ≤ u + 1 → u < p → (run scenario u).inside ≡ true
  enters : enters scenario (calling_state scenario call) ≡ Some call.back
  from : call.from ≡ standing_place (calling_state scenario call)
  routine : call.routine ≡ place_led_to scenario (calling_state scenario call)
  not_back : (u : ℕ) → call.step ≤ u → u < p
      → same_place (place_in (run scenario u) (next_address (run scenario u))) call.back ≡ false

module _ (scenario : Scenario) where
  abbrev here : ℕ → Linear
  here p = place_in (run scenario p) (next_address (run scenario p))

  arrives : (p : ℕ) (x : Call) → (run scenario p).inside ≡ true → same_place (here p) x.back ≡ false → Since scenario p x
      → IsInProgressInside scenario p x
  arrives p x inside other s = record {
    first = s.first;
    made = s.made;
    served = λ u after before. elim (cases_eq u p) [
      | inl last ↦ subst (λ v. (run scenario v).inside ≡ true) (sym last) inside
      | inr apart ↦ s.served u after (omega (arith, before, apart))
    ];
    enters = s.enters;
    from = s.from;
    routine = s.routine;
    not_back = λ u after before. elim (cases_eq u p) [
      | inl last ↦ subst (λ v. same_place (here v) x.back ≡ false) (sym last) other
      | inr apart ↦ s.not_back u after (omega (arith, before, apart))
    ];
  }

  arrived_all : (p : ℕ) (inside : Bool) (xs : List Call) → (run scenario p).inside ≡ inside → OneAfterAnother (Since scenario p) 0 xs
      → OneAfterAnother (IsInProgressInside scenario p) 0 (cond inside (without (here p) xs) [])
  arrived_all p true xs e h = front (Since scenario p) (IsInProgressInside scenario p) (here p) (λ x other s. arrives p x e other s) 0 xs h
  arrived_all p false xs e h = tt

  later : (p : ℕ) (x : Call) → IsInProgressInside scenario p x → Since scenario (suc p) x
  later p x s = record {
    first = s.first;
    made = omega (arith, s.made);
    served = λ u after before. s.served u after (omega (arith, before));
    enters = s.enters;
    from = s.from;
    routine = s.routine;
    not_back = λ u after before. s.not_back u after (omega (arith, before));
  }

  now : (p : ℕ) (x : Call) → (run scenario p).inside ≡ true → call_made scenario (p + 1) (run scenario p) ≡ Some x
      → Since scenario (suc p) x
  now p x inside e =
      let it = made_by (p + 1) (run scenario p) (next_step scenario (run scenario p)) x e in
      let before : x.step - 1 ≡ p = omega (arith, it.number) in
      record {
        first = omega (arith, it.number);
        made = omega (arith, it.number);
        served = λ u after less.
            let last : p ≡ u = omega (arith, after, less, it.number) in subst (λ v. (run scenario v).inside ≡ true) last inside;
        enters = rw before it.enters;
        from = rw before it.from;
        routine = rw before (led scenario (p + 1) (run scenario p) x e);
        not_back = λ u after less. absurd (omega (arith, after, less, it.number));
      }

  entered_all : (p : ℕ) (xs : List Call) (o : Option Call) → (run scenario p).inside ≡ true
      → call_made scenario (p + 1) (run scenario p) ≡ o → OneAfterAnother (IsInProgressInside scenario p) 0 xs
      → OneAfterAnother (Since scenario (suc p)) 0 (with_call o xs)
  entered_all p xs None inside e h = weaker (IsInProgressInside scenario p) (Since scenario (suc p)) (later p) 0 xs h
  entered_all p xs (Some x) inside e h =
      let number : x.step ≡ p + 1 = (made_by (p + 1) (run scenario p) (next_step scenario (run scenario p)) x e).number in
      dropped (Since scenario (suc p)) (length (without x.back xs ++ x ∷ []) - most_routines) 0 (without x.back xs ++ x ∷ [])
      (pushed (Since scenario (suc p)) 0 x (without x.back xs)
      (front (IsInProgressInside scenario p) (λ y. Since scenario (suc p) y × (y.step < x.step)) x.back
      (λ y other s. (later p y s, omega (arith, s.made, number))) 0 xs h) (omega arith) (now p x inside e))

  stepped_all : (p : ℕ) (inside : Bool) (xs : List Call) → (run scenario p).inside ≡ inside → OneAfterAnother (Since scenario p) 0 xs
      → OneAfterAnother (Since scenario (suc p)) 0 (cond inside (followed scenario (p + 1) (run scenario p) xs) [])
  stepped_all p true xs e h = entered_all p (left_at (run scenario p) xs) (call_made scenario (p + 1) (run scenario p)) e refl
      (arrived_all p true xs e h)
  stepped_all p false xs e h = tt

  since : (p : ℕ) → OneAfterAnother (Since scenario p) 0 (inside_by scenario p)
  since zero = tt
  since (suc p) = stepped_all p (run scenario p).inside (inside_by scenario p) refl (since p)

  -- and they are few
  arrived_few : (place : Linear) (inside : Bool) (xs : List Call) → length xs ≤ most_routines
      → length (cond inside (without place xs) []) ≤ most_routines
  arrived_few place true xs h = omega (arith, fewer place xs, h)
  arrived_few place false xs h = omega arith

  stepped_few : (p : ℕ) (o : Option Call) (inside : Bool) (xs : List Call) → length xs ≤ most_routines
      → length (cond inside (with_call o (without (here p) xs)) []) ≤ most_routines
  stepped_few p o true xs h = with_few scenario o (without (here p) xs) (arrived_few (here p) true xs h)
  stepped_few p o false xs h = omega arith

  few : (p : ℕ) → length (inside_by scenario p) ≤ most_routines
  few zero = omega arith
  few (suc p) = stepped_few p (call_made scenario (p + 1) (run scenario p)) (run scenario p).inside (inside_by scenario p) (few p)

pub routines_inside_are_in_progress : (scenario : Scenario) (p : ℕ) → RoutinesInsideAreInProgress scenario p
unfolding routines_inside
routines_inside_are_in_progress scenario p = record {
  each = arrived_all scenario p (run scenario p).inside (inside_by scenario p) refl (since scenario p);
  few = arrived_few scenario (place_in (run scenario p) (next_address (run scenario p))) (run scenario p).inside (inside_by scenario p)
      (few scenario p);
  none = λ out. ap (λ b. cond b (left_at (run scenario p) (inside_by scenario p)) []) out;
}
