-- Those routines that are in progress were entered one after another.
use Rattle.std.proofs.Common.{inl, inr, List, [], ◌∷◌, ◌++◌, ◌≡◌, ◌≤◌, ◌<◌, ◌+◌, ◌-◌, zero, suc, length, take, drop, length-take}
use Rattle.std.proofs.Common.{length-drop, ℕ, Bool, true, false, cond, not, Option, Some, None, refl, sym, ap, ◌∙◌, subst, arith}
use Rattle.std.specs.List.{position_or_len}
use Rattle.std.proofs.lemmas.Bool.{cases_Bool, cases_eq}
use Rattle.space.specs.Places.{same_place}
use Rattle.space.specs.declared.place.Linear.{Linear}
use Rattle.feed.specs.declared.input.Input.{Input}
use Rattle.feed.specs.Merged.{due}
use Rattle.cpu.specs.State.{State, Scenario}
use Rattle.cpu.specs.Effects.{next_address, place_in}
use Rattle.cpu.specs.Next.{entry}
use Rattle.cpu.specs.NextStep.{next_step_by, next_step}
use Rattle.cpu.specs.Run.{run}
use Rattle.cpu.specs.declared.next_step.NextStep.{NextStep}
use Rattle.cpu.specs.declared.next_step.NextStep.TheVariants.{Takes, Enters, Executes}
use Rattle.calls.specs.Calls.{called_place, entered_by, enters, is_call, return_place}
use Rattle.calls.specs.Calling.{place_led_to}
use Rattle.calls.specs.Waiting.{standing_place}
use Rattle.debugger.specs.Calling.{IsInProgress, OneAfterAnother, RoutinesAreInProgress, calling_state}
use Rattle.debugger.specs.Routines.{call_by, call_made, most_routines, without, left_at, with_call, followed, routines_by, routines}
use Rattle.debugger.specs.declared.routines.Call.{Call}

-- ## A call that was made
taken : {X : Type 0} (b : Bool) (x y : X) → cond b (Some x) None ≡ Some y → (b ≡ true) × (x ≡ y)
taken true x y e = (refl, cc)
taken false x y e = absurd (cc)

pub record Made (k : ℕ) (s : State) (n : NextStep) (c : Call) : Type 0 where
  pub enters : entered_by s n ≡ Some c.back
  pub from : c.from ≡ standing_place s
  pub number : c.step ≡ k

pub made_by : (k : ℕ) (s : State) (n : NextStep) (c : Call) → call_by k s n ≡ Some c → Made k s n c
made_by k s (Takes input) c e = absurd (cc)
made_by k s (Enters interrupt) c e = absurd (cc)
made_by k s (Executes f) c e =
    let it = taken (is_call s f) (record { step = k; from = standing_place s; routine = called_place s f; back = return_place s }) c e in
    record {
      enters = ap (λ b. cond b (Some (return_place s)) None) it.0 ∙ ap (λ (x : Call). Some x.back) it.1;
      from = sym (ap (λ (x : Call). x.from) it.1);
      number = sym (ap (λ (x : Call). x.step) it.1);
    }

led_by : (scenario : Scenario) (k : ℕ) (s : State) (c : Call) (d : Option (Input × Option ℕ)) (i : Option ℕ)
    → call_by k s (next_step_by scenario.rope s d i) ≡ Some c → c.routine ≡ place_led_to scenario s
led_by scenario k s c (Some given) i e = absurd (cc)
led_by scenario k s c None (Some i) e = absurd (cc)
led_by scenario k s c None None e = sym (ap (λ (x : Call). x.routine) (taken _ _ c e).1)

pub led : (scenario : Scenario) (k : ℕ) (s : State) (c : Call) → call_made scenario k s ≡ Some c → c.routine ≡ place_led_to scenario s
unfolding next_step
led scenario k s c e = led_by scenario k s c (due scenario.inputs s.taken s.cycles) (entry s) e

-- ## Routines in progress
-- the same up to the state before p alone
record Since (scenario : Scenario) (p : ℕ) (call : Call) : Type 0 where
  first : 1 ≤ call.step
  made : call.step ≤ p
  outside : (calling_state scenario call).inside ≡ false
  enters : enters scenario (calling_state scenario call) ≡ Some call.back
  from : call.from ≡ standing_place (calling_state scenario call)
  routine : call.routine ≡ place_led_to scenario (calling_state scenario call)
  not_back : (u : ℕ) → call.step ≤ u → u < p → (run scenario u).inside ≡ false
      → same_place (place_in (run scenario u) (next_address (run scenario u))) call.back ≡ false

pub weaker : (P Q : Call → Type 0) → ((x : Call) → P x → Q x) → (first : ℕ) (xs : List Call) → OneAfterAnother P first xs
    → OneAfterAnother Q first xs
weaker P Q f first [] h = tt
weaker P Q f first (x ∷ xs) h = (h.0, f x h.1, weaker P Q f (x.step + 1) xs h.2)

lower : (P : Call → Type 0) (first low : ℕ) (xs : List Call) → low ≤ first → OneAfterAnother P first xs → OneAfterAnother P low xs
lower P first low [] le h = tt
lower P first low (x ∷ xs) le h = (omega (arith, le, h.0), h.1, h.2)

-- those before one that returns to a place
abbrev returns_to : Linear → Call → Bool
returns_to place c = same_place place c.back

without_none : (place : Linear) (x : Call) (xs : List Call) → same_place place x.back ≡ true → without place (x ∷ xs) ≡ []
without_none place x xs same = ap (λ b. take (cond (not b) (1 + position_or_len (returns_to place) xs) 0) (x ∷ xs)) same

without_more : (place : Linear) (x : Call) (xs : List Call) → same_place place x.back ≡ false
    → without place (x ∷ xs) ≡ x ∷ without place xs
without_more place x xs other =
    let next : 1 + position_or_len (returns_to place) xs ≡ suc (position_or_len (returns_to place) xs) = omega arith in
    ap (λ b. take (cond (not b) (1 + position_or_len (returns_to place) xs) 0) (x ∷ xs)) other ∙ ap (λ n. take n (x ∷ xs)) next

-- they return to others
pub front : (P Q : Call → Type 0) (place : Linear) → ((x : Call) → same_place place x.back ≡ false → P x → Q x) → (first : ℕ)
    (xs : List Call) → OneAfterAnother P first xs → OneAfterAnother Q first (without place xs)
front P Q place f first [] h = tt
front P Q place f first (x ∷ xs) h = elim (cases_Bool (same_place place x.back)) [
  | inl same ↦ subst (OneAfterAnother Q first) (sym (without_none place x xs same)) tt
  | inr other ↦ subst (OneAfterAnother Q first) (sym (without_more place x xs other))
      (h.0, f x other h.1, front P Q place f (x.step + 1) xs h.2)
]

pub dropped : (P : Call → Type 0) (k first : ℕ) (xs : List Call) → OneAfterAnother P first xs → OneAfterAnother P first (drop k xs)
dropped P zero first xs h = h
dropped P (suc k) first [] h = tt
dropped P (suc k) first (x ∷ xs) h = dropped P k first xs (lower P (x.step + 1) first xs (omega (arith, h.0)) h.2)

-- a later one after them
pub pushed : (P : Call → Type 0) (first : ℕ) (x : Call) (xs : List Call) → OneAfterAnother (λ y. P y × (y.step < x.step)) first xs
    → first ≤ x.step → P x → OneAfterAnother P first (xs ++ x ∷ [])
pushed P first x [] h le now = (le, now, tt)
pushed P first x (y ∷ ys) h le now = (h.0, h.1.0, pushed P (y.step + 1) x ys h.2 (omega (arith, h.1.1)) now)

pub fewer : (place : Linear) (xs : List Call) → length (without place xs) ≤ length xs
fewer place xs = omega (arith, length-take (position_or_len (returns_to place) xs) xs)

module _ (scenario : Scenario) where
  abbrev here : ℕ → Linear
  here p = place_in (run scenario p) (next_address (run scenario p))

  arrives : (p : ℕ) (x : Call) → ((run scenario p).inside ≡ false → same_place (here p) x.back ≡ false) → Since scenario p x
      → IsInProgress scenario p x
  arrives p x now s = record {
    first = s.first;
    made = s.made;
    outside = s.outside;
    enters = s.enters;
    from = s.from;
    routine = s.routine;
    not_back = λ u after before out. elim (cases_eq u p) [
      | inl last ↦ subst (λ v. same_place (here v) x.back ≡ false) (sym last) (now (subst (λ v. (run scenario v).inside ≡ false) last out))
      | inr other ↦ s.not_back u after (omega (arith, before, other)) out
    ];
  }

  arrived_all : (p : ℕ) (inside : Bool) (xs : List Call) → (run scenario p).inside ≡ inside → OneAfterAnother (Since scenario p) 0 xs
      → OneAfterAnother (IsInProgress scenario p) 0 (cond inside xs (without (here p) xs))
  arrived_all p true xs e h = weaker (Since scenario p) (IsInProgress scenario p) (λ x s. arrives p x (λ out. absurd (cc)) s) 0 xs h
  arrived_all p false xs e h = front (Since scenario p) (IsInProgress scenario p) (here p) (λ x other s. arrives p x (λ out. other) s) 0 xs
      h

  later : (p : ℕ) (x : Call) → IsInProgress scenario p x → Since scenario (suc p) x
  later p x s = record {
    first = s.first;
    made = omega (arith, s.made);
    outside = s.outside;
    enters = s.enters;
    from = s.from;
    routine = s.routine;
    not_back = λ u after before out. s.not_back u after (omega (arith, before)) out;
  }

  now : (p : ℕ) (x : Call) → (run scenario p).inside ≡ false → call_made scenario (p + 1) (run scenario p) ≡ Some x
      → Since scenario (suc p) x
  now p x out e =
      let it = made_by (p + 1) (run scenario p) (next_step scenario (run scenario p)) x e in
      let before : x.step - 1 ≡ p = omega (arith, it.number) in
      record {
        first = omega (arith, it.number);
        made = omega (arith, it.number);
        outside = rw before out;
        enters = rw before it.enters;
        from = rw before it.from;
        routine = rw before (led scenario (p + 1) (run scenario p) x e);
        not_back = λ u after less o. absurd (omega (arith, after, less, it.number));
      }

  entered_all : (p : ℕ) (xs : List Call) (o : Option Call) → (run scenario p).inside ≡ false
      → call_made scenario (p + 1) (run scenario p) ≡ o → OneAfterAnother (IsInProgress scenario p) 0 xs
      → OneAfterAnother (Since scenario (suc p)) 0 (with_call o xs)
  entered_all p xs None out e h = weaker (IsInProgress scenario p) (Since scenario (suc p)) (later p) 0 xs h
  entered_all p xs (Some x) out e h =
      let number : x.step ≡ p + 1 = (made_by (p + 1) (run scenario p) (next_step scenario (run scenario p)) x e).number in
      dropped (Since scenario (suc p)) (length (without x.back xs ++ x ∷ []) - most_routines) 0 (without x.back xs ++ x ∷ [])
      (pushed (Since scenario (suc p)) 0 x (without x.back xs)
      (front (IsInProgress scenario p) (λ y. Since scenario (suc p) y × (y.step < x.step)) x.back
      (λ y other s. (later p y s, omega (arith, s.made, number))) 0 xs h) (omega arith) (now p x out e))

  stepped_all : (p : ℕ) (inside : Bool) (xs : List Call) → (run scenario p).inside ≡ inside → OneAfterAnother (Since scenario p) 0 xs
      → OneAfterAnother (Since scenario (suc p)) 0 (cond inside xs (followed scenario (p + 1) (run scenario p) xs))
  stepped_all p true xs e h = weaker (IsInProgress scenario p) (Since scenario (suc p)) (later p) 0 xs (arrived_all p true xs e h)
  stepped_all p false xs e h = entered_all p (left_at (run scenario p) xs) (call_made scenario (p + 1) (run scenario p)) e refl
      (arrived_all p false xs e h)

  since : (p : ℕ) → OneAfterAnother (Since scenario p) 0 (routines_by scenario p)
  since zero = tt
  since (suc p) = stepped_all p (run scenario p).inside (routines_by scenario p) refl (since p)

  -- and they are few
  arrived_few : (place : Linear) (inside : Bool) (xs : List Call) → length xs ≤ most_routines
      → length (cond inside xs (without place xs)) ≤ most_routines
  arrived_few place true xs h = h
  arrived_few place false xs h = omega (arith, fewer place xs, h)

  pub with_few : (o : Option Call) (xs : List Call) → length xs ≤ most_routines → length (with_call o xs) ≤ most_routines
  with_few None xs h = h
  with_few (Some x) xs h = let n = length-drop (length (without x.back xs ++ x ∷ []) - most_routines) (without x.back xs ++ x ∷ []) in omega
      (arith, n)

  stepped_few : (p : ℕ) (o : Option Call) (inside : Bool) (xs : List Call) → length xs ≤ most_routines
      → length (cond inside xs (with_call o (without (here p) xs))) ≤ most_routines
  stepped_few p o true xs h = h
  stepped_few p o false xs h = with_few o (without (here p) xs) (arrived_few (here p) false xs h)

  few : (p : ℕ) → length (routines_by scenario p) ≤ most_routines
  few zero = omega arith
  few (suc p) = stepped_few p (call_made scenario (p + 1) (run scenario p)) (run scenario p).inside (routines_by scenario p) (few p)

pub routines_are_in_progress : (scenario : Scenario) (p : ℕ) → RoutinesAreInProgress scenario p
unfolding routines
routines_are_in_progress scenario p = record {
  each = arrived_all scenario p (run scenario p).inside (routines_by scenario p) refl (since scenario p);
  few = arrived_few scenario (place_in (run scenario p) (next_address (run scenario p))) (run scenario p).inside (routines_by scenario p)
      (few scenario p);
}
