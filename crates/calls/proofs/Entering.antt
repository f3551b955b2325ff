-- A step enters a routine where it executes TC that leads on.
use Rattle.std.proofs.Common.{◌≡◌, ◌<◌, ◌+◌, ◌%◌, ◌&&◌, ℕ, Bool, true, false, cond, not, Option, Some, None, refl, sym, ap, ◌∙◌, arith}
use Rattle.std.specs.Prelude.{is_some}
use Rattle.std.proofs.lemmas.Bool.Decides.{nat_tests}
use Rattle.space.specs.Places.{same_place}
use Rattle.space.specs.declared.place.Linear.{Linear}
use Rattle.feed.specs.declared.input.Input.{Input}
use Rattle.feed.specs.Merged.{due}
use Rattle.cpu.specs.State.{State, Scenario}
use Rattle.cpu.specs.Effects.{next_address, place_in}
use Rattle.cpu.specs.Next.{following_address, entry}
use Rattle.cpu.specs.NextStep.{next_step_by, next_step}
use Rattle.calls.specs.Calling.{Calls, EntersByCalling, place_led_to}
use Rattle.calls.specs.Calls.{is_fixed, leads_on, address_after, return_place, entered_by, enters}
use Rattle.calls.specs.Waiting.{standing_address, standing_place}

-- ## There and back
next_to : (z : ℕ) → z < 4096 → ((z + 0o7777) % 0o10000 + 1) % 0o10000 ≡ z
next_to z lt = grind (arith, nat_tests)

address_by : (s : State) (o : Option ℕ) → next_address s < 4096
    → cond (is_some o) (next_address s) (following_address s)
    ≡ (cond (is_some o) ((next_address s + 0o7777) % 0o10000) (next_address s) + 1) % 0o10000
address_by s (Some w) lt = sym (next_to (next_address s) lt)
address_by s None lt = refl

address_is : (s : State) → next_address s < 4096 → address_after s ≡ (standing_address s + 1) % 0o10000
address_is s lt = address_by s s.waiting_word lt

both : (a b : Bool) → (a && b) ≡ true → (a ≡ true) × (b ≡ true)
both true b e = (refl, e)
both false b e = absurd (cc)

negated : (b : Bool) → not b ≡ true → b ≡ false
negated true e = absurd (cc)
negated false e = refl

taken : (b : Bool) (x back : Linear) → cond b (Some x) None ≡ Some back → (b ≡ true) × (x ≡ back)
taken true x back e = (refl, cc)
taken false x back e = absurd (cc)

leading : (a b c : Bool) → a ≡ true → b ≡ true → c ≡ false → (a && b && not c) ≡ true
leading a b c p q r = rw (p, q, r) refl

module _ (scenario : Scenario) (s : State) where
  by_word : (back : Linear) → next_address s < 4096 → due scenario.inputs s.taken s.cycles ≡ None → entry s ≡ None
      → entered_by s (next_step_by scenario.rope s None None) ≡ Some back → Calls scenario s back
  by_word back small no_input no_entry e =
      let call = taken _ (return_place s) back e in
      let parts = both _ (leads_on (standing_place s) (place_led_to scenario s)) call.0 in
      let outer = both (is_fixed (standing_place s) && is_fixed (place_led_to scenario s))
      (not (same_place (place_led_to scenario s) (standing_place s))) parts.1 in
      let inner = both (is_fixed (standing_place s)) (is_fixed (place_led_to scenario s)) outer.0 in
      record {
        executes = record { none_due = no_input; none_entered = no_entry; executes = refl };
        tc = parts.0;
        from = inner.0;
        to = inner.1;
        away = negated (same_place (place_led_to scenario s) (standing_place s)) outer.1;
        returns = sym call.1 ∙ ap (place_in s) (address_is s small);
      }

  by_step : (back : Linear) (d : Option (Input × Option ℕ)) (k : Option ℕ) → next_address s < 4096
      → due scenario.inputs s.taken s.cycles ≡ d → entry s ≡ k → entered_by s (next_step_by scenario.rope s d k) ≡ Some back
      → Calls scenario s back
  by_step back (Some given) k small is_due is_entry e = absurd (cc)
  by_step back None (Some k) small is_due is_entry e = absurd (cc)
  by_step back None None small is_due is_entry e = by_word back small is_due is_entry e

  told : (back : Linear) → next_address s < 4096 → Calls scenario s back → enters scenario s ≡ Some back
  unfolding next_step
  told back small c =
      let on = leading (is_fixed (standing_place s)) (is_fixed (place_led_to scenario s))
      (same_place (place_led_to scenario s) (standing_place s)) c.from c.to c.away in
      ap (λ d. entered_by s (next_step_by scenario.rope s d (entry s))) c.executes.none_due
      ∙ ap (λ k. entered_by s (next_step_by scenario.rope s None k)) c.executes.none_entered
      ∙ ap (λ b. cond (b && leads_on (standing_place s) (place_led_to scenario s)) (Some (return_place s)) None) c.tc
      ∙ ap (λ b. cond b (Some (return_place s)) None) on
      ∙ ap Some (ap (place_in s) (address_is s small) ∙ sym c.returns)

pub enters_by_calling : (scenario : Scenario) (s : State) → EntersByCalling scenario s
unfolding next_step
enters_by_calling scenario s = λ small back.
    (λ e. by_step scenario s back (due scenario.inputs s.taken s.cycles) (entry s) small refl refl e, λ c. told scenario s back small c)
