-- A program strays in erasable memory alone.
use Rattle.std.proofs.Common.{◌≡◌, ℕ, ◌≤◌, List, Option, Result, Bool, true, false, ◌&&◌, ◌||◌, not, leb, ltb, refl, sym, ap, ◌∙◌, arith}
use Rattle.std.proofs.Common.{inl, inr}
use Rattle.std.proofs.lemmas.Bool.{cases_Bool}
use Rattle.std.proofs.lemmas.Bool.Decides.{nat_tests}
use Rattle.space.specs.Places.{place}
use Rattle.cpu.specs.Effects.{next_address, place_in}
use Rattle.cpu.specs.Next.{next}
use Rattle.cpu.specs.State.{Scenario, State}
use Rattle.cpu.specs.declared.output.Output.{Output}
use Rattle.std.specs.Prelude.{OnOk}
use Rattle.std.proofs.lemmas.Result.{on_ok_weaker}
use Rattle.whatif.specs.declared.sent.Sent.{Sent}
use Rattle.whatif.specs.Outcomes.{Outcome, first_switched, is_in_erasable, seen, strays, with_put, with_step}

fixed_place : (address eb fb : ℕ) (sup : Bool) → 0o2000 ≤ address → is_in_erasable (place address eb fb sup) ≡ false
unfolding place
fixed_place address eb fb sup high =
    let unbanked : ltb address 0o1400 ≡ false = grind (arith, nat_tests, high) in
    let switched : ltb address 0o2000 ≡ false = grind (arith, nat_tests, high) in
    rw (unbanked, switched)
    (elim (cases_Bool (ltb address 0o4000)) [
      | inl below ↦ rw below refl
      | inr above ↦
          rw above
          (elim (cases_Bool (ltb address 0o6000)) [
            | inl second ↦ rw second refl
            | inr third ↦ rw third refl
          ])
    ])

pub fixed_never_strays : (scenario : Scenario) (s : State) → leb first_switched (next_address s) ≡ true → false ≡ strays scenario s
unfolding place_in
fixed_never_strays scenario s high = rw (fixed_place (next_address s) _ _ _ (grind (arith, nat_tests, high))) refl

-- one that strays does so whatever follows
pub strays_once : (a : Outcome) (b s : Bool) → b ≡ (not a.strays && s) → with_step a b ≡ with_step a s
strays_once a b s is = rw is (ap (λ (flag : Bool). record a { strays = flag }) (once a.strays s))
  where
    once : (x y : Bool) → (x || (not x && y)) ≡ (x || y)
    once true y = refl
    once false y = refl

pub seen_once : {T E : Type 0} (r : Result T E) (base : List Sent) (scenario : Scenario) (s t : State) (a b : Outcome) (put : Option Output)
    (stray : Bool)
    → stray ≡ (not a.strays && strays scenario s) → (t, put) ≡ next scenario s → OnOk r (b ≡ with_put base (with_step a stray) put)
    → OnOk r (b ≡ seen base scenario s a)
seen_once r base scenario s t a b put stray is made =
    on_ok_weaker r
    (λ e. e ∙ ap (λ (x : Outcome). with_put base x put) (strays_once a stray (strays scenario s) is)
    ∙ ap (λ (p : State × Option Output). with_put base (with_step a (strays scenario s)) p.1) made)
