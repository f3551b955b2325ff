-- The steps in which some kind happens for the first time at its place, one after another.
use Rattle.std.proofs.Common.{◌≡◌, ℕ, zero, suc, ◌+◌, ◌-◌, ◌<◌, ◌≤◌, Bool, true, false, List, [], ◌∷◌, ◌++◌, refl, sym, ap, ◌∙◌}
use Rattle.std.proofs.Common.{arith, add-one, append_assoc, append-nil, drop, get_or, inl, inr, subst}
use Rattle.std.proofs.lemmas.Bool.{cases_Bool}
use Rattle.std.proofs.lemmas.Bool.Decides.{eqb_tells}
use Rattle.cpu.specs.State.{Scenario}
use Rattle.yayul.specs.Named.{Named}
use Rattle.notes.specs.declared.first_steps.FirstStep.{FirstStep}
use Rattle.notes.specs.declared.first_steps.Firsts.{Firsts}
use Rattle.notes.specs.Counted.{first_steps, firsts_by, happens_first, listed_by, some_first}

-- what the step after t others adds to the list
abbrev at_step : Named → Scenario → ℕ → List FirstStep
at_step named scenario t = listed_by (firsts_by (happens_first named scenario t)) (t + 1)

first_steps_by : (named : Named) (scenario : Scenario) (t m : ℕ)
    → first_steps named scenario t (suc m) ≡ at_step named scenario t ++ first_steps named scenario (t + 1) m
unfolding first_steps
first_steps_by named scenario t m = refl

none_in_none : (named : Named) (scenario : Scenario) (t : ℕ) → first_steps named scenario t 0 ≡ []
unfolding first_steps
none_in_none named scenario t = refl

-- one step more
pub first_more : (named : Named) (scenario : Scenario) (t m : ℕ)
    → first_steps named scenario t (m + 1) ≡ first_steps named scenario t m ++ at_step named scenario (t + m)
first_more named scenario t zero =
    let at : t ≡ t + 0 = omega arith in
    first_steps_by named scenario t 0
    ∙ ap (λ items. at_step named scenario t ++ items) (none_in_none named scenario (t + 1))
    ∙ append-nil (at_step named scenario t)
    ∙ ap (λ k. at_step named scenario k) at
    ∙ ap (λ items. items ++ at_step named scenario (t + 0)) (sym (none_in_none named scenario t))
first_more named scenario t (suc m) =
    let one = at_step named scenario t in
    let at : t + 1 + m ≡ t + suc m = omega arith in
    ap (λ k. first_steps named scenario t k) (add-one (suc m))
    ∙ first_steps_by named scenario t (suc m)
    ∙ ap (λ k. one ++ first_steps named scenario (t + 1) k) (sym (add-one m))
    ∙ ap (λ items. one ++ items) (first_more named scenario (t + 1) m)
    ∙ sym (append_assoc one (first_steps named scenario (t + 1) m) (at_step named scenario (t + 1 + m)))
    ∙ ap (λ items. items ++ at_step named scenario (t + 1 + m)) (sym (first_steps_by named scenario t m))
    ∙ ap (λ k. first_steps named scenario t (suc m) ++ at_step named scenario k) at

-- where none is listed nothing happens for the first time
nothing_at : (kinds : Firsts) (number : ℕ) (b : Bool) → some_first kinds ≡ b → (rest : List FirstStep)
    → listed_by kinds number ++ rest ≡ [] → (b ≡ false) × (rest ≡ [])
nothing_at kinds number true some rest e =
    let wrong : record { number = number; kinds = kinds } ∷ rest ≡ [] = rw some at e in absurd (cc)
nothing_at kinds number false some rest e = (refl, rw some at e)

pub none_listed : (named : Named) (scenario : Scenario) (m t : ℕ) → first_steps named scenario t m ≡ [] → (u : ℕ) → t ≤ u → u < t + m
    → some_first (firsts_by (happens_first named scenario u)) ≡ false
none_listed named scenario zero t e u from lt = absurd (omega (arith, from, lt))
none_listed named scenario (suc m) t e u from lt =
    let kinds = firsts_by (happens_first named scenario t) in
    let parts = nothing_at kinds (t + 1) (some_first kinds) refl (first_steps named scenario (t + 1) m)
    (sym (first_steps_by named scenario t m) ∙ e) in
    elim (eqb_tells t u) [
      | inl now ↦ subst (λ (k : ℕ). some_first (firsts_by (happens_first named scenario k)) ≡ false) now.1 parts.0
      | inr apart ↦ none_listed named scenario m (t + 1) parts.1 u (omega (arith, from, apart.1)) (omega (arith, lt))
    ]

-- the first of a list: it comes later, nothing happens for the first time before it, and the others come behind it
pub record NextListed (named : Named) (scenario : Scenario) (t m : ℕ) (f : FirstStep) (more : List FirstStep) : Type 0 where
  pub later : t < f.number
  pub within : f.number ≤ t + m
  pub kinds : f.kinds ≡ firsts_by (happens_first named scenario (f.number - 1))
  pub none : (u : ℕ) → t ≤ u → u < f.number - 1 → some_first (firsts_by (happens_first named scenario u)) ≡ false
  pub rest : first_steps named scenario f.number (t + m - f.number) ≡ more

-- where a step is listed it stands before all others, else these are all
listed_here : (kinds : Firsts) (number : ℕ) (rest : List FirstStep) → some_first kinds ≡ true
    → listed_by kinds number ++ rest ≡ record { number = number; kinds = kinds } ∷ rest
listed_here kinds number rest some = rw some refl

not_here : (kinds : Firsts) (number : ℕ) (rest : List FirstStep) → some_first kinds ≡ false → listed_by kinds number ++ rest ≡ rest
not_here kinds number rest none = rw none refl

next_here : (named : Named) (scenario : Scenario) (m t : ℕ) (f : FirstStep) (more : List FirstStep)
    → record { number = t + 1; kinds = firsts_by (happens_first named scenario t) } ∷ first_steps named scenario (t + 1) m ≡ f ∷ more
    → NextListed named scenario t (suc m) f more
next_here named scenario m t f more e =
    let here : FirstStep = record { number = t + 1; kinds = firsts_by (happens_first named scenario t) } in
    let is : here ≡ f = ap (λ items. get_or items 0 f) e in
    let rest : first_steps named scenario (t + 1) m ≡ more = ap (λ items. drop 1 items) e in
    let number : t + 1 ≡ f.number = ap (λ (x : FirstStep). x.number) is in
    let kinds : firsts_by (happens_first named scenario t) ≡ f.kinds = ap (λ (x : FirstStep). x.kinds) is in
    let at : t ≡ f.number - 1 = omega (arith, number) in
    let left : t + suc m - f.number ≡ m = omega (arith, number) in
    record {
      later = omega (arith, number);
      within = omega (arith, number);
      kinds = sym kinds ∙ ap (λ k. firsts_by (happens_first named scenario k)) at;
      none = λ u from lt. absurd (omega (arith, number, from, lt));
      rest = ap (λ k. first_steps named scenario k (t + suc m - f.number)) (sym number)
          ∙ ap (λ k. first_steps named scenario (t + 1) k) left ∙ rest;
    }

pub next_listed : (named : Named) (scenario : Scenario) (m t : ℕ) (f : FirstStep) (more : List FirstStep)
    → first_steps named scenario t m ≡ f ∷ more → NextListed named scenario t m f more
next_listed named scenario zero t f more e =
    let wrong : [] ≡ f ∷ more = sym (none_in_none named scenario t) ∙ e in absurd (cc)
next_listed named scenario (suc m) t f more e =
    let kinds = firsts_by (happens_first named scenario t) in
    let rest = first_steps named scenario (t + 1) m in
    elim (cases_Bool (some_first kinds)) [
      | inl some ↦ next_here named scenario m t f more
          (sym (listed_here kinds (t + 1) rest some) ∙ sym (first_steps_by named scenario t m) ∙ e)
      | inr none ↦
          let next = next_listed named scenario m (t + 1) f more
          (sym (not_here kinds (t + 1) rest none) ∙ sym (first_steps_by named scenario t m) ∙ e) in
          let left : t + suc m - f.number ≡ t + 1 + m - f.number = omega arith in
          record {
            later = omega (arith, next.later);
            within = omega (arith, next.within);
            kinds = next.kinds;
            none = λ u from lt.
                elim (eqb_tells t u) [
                  | inl now ↦ subst (λ (k : ℕ). some_first (firsts_by (happens_first named scenario k)) ≡ false) now.1 none
                  | inr apart ↦ next.none u (omega (arith, from, apart.1)) lt
                ];
            rest = ap (λ k. first_steps named scenario f.number k) left ∙ next.rest;
          }
    ]
