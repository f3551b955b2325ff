-- The names that are near to a text, gone through once.
use Rattle.std.proofs.Common.{◌≡◌, ℕ, ◌∙◌, ap, ◌==◌, ◌+◌, ◌&&◌, Bool, true, false, List, [], ◌∷◌, Option, Some, None, length, find, refl}
use Rattle.std.proofs.Common.{inl, inr, arith}
use Rattle.std.specs.Prelude.{nat_le, if◌then◌else◌}
use Rattle.std.specs.Option.{option_or}
use Rattle.std.proofs.lemmas.Bool.{cases_Bool, and_parts, eqb-true}
use Rattle.std.proofs.lemmas.Bool.Decides.{nat_tests}
use Rattle.near_names.specs.Names.{is_close, is_near}
use Rattle.near_names.specs.declared.nearness.Closeness.TheVariants.{AsLong, InCapitals, Near}

-- what is found of some names, where one as long and one that is near stand before them or none does
abbrev pub sought : List ℕ → Option (List ℕ) → Option (List ℕ) → List (List ℕ) → Option (List ℕ)
sought text as_long near names =
    option_or (find (is_close InCapitals text) names)
    (if nat_le 3 (length text) then option_or (option_or as_long (find (is_close AsLong text) names))
    (option_or near (find (is_close Near text) names)) else None)

-- a name, where it passes
abbrev pub passing : Bool → List ℕ → Option (List ℕ)
passing passes name = if passes then Some name else None

or_first : (found : Option (List ℕ)) (passes : Bool) (name : List ℕ) (rest : Option (List ℕ))
    → option_or found (if passes then Some name else rest) ≡ option_or (option_or found (passing passes name)) rest
or_first (Some x) passes name rest = refl
or_first None true name rest = refl
or_first None false name rest = refl

or_none : (found : Option (List ℕ)) → option_or found None ≡ found
or_none (Some x) = refl
or_none None = refl

and_true : (b : Bool) → (b && true) ≡ b
and_true true = refl
and_true false = refl

-- what is near and as long is as long, and what is as long is near
as_long_far : (text name : List ℕ) → is_close Near text name ≡ false → is_close AsLong text name ≡ false
as_long_far text name far =
    elim (cases_Bool (length text == length name)) [
      | inl same ↦ (
          let equal = eqb-true (length text) (length name) same in
          let low : nat_le (length text) (length name + 1) ≡ true = grind (arith, nat_tests) in
          let high : nat_le (length name) (length text + 1) ≡ true = grind (arith, nat_tests) in
          let apart : is_near text name ≡ false = rw (low, high) at far in
          rw (same, apart) refl)
      | inr differs ↦ rw differs refl
    ]

as_long_near : (text name : List ℕ) → is_close Near text name ≡ true → is_close AsLong text name ≡ (length text == length name)
as_long_near text name close =
    elim (cases_Bool (is_near text name)) [
      | inl near ↦ rw near (and_true (length text == length name))
      | inr apart ↦ absurd (
          let last = and_parts (nat_le (length text) (length name + 1) && nat_le (length name) (length text + 1)) (is_near text name) close
          in
          let fails : false ≡ true = rw apart at last.1 in cc)
    ]

sought_kept :
    (text : List ℕ) (as_long near : Option (List ℕ)) (name : List ℕ) (rest : List (List ℕ)) → is_close InCapitals text name ≡ false
    → sought text as_long near (name ∷ rest) ≡ sought text (option_or as_long (passing (is_close AsLong text name) name))
    (option_or near (passing (is_close Near text name) name)) rest
sought_kept text as_long near name rest apart =
    rw apart (rw (
      or_first as_long (is_close AsLong text name) name (find (is_close AsLong text) rest),
      or_first near
          (is_close Near text name) name (find (is_close Near text) rest),
    ) refl)

-- a name that is no text in capitals is kept, where it is near
pub sought_on :
    (text : List ℕ) (as_long near : Option (List ℕ)) (name : List ℕ) (rest : List (List ℕ)) → is_close InCapitals text name ≡ false
    → is_close Near text name ≡ true
    → sought text as_long near (name ∷ rest) ≡ sought text (option_or as_long (passing (length text == length name) name))
    (option_or near (Some name)) rest
sought_on text as_long near name rest apart close =
    sought_kept text as_long near name rest apart
    ∙ ap (λ passes. sought text (option_or as_long (passing passes name)) (option_or near (passing (is_close Near text name) name)) rest)
    (as_long_near text name close)
    ∙ ap (λ passes. sought text (option_or as_long (passing (length text == length name) name)) (option_or near (passing passes name)) rest)
    close

-- one that is far is passed over
pub sought_far :
    (text : List ℕ) (as_long near : Option (List ℕ)) (name : List ℕ) (rest : List (List ℕ)) → is_close InCapitals text name ≡ false
    → is_close Near text name ≡ false
    → sought text as_long near (name ∷ rest) ≡ sought text as_long near rest
sought_far text as_long near name rest capitals far = rw (capitals, as_long_far text name far, far) refl

-- one that is not close in any way is passed over
pub sought_past :
    (text : List ℕ) (as_long near : Option (List ℕ)) (name : List ℕ) (rest : List (List ℕ)) → is_close InCapitals text name ≡ false
    → is_close AsLong text name ≡ false
    → is_close Near text name ≡ false → sought text as_long near (name ∷ rest) ≡ sought text as_long near rest
sought_past text as_long near name rest capitals long close = rw (capitals, long, close) refl

-- after one that is as long none is sought but a text in capitals
pub sought_held :
    (text held : List ℕ) (near : Option (List ℕ)) (name : List ℕ) (rest : List (List ℕ)) → is_close InCapitals text name ≡ false
    → sought text (Some held) near (name ∷ rest) ≡ sought text (Some held) near rest
sought_held text held near name rest capitals = rw capitals refl

-- a text in capitals is found
pub sought_here : (text : List ℕ) (as_long near : Option (List ℕ)) (name : List ℕ) (rest : List (List ℕ))
    → is_close InCapitals text name ≡ true → sought text as_long near (name ∷ rest) ≡ Some name
sought_here text as_long near name rest capitals = rw capitals refl

-- after the last name
pub sought_none :
    (text : List ℕ) (as_long near : Option (List ℕ))
    → sought text as_long near [] ≡ (if nat_le 3 (length text) then option_or as_long near else None)
sought_none text as_long near = rw (or_none as_long, or_none near) refl

-- the steps of a search for a near name
pub ruleset sought_steps = (sought_on, sought_far, sought_held, sought_past, sought_here, sought_none)
