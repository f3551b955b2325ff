-- The first words that are not the same, turn by turn.
use Rattle.std.proofs.Common.{◌≡◌, ◌≢◌, ℕ, ◌+◌, ◌-◌, ◌≤◌, ◌++◌, true, false, List, [], ◌∷◌, Option, Some, None, refl, sym, ap, ◌∙◌, arith}
use Rattle.std.specs.Option.{option_to_list}
use Rattle.cpu.specs.State.{Scenario}
use Rattle.differ.specs.declared.outputs.Put.{Put}
use Rattle.differ.specs.declared.outputs.OutputsApart.{OutputsApart}
use Rattle.differ.specs.Outputs.{apart_at, are_same, both_none, first_apart, first_output, puts, same_put}
use Rattle.differ.proofs.Puts.{puts_none}

-- before the first
pub apart_start : (one other : Scenario) (steps d e : ℕ) → d ≡ 0 → e ≡ 0
    → first_output one other steps ≡ first_apart (0 + 1) (puts one d (steps - d)) (puts other e (steps - e))
apart_start one other steps d e none other_none =
    let whole : steps - 0 ≡ steps = omega arith in
    rw (none, other_none) (ap (λ (k : ℕ). first_apart (0 + 1) (puts one 0 k) (puts other 0 k)) (sym whole))

-- where both have one more that is the same
same_next : (number : ℕ) (a b : Option Put) (more others : List Put) → are_same a b ≡ true
    → first_apart number (option_to_list a ++ more) (option_to_list b ++ others) ≡ first_apart (number + 1) more others
same_next number None b more others same = absurd (grind (arith, same))
same_next number (Some a) None more others same = absurd (grind (arith, same))
same_next number (Some a) (Some b) more others same = rw same refl

pub apart_same : (number : ℕ) (xs ys more others : List Put) (a b : Option Put) → xs ≡ option_to_list a ++ more
    → ys ≡ option_to_list b ++ others → are_same a b ≡ true
    → first_apart number xs ys ≡ first_apart (number + 1) more others
apart_same number xs ys more others a b first second same = rw (first, second) (same_next number a b more others same)

-- where both have no more
none_next : (number : ℕ) (a b : Option Put) (more others : List Put) → both_none a b ≡ true → (a ≡ None → more ≡ [])
    → (b ≡ None → others ≡ [])
    → first_apart number (option_to_list a ++ more) (option_to_list b ++ others) ≡ None
none_next number None None more others none end others_end = rw (end refl, others_end refl) refl
none_next number None (Some b) more others none end others_end = absurd (grind (arith, none))
none_next number (Some a) b more others none end others_end = absurd (grind (arith, none))

pub apart_none : (number : ℕ) (xs ys more others : List Put) (a b : Option Put) → xs ≡ option_to_list a ++ more
    → ys ≡ option_to_list b ++ others → both_none a b ≡ true
    → (a ≡ None → more ≡ []) → (b ≡ None → others ≡ []) → first_apart number xs ys ≡ None
apart_none number xs ys more others a b first second none end others_end = rw (first, second)
    (none_next number a b more others none end others_end)

-- where one has none more, or they are not the same: what has none has no more
differ_next : (number : ℕ) (a b : Option Put) (more others : List Put) → both_none a b ≡ false → are_same a b ≡ false
    → (a ≡ None → more ≡ []) → (b ≡ None → others ≡ [])
    → first_apart number (option_to_list a ++ more) (option_to_list b ++ others) ≡ Some (apart_at number a b)
differ_next number None None more others one differ end others_end = absurd (grind (arith, one))
differ_next number None (Some b) more others one differ end others_end = rw (end refl) refl
differ_next number (Some a) None more others one differ end others_end = rw (others_end refl) refl
differ_next number (Some a) (Some b) more others one differ end others_end = rw differ refl

pub apart_differs : (number : ℕ) (xs ys more others : List Put) (a b : Option Put) → xs ≡ option_to_list a ++ more
    → ys ≡ option_to_list b ++ others → both_none a b ≡ false
    → are_same a b ≡ false → (a ≡ None → more ≡ []) → (b ≡ None → others ≡ []) → first_apart number xs ys ≡ Some (apart_at number a b)
apart_differs number xs ys more others a b first second one differ end others_end = rw (first, second)
    (differ_next number a b more others one differ end others_end)

-- after all steps
pub end_of : (scenario : Scenario) (n steps : ℕ) → n ≡ steps → puts scenario n (steps - n) ≡ []
end_of scenario n steps all = puts_none scenario n (steps - n) (omega (arith, all))

pub apart_end : (one other : Scenario) (number steps d e : ℕ) → steps ≤ d → steps ≤ e
    → first_apart number (puts one d (steps - d)) (puts other e (steps - e)) ≡ None
apart_end one other number steps d e past other_past =
    rw (puts_none one d (steps - d) (omega (arith, past)), puts_none other e (steps - e) (omega (arith, other_past))) refl
