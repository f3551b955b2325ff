-- Tables of names.
use Rattle.std.proofs.Common.{◌≡◌, ℕ, ◌==◌, Bool, true, List, [], ◌∷◌, IfSome, refl, inl, inr}
use Rattle.std.proofs.lemmas.Bool.{cases_Bool, and_parts, eqb-true}
use Rattle.std.specs.List.{list_all}
use Rattle.agc_text.specs.Tables.{same_name, value_in}

-- names that are the same are equal
pub names_same : (a b : List ℕ) → same_name a b ≡ true → a ≡ b
names_same [] [] e = refl
names_same [] (y ∷ ys) e = absurd (cc)
names_same (x ∷ xs) [] e = absurd (cc)
names_same (x ∷ xs) (y ∷ ys) e =
    let parts = and_parts (x == y) (same_name xs ys) e in
    λ i. eqb-true x y parts.0 i ∷ names_same xs ys parts.1 i

-- what holds of each value of a table holds of the value of a name
pub value_in-all : {V : Type 0} (test : V → Bool) (table : List (List ℕ × V)) (name : List ℕ) → list_all (λ e. test e.1) table ≡ true
    → IfSome (value_in table name) (λ v. test v ≡ true)
value_in-all test [] name all = tt
value_in-all test (e ∷ es) name all =
    let parts = and_parts (test e.1) (list_all (λ e. test e.1) es) all in
    elim (cases_Bool (same_name name e.0)) [
      | inl same ↦ rw same parts.0
      | inr apart ↦ rw apart (value_in-all test es name parts.1)
    ]
