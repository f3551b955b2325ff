-- Faults are a set: the least of some is that of all lists in which the same faults stand, in any order and any number of times.
use Rattle.std.proofs.Common.{◌≡◌, true, false, List, [], ◌∷◌, fold, Some, refl, ap, ◌∙◌, ◌⊎◌, inl, inr, arith}
use Rattle.std.specs.Prelude.{if◌then◌else◌}
use Rattle.std.proofs.lemmas.Bool.Decides.{nat_tests}
use Rattle.yayul.specs.Program.{least, is_before}
use Rattle.yayul.specs.Language.{Fault}
use Rattle.yayul.proofs.Least.{lesser}

-- a fault stands among some
abbrev pub StandsIn : List Fault → Fault → Type 0
StandsIn [] f = ⊥
StandsIn (g ∷ gs) f = (f ≡ g) ⊎ StandsIn gs f

-- each of some faults stands among others
abbrev pub AreAmong : List Fault → List Fault → Type 0
AreAmong others fs = (f : Fault) → StandsIn fs f → StandsIn others f

-- a fault stands among some, and none of these before it
abbrev IsLeast : List Fault → Fault → Type 0
IsLeast fs m = StandsIn fs m × ((f : Fault) → StandsIn fs f → is_before f m ≡ false)

not_before_itself : (f : Fault) → is_before f f ≡ false
not_before_itself f = grind (arith, nat_tests)

-- what is not after the lesser of two is not after either
first_too : (a b m : Fault) → is_before (lesser a b) m ≡ false → is_before a m ≡ false
first_too a b m e = grind (arith, nat_tests)

second_too : (a b m : Fault) → is_before (lesser a b) m ≡ false → is_before b m ≡ false
second_too a b m e = grind (arith, nat_tests)

lesser_is : (a b : Fault) → (lesser a b ≡ a) ⊎ (lesser a b ≡ b)
lesser_is a b = elim (is_before b a) as (λ x. ((if x then b else a) ≡ a) ⊎ ((if x then b else a) ≡ b))
    [ true ↦ inr refl | false ↦ inl refl ]

pub fold_is_least : (f : Fault) (fs : List Fault) → IsLeast (f ∷ fs) (fold lesser f fs)
fold_is_least f [] = (inl refl, one)
  where
    one : (g : Fault) → StandsIn (f ∷ []) g → is_before g f ≡ false
    one g (inl same) = ap (λ h. is_before h f) same ∙ not_before_itself f
    one g (inr none) = absurd none
fold_is_least f (g ∷ gs) = one_more f g gs (fold lesser (lesser f g) gs) (fold_is_least (lesser f g) gs)
  where
    one_more : (a b : Fault) (rest : List Fault) (m : Fault) → IsLeast (lesser a b ∷ rest) m → IsLeast (a ∷ b ∷ rest) m
    one_more a b rest m later = (stands later.0, none_before)
      where
        first : is_before (lesser a b) m ≡ false
        first = later.1 (lesser a b) (inl refl)

        by_lesser : m ≡ lesser a b → (lesser a b ≡ a) ⊎ (lesser a b ≡ b) → StandsIn (a ∷ b ∷ rest) m
        by_lesser same (inl is) = inl (same ∙ is)
        by_lesser same (inr is) = inr (inl (same ∙ is))

        stands : StandsIn (lesser a b ∷ rest) m → StandsIn (a ∷ b ∷ rest) m
        stands (inl same) = by_lesser same (lesser_is a b)
        stands (inr more) = inr (inr more)

        none_before : (h : Fault) → StandsIn (a ∷ b ∷ rest) h → is_before h m ≡ false
        none_before h (inl same) = ap (λ x. is_before x m) same ∙ first_too a b m first
        none_before h (inr (inl same)) = ap (λ x. is_before x m) same ∙ second_too a b m first
        none_before h (inr (inr more)) = later.1 h (inr more)

-- two faults of which neither is before the other are one
one_fault : (a b : Fault) → is_before a b ≡ false → is_before b a ≡ false → a ≡ b
one_fault a b e d =
    let line : a.line ≡ b.line = grind (arith, nat_tests) in
    let number : a.number ≡ b.number = grind (arith, nat_tests) in
    λ j. record { line = line j; number = number j }

one_least : (fs gs : List Fault) (m n : Fault) → AreAmong gs fs → AreAmong fs gs → IsLeast fs m → IsLeast gs n → m ≡ n
one_least fs gs m n in_gs in_fs p q = one_fault m n (q.1 m (in_gs m p.0)) (p.1 n (in_fs n q.0))

pub least_of_set : (fs gs : List Fault) → AreAmong gs fs → AreAmong fs gs → least fs ≡ least gs
least_of_set [] [] in_gs in_fs = refl
least_of_set [] (g ∷ gs) in_gs in_fs = absurd (in_fs g (inl refl))
least_of_set (f ∷ fs) [] in_gs in_fs = absurd (in_gs f (inl refl))
least_of_set (f ∷ fs) (g ∷ gs) in_gs in_fs =
    ap (λ m. Some m) (one_least (f ∷ fs) (g ∷ gs) (fold lesser f fs) (fold lesser g gs) in_gs in_fs (fold_is_least f fs)
    (fold_is_least g gs))
