-- What stands in lists of spots.
use Rattle.std.proofs.Common.{◌≡◌, ℕ, ◌+◌, ◌<◌, ◌⊎◌, List, [], ◌∷◌, ◌++◌, length, take, get_or, inl, inr}
use Rattle.std.proofs.Common.{subst}
use Rattle.std.proofs.lemmas.List.{take_more}
use Rattle.reach.specs.declared.spot.Spot.{Spot}
use Rattle.reach.specs.Ways.{Among}

pub among_left : (q : Spot) (xs ys : List Spot) → Among q xs → Among q (xs ++ ys)
among_left q [] ys h = absurd h
among_left q (x ∷ xs) ys (inl here) = inl here
among_left q (x ∷ xs) ys (inr later) = inr (among_left q xs ys later)

pub among_right : (q : Spot) (xs ys : List Spot) → Among q ys → Among q (xs ++ ys)
among_right q [] ys h = h
among_right q (x ∷ xs) ys h = inr (among_right q xs ys h)

pub among_either : (q : Spot) (xs ys : List Spot) → Among q (xs ++ ys) → Among q xs ⊎ Among q ys
among_either q [] ys h = inr h
among_either q (x ∷ xs) ys (inl here) = inl (inl here)
among_either q (x ∷ xs) ys (inr later) = elim (among_either q xs ys later) [ inl h ↦ inl (inr h) | inr h ↦ inr h ]

pub among_one : (q p : Spot) → Among q (p ∷ []) → q ≡ p
among_one q p (inl here) = here
among_one q p (inr later) = absurd later

pub among_taken : (q d : Spot) (xs : List Spot) (n : ℕ) → n < length xs → Among q (take (n + 1) xs)
    → Among q (take n xs) ⊎ (q ≡ get_or xs n d)
among_taken q d xs n lt h =
    elim (among_either q (take n xs) (get_or xs n d ∷ []) (subst (λ ys. Among q ys) (take_more xs n d lt) h)) [
      | inl before ↦ inl before
      | inr last ↦ inr (among_one q (get_or xs n d) last)
    ]
