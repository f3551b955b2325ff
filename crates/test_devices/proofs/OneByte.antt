-- A byte that is read to the front of a buffer.
use Rattle.std.proofs.Common.{◌≡◌, ℕ, ◌<◌, List, [], ◌∷◌, length, take, set, refl, arith}

pub take-one-set : (xs : List ℕ) (v : ℕ) → 0 < length xs → take 1 (set xs 0 v) ≡ v ∷ []
take-one-set [] v p = absurd (omega (arith, p))
take-one-set (x ∷ xs) v p = refl
