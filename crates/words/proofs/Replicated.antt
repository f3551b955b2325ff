-- A list of one value, again and again: this value stands everywhere, also past its end.
use Rattle.std.proofs.Common.{◌≡◌, ℕ, zero, suc, get_or, replicate, refl}

pub get_replicated : {A : Type 0} (x : A) (n k : ℕ) → get_or (replicate n x) k x ≡ x
get_replicated x zero k = refl
get_replicated x (suc n) zero = refl
get_replicated x (suc n) (suc k) = get_replicated x n k
