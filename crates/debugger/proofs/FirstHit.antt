-- The first of some steps, sought from the start or from the step after it.
use Rattle.std.proofs.Common.{◌≡◌, ℕ, zero, suc, ◌+◌, ◌<◌, Bool, true, false, cond, Some, None, refl, sym, ap, ◌∙◌, arith}
use Rattle.replay.specs.LastHit.{first_hit}

pub at_start : (hit : ℕ → Bool) (n : ℕ) → hit 0 ≡ true → Some 0 ≡ first_hit hit 0 (n + 1)
at_start hit n holds = let e : n + 1 ≡ suc n = omega arith in sym
    (ap (first_hit hit 0) e ∙ ap (λ b. cond b (Some 0) (first_hit hit 1 n)) holds)

pub from_one : (hit : ℕ → Bool) (n : ℕ) → hit 0 ≡ false → first_hit hit 1 n ≡ first_hit hit 0 (n + 1)
from_one hit n fails = let e : n + 1 ≡ suc n = omega arith in sym
    (ap (first_hit hit 0) e ∙ ap (λ b. cond b (Some 0) (first_hit hit 1 n)) fails)

pub never : (hit : ℕ → Bool) (from count : ℕ) → ((t : ℕ) → t < from + count → hit t ≡ false) → first_hit hit from count ≡ None
never hit from zero fails = refl
never hit from (suc count) fails =
    ap (λ b. cond b (Some from) (first_hit hit (from + 1) count)) (fails from (omega arith))
    ∙ never hit (from + 1) count (λ t below. fails t (omega arith))
