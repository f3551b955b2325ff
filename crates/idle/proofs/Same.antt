-- A test of all numbers below a bound, one number after another.
use Rattle.std.proofs.Common.{◌≡◌, ℕ, zero, suc, ◌+◌, ◌-◌, ◌<◌, true, false, refl, arith, ap, ◌∙◌, add-one, ◌&&◌, Bool}
use Rattle.idle.specs.Alike.{all_below}

and_false : (b : Bool) → (b && false) ≡ false
and_false true = refl
and_false false = refl

pub none_below : (test : ℕ → Bool) → all_below test 0 ≡ true
unfolding all_below
none_below test = refl

pub one_more : (test : ℕ → Bool) (n : ℕ) → all_below test n ≡ true → test n ≡ true → all_below test (n + 1) ≡ true
unfolding all_below
one_more test n before this = rw (add-one n) (ap (λ b. b && test n) before ∙ this)

none_later : (test : ℕ → Bool) (n k m : ℕ) → m ≡ suc (n + k) → test n ≡ false → all_below test m ≡ false
unfolding all_below
none_later test n zero m e apart =
    let last : m ≡ suc n = omega (arith, e) in
    rw last (ap (λ b. all_below test n && b) apart ∙ and_false (all_below test n))
none_later test n (suc k) m e apart =
    let last : m ≡ suc (suc (n + k)) = omega (arith, e) in
    rw last (ap (λ b. b && test (suc (n + k))) (none_later test n k (suc (n + k)) refl apart))

-- one of which it does not hold is enough
pub not_all : (test : ℕ → Bool) (n count : ℕ) → n < count → test n ≡ false → all_below test count ≡ false
not_all test n count lt apart = none_later test n (count - suc n) count (omega (arith, lt)) apart

pub ruleset below_steps = (none_below, one_more)
