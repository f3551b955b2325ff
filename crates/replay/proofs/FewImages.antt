-- Images are few, of which the middle one of each three is needed.
use Rattle.std.proofs.Common.{ℕ, zero, suc, ◌+◌, ◌*◌, ◌^◌, ◌<◌, ◌≤◌, inl, inr, List, Contains, [], ◌∷◌, length, arith}
use Rattle.std.proofs.lemmas.Bool.{cases_lt}
use Rattle.std.proofs.Math.Nat.{pow-succ'}
use Rattle.std.proofs.Math.Pow.{pow_mono}
use Rattle.replay.specs.Memory.{floorlog, Fits, step_limit}
use Rattle.replay.specs.Spacing.{Stays, AreStaying}
use Rattle.replay.proofs.FloorlogLemmas.{floorlog-greatest, floorlog-power}
use Rattle.replay.proofs.StayingLemmas.{stays_sparse}
use Rattle.replay.proofs.StepLemmas.{contains_first, contains_rest}

-- of three kept steps, the first is at least twice as far from n as the third, and two more
abbrev Sparse : ℕ → List ℕ → Type 0
Sparse n kept = (a b c : ℕ) → Contains kept a → Contains kept b → Contains kept c → a < b → b < c → n + a + 2 ≤ 2 * c

-- half of m, rounded up
half : ℕ → ℕ
half zero = 0
half (suc zero) = 1
half (suc (suc m)) = suc (half m)

double-half : (m : ℕ) → m ≤ 2 * half m
unfolding half
double-half zero = omega arith
double-half (suc zero) = omega arith
double-half (suc (suc m)) = omega (arith, double-half m)

-- how far back m steps reach at least, and two more
reach : ℕ → ℕ
reach zero = 2
reach (suc zero) = 3
reach (suc (suc m)) = 2 * reach m

power-reach : (m : ℕ) → 2 ^ half m + 1 ≤ reach m
unfolding half reach
power-reach zero = omega arith
power-reach (suc zero) = omega arith
power-reach (suc (suc m)) = omega (arith, power-reach m, pow-succ' 2 (half m))

-- a rising list, by recursion
abbrev pub Rises : List ℕ → Type 0
Rises [] = Unit {0}
Rises (a ∷ []) = Unit {0}
Rises (a ∷ b ∷ r) = (a < b) × Rises (b ∷ r)

reaches : (n a : ℕ) (r : List ℕ) → Rises (a ∷ r) → ((c : ℕ) → Contains (a ∷ r) c → c < n) → Sparse n (a ∷ r)
    → a + reach (length (a ∷ r)) ≤ n + 2
unfolding reach
reaches n a [] rises past sparse = omega (arith, past a (contains_first a []))
reaches n a (b ∷ []) rises past sparse = omega (arith, past b (contains_rest a (b ∷ []) b (contains_first b [])), rises.0)
reaches n a (b ∷ c ∷ r) rises past sparse =
    let later : (x : ℕ) → Contains (c ∷ r) x → Contains (a ∷ b ∷ c ∷ r) x = λ x h. contains_rest a (b ∷ c ∷ r) x
    (contains_rest b (c ∷ r) x h) in
    let far : n + a + 2 ≤ 2 * c = sparse a b c (contains_first a (b ∷ c ∷ r)) (contains_rest a (b ∷ c ∷ r) b (contains_first b (c ∷ r)))
    (later c (contains_first c r)) rises.0 rises.1.0 in
    let rest : c + reach (length (c ∷ r)) ≤ n + 2 = reaches n c r rises.1.1 (λ x h. past x (later x h))
    (λ x y z hx hy hz. sparse x y z (later x hx) (later y hy) (later z hz)) in
    omega arith

few : (n : ℕ) (kept : List ℕ) → Rises kept → ((c : ℕ) → Contains kept c → c < n) → Sparse n kept → reach (length kept) ≤ n + 2
unfolding reach
few n [] rises past sparse = omega arith
few n (a ∷ r) rises past sparse = omega (arith, reaches n a r rises past sparse)

-- so few machines are held, where all that is kept stays
pub Fits-part : (n : ℕ) (kept : List ℕ) → Rises kept → ((c : ℕ) → Contains kept c → (c < n) × Stays n c) → Fits (length kept + 2) n
unfolding Fits
Fits-part n kept rises staying =
    let m = length kept in
    let past : (c : ℕ) → Contains kept c → c < n = λ c h. (staying c h).0 in
    let stays : (c : ℕ) → Contains kept c → Stays n c = λ c h. (staying c h).1 in
    let sparse : Sparse n kept = λ a b c ha hb hc ab bc. stays_sparse n a b c (stays a ha) (stays b hb) (stays c hc) ab bc (past c hc) in
    let power : 2 ^ half m ≤ n + 1 = omega (arith, few n kept rises past sparse, power-reach m) in
    omega (arith, floorlog-greatest (n + 1) (half m) power, double-half m)

pub Fits-staying : (n : ℕ) (kept : List ℕ) → Rises kept → AreStaying n n kept → Fits (length kept + 2) n
Fits-staying n kept rises staying = Fits-part n kept rises (λ c h. (staying c).0 h)

-- and there is room for one image more
pub Fits-room : (n held : ℕ) → n ≤ step_limit → Fits held n → held ≤ 80
unfolding Fits
Fits-room n held within fits = elim (cases_lt (floorlog (n + 1)) 40) [
  | inl low ↦ omega arith
  | inr high ↦ absurd (omega (arith, pow_mono {i = 40} high, floorlog-power (n + 1) (omega arith)))
]

pub Fits-start : Fits 2 0
unfolding Fits
Fits-start = omega arith
