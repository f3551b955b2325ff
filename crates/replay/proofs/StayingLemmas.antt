-- The images that stay serve each step, and are few. In specs/Spacing.antt stands which stay.
use Rattle.std.specs.Int.{◌∣◌}
use Rattle.std.proofs.Common.{◌≡◌, ℕ, suc, ◌+◌, ◌-◌, ◌*◌, ◌/◌, ◌%◌, ◌^◌, ◌<◌, ◌≤◌, List, Contains, inl, inr, sym, ◌∙◌, ap, arith}
use Rattle.std.proofs.Math.Pow.{pow_mono}
use Rattle.std.proofs.lemmas.Bool.{cases_lt}
use Rattle.std.proofs.lemmas.Nat.{pow-add, pow_pos, mod_below}
use Rattle.std.proofs.lemmas.Nat.Gcd.{dvd_trans, le_of_dvd}
use Rattle.std.proofs.Math.Nat.{pow-succ', dvd-sub, dvd-mul_right, dvd-mul_left, mod-add-div'}
use Rattle.replay.specs.Memory.{floorlog}
use Rattle.replay.specs.Spacing.{Stays, AreStaying}
use Rattle.replay.proofs.FloorlogLemmas.{floorlog-greatest, floorlog-power}

-- multiples of m that differ are m apart
pub apart : (m a b : ℕ) → m ∣ a → m ∣ b → a < b → a + m ≤ b
apart m a b da db less = let h : m ≤ b - a = le_of_dvd (omega arith) (dvd-sub m db da) in omega (arith, h)

pub grows : (i j : ℕ) → i ≤ j → 2 ^ i ∣ 2 ^ j
grows i j h =
    let e : i + (j - i) ≡ j = omega arith in
    let p : 2 ^ j ≡ 2 ^ i * 2 ^ (j - i) = ap (λ (k : ℕ). 2 ^ k) (sym e) ∙ pow-add 2 i (j - i) in
    rw p (dvd-mul_right (2 ^ i) (2 ^ (j - i)))

pub divides : (i j c : ℕ) → i ≤ j → 2 ^ j ∣ c → 2 ^ i ∣ c
divides i j c h d = dvd_trans (2 ^ i) (grows i j h) d

pub doubles : (i j : ℕ) → i < j → 2 * 2 ^ i ≤ 2 ^ j
doubles i j h = let p : 2 ^ suc i ≤ 2 ^ j = pow_mono (omega arith) in omega (arith, p, pow-succ' 2 i)

-- of three that stay, the first is at least twice as far from n as the third, and two more: so the middle one is needed
pub stays_sparse : (n a b c : ℕ) → Stays n a → Stays n b → Stays n c → a < b → b < c → c < n → n + a + 2 ≤ 2 * c
stays_sparse n a b c (i, di, ni) (j, dj, nj) (k, dk, nk) ab bc cn = elim (cases_lt j k) [
  | inl low ↦
      let far_c : b + 2 ^ j ≤ c = apart (2 ^ j) b c dj (divides j k c (omega arith) dk) bc in
      elim (cases_lt i j) [
        | inl lower ↦
            let far_b : a + 2 ^ i ≤ b = apart (2 ^ i) a b di (divides i j b (omega arith) dj) ab in
            absurd (omega (arith, doubles i j lower))
        | inr high ↦
            let far_b : a + 2 ^ j ≤ b = apart (2 ^ j) a b (divides j i a high di) dj ab in
            omega arith
      ]
  | inr high ↦
      let far_c : b + 2 ^ k ≤ c = apart (2 ^ k) b c (divides k j b high dj) dk bc in
      elim (cases_lt i k) [
        | inl lower ↦
            let far_b : a + 2 ^ i ≤ b = apart (2 ^ i) a b di (divides i j b (omega arith) dj) ab in
            absurd (omega (arith, doubles i k lower))
        | inr higher ↦
            let far_b : a + 2 ^ k ≤ b = apart (2 ^ k) a b (divides k i a higher di) (divides k j b high dj) ab in
            elim (cases_lt k j) [
              | inr same ↦ let p : 2 ^ j ≤ 2 ^ k = pow_mono same in omega arith
              | inl more ↦ elim (cases_lt k i) [
                | inr same_too ↦ let p : 2 ^ i ≤ 2 ^ k = pow_mono same_too in omega arith
                | inl more_too ↦
                    let far : a + 2 ^ suc k ≤ b = apart (2 ^ suc k) a b (divides (suc k) i a (omega arith) di)
                    (divides (suc k) j b (omega arith) dj) ab in
                    omega (arith, pow-succ' 2 k)
              ]
            ]
      ]
]

-- from a kept step each step below n is reached in fewer steps than from there to n
pub stays_covers : (n : ℕ) (kept : List ℕ) → AreStaying n n kept → (t : ℕ) → t < n → (c : ℕ) × Contains kept c × (c ≤ t) × (2 * t < n + c)
stays_covers n kept staying t below =
    let far = n - t in
    let j = floorlog far in
    let m = 2 ^ j in
    let low : m ≤ far = floorlog-power far (omega arith) in
    let high : far < 2 * m = elim (cases_lt far (2 ^ suc j)) [
      | inl small ↦ omega (arith, pow-succ' 2 j)
      | inr large ↦ absurd (omega (arith, floorlog-greatest far (suc j) large))
    ] in
    let c = t / m * m in
    let whole : t % m + t / m * m ≡ t = mod-add-div' t m in
    let rest : t % m < m = mod_below t m (omega (arith, pow_pos j)) in
    let stays : Stays n c = (j, dvd-mul_left m (t / m), omega (arith, low, high, whole, rest)) in
    (c, (staying c).1 (omega (arith, whole), stays), omega (arith, whole), omega (arith, low, whole, rest))

-- where a step is past, the first one is kept
pub first_is_kept : (n : ℕ) (kept : List ℕ) → 0 < n → AreStaying n n kept → Contains kept 0
first_is_kept n kept past staying =
    let c = stays_covers n kept staying 0 past in
    let e : c.0 ≡ 0 = omega (arith, c.2) in
    rw e at c.1
