-- The floor logarithm.
use Rattle.std.proofs.Common.{ℕ, zero, suc, ◌^◌, ◌<◌, ◌≤◌, inl, inr, arith}
use Rattle.std.proofs.lemmas.Bool.Decides.{leb_tells}
use Rattle.std.proofs.lemmas.Bool.{cases_eq}
use Rattle.std.proofs.Math.Nat.{pow-succ'}
use Rattle.replay.specs.Memory.{floorlog, floorlog_upto}

floorlog_upto-greatest : (top n k : ℕ) → k ≤ top → 2 ^ k ≤ n → k ≤ floorlog_upto top n
floorlog_upto-greatest zero n k low power = low
floorlog_upto-greatest (suc top) n k low power = elim (leb_tells (2 ^ suc top) n) [
  | inl t ↦ rw t.0 low
  | inr f ↦ elim (cases_eq k (suc top)) [
    | inl e ↦ let p : 2 ^ suc top ≤ n = rw (← e) power in absurd (omega (arith, f.1, p))
    | inr ne ↦ rw f.0 (floorlog_upto-greatest top n k (omega (arith, ne)) power)
  ]
]

floorlog_upto-power : (top n : ℕ) → 1 ≤ n → 2 ^ floorlog_upto top n ≤ n
floorlog_upto-power zero n one = one
floorlog_upto-power (suc top) n one = elim (leb_tells (2 ^ suc top) n) [
  | inl t ↦ rw t.0 t.1
  | inr f ↦ rw f.0 (floorlog_upto-power top n one)
]

lt-power : (k : ℕ) → k < 2 ^ k
lt-power zero = omega arith
lt-power (suc k) = omega (arith, lt-power k, pow-succ' 2 k)

pub floorlog-greatest : (n k : ℕ) → 2 ^ k ≤ n → k ≤ floorlog n
unfolding floorlog
floorlog-greatest n k power = floorlog_upto-greatest n n k (omega (arith, lt-power k)) power

pub floorlog-power : (n : ℕ) → 1 ≤ n → 2 ^ floorlog n ≤ n
unfolding floorlog
floorlog-power n one = floorlog_upto-power n n one
