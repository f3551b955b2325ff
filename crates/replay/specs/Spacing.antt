-- At which steps images are kept.
use Rattle.std.specs.Int.{◌∣◌}
use Rattle.std.specs.Prelude.{◌≡◌, ◌↔◌, ℕ, suc, ◌+◌, ◌*◌, ◌^◌, ◌<◌, ◌≤◌, List, Contains}

-- the image of step c stays at step n: n is less than three times a power of two after c of which c is a multiple
abbrev pub Stays : ℕ → ℕ → Type 0
Stays n c = (v : ℕ) × (2 ^ v ∣ c) × (n + 2 ≤ c + 3 * 2 ^ v)

-- the kept steps are those below n that stay at step m
abbrev pub AreStaying : ℕ → ℕ → List ℕ → Type 0
AreStaying n m kept = (c : ℕ) → Contains kept c ↔ ((c < n) × Stays m c)

-- of the images that stay at step n - 1, those fall out at step n whose distance is 3 · 2 ^ i - 1 for an i below j
pub record FallOut (n j : ℕ) : Type 0 where
  pub each : (i : ℕ) → i < j → (2 ^ suc i ∣ n + 1) × (3 * 2 ^ i ≤ n)
  pub no_other : 2 ^ suc j ∣ n + 1 → n < 3 * 2 ^ j

-- older is the greatest kept step below t
pub record IsPrevious (kept : List ℕ) (t older : ℕ) : Type 0 where
  pub kept_too : Contains kept older
  pub before : older < t
  pub greatest : (x : ℕ) → Contains kept x → x < t → x ≤ older

-- gap is a power of two of which step c is a multiple or not, and which is great enough for the image of c to stay at step n
pub record IsNeeded (n c gap : ℕ) : Type 0 where
  pub power : (v : ℕ) × (gap ≡ 2 ^ v)
  pub enough : n + 2 ≤ c + 3 * gap
