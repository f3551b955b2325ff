-- And, or, exclusive or as sums over bit numbers.
use Rattle.std.specs.Prelude.{ℕ, zero, suc, ◌+◌, ◌*◌, ◌%◌, ◌^◌, min, max}
use Rattle.std.specs.Int.{bit_at}

-- the number whose bit i, for each i below k, is f i
abbrev pub bit_sum : ℕ → (ℕ → ℕ) → ℕ
bit_sum zero f = 0
bit_sum (suc k) f = bit_sum k f + f k * 2 ^ k

unfoldable pub and_sum : ℕ → ℕ → ℕ → ℕ
and_sum k x y = bit_sum k (λ i. min (bit_at x i) (bit_at y i))

unfoldable pub or_sum : ℕ → ℕ → ℕ → ℕ
or_sum k x y = bit_sum k (λ i. max (bit_at x i) (bit_at y i))

unfoldable pub xor_sum : ℕ → ℕ → ℕ → ℕ
xor_sum k x y = bit_sum k (λ i. (bit_at x i + bit_at y i) % 2)
