-- What a walk back by halves executes and holds.
use Rattle.std.proofs.Common.{◌≡◌, ℕ, zero, suc, ◌+◌, ◌*◌, ◌^◌, ◌≤◌, sym, ap, ◌∙◌, arith}
use Rattle.std.proofs.Math.Nat.{pow-succ'}
use Rattle.origins.specs.Walks.{AreFew, IsCheap}

doubled : (level : ℕ) → 2 ^ suc level ≡ 2 * 2 ^ level
doubled level = pow-succ' 2 level

spread : (left right level : ℕ) → (left + right) * suc level ≡ (left * level + right * level) + (left + right)
spread left right level = omega arith

-- no step is made for none, and for one that is seen where it stands
pub costs_nothing : (count old : ℕ) → IsCheap count old old
costs_nothing count old = λ level within. omega arith

-- two halves, of which the later one is a step longer at most
pub halves_cheap : (count left right old gone later new : ℕ) → 2 ≤ count → left + right ≡ count → left ≤ right → right ≤ left + 1
    → gone ≤ old + left → IsCheap right gone later → IsCheap left later new → IsCheap count old new
halves_cheap count left right old gone later new some is less near went back_later back = λ level within. on level within
  where
    on : (level : ℕ) → count ≤ 2 ^ level → 2 * new ≤ 2 * old + count * level
    on zero within = absurd (omega (arith, within, some))
    on (suc level) within =
        let twice = doubled level in
        let right_within : right ≤ 2 ^ level = omega (arith, within, twice, is, near) in
        let left_within : left ≤ 2 ^ level = omega (arith, right_within, less) in
        let one = back_later level right_within in
        let other = back level left_within in
        let whole : count * suc level ≡ (left * level + right * level)
        + (left + right) = ap (λ n. n * suc level) (sym is) ∙ spread left right level in
        omega (arith, one, other, whole, went, less)

pub halves_few : (count left right held before most : ℕ) → 2 ≤ count → left + right ≡ count → left ≤ right → right ≤ left + 1
    → AreFew right held → AreFew left before → ((n : ℕ) → held ≤ n → before ≤ n → most ≤ n + 1) → AreFew count most
halves_few count left right held before most some is less near later earlier greatest = λ level within. on level within
  where
    on : (level : ℕ) → count ≤ 2 ^ level → most ≤ level
    on zero within = absurd (omega (arith, within, some))
    on (suc level) within =
        let twice = doubled level in
        let right_within : right ≤ 2 ^ level = omega (arith, within, twice, is, near) in
        let left_within : left ≤ 2 ^ level = omega (arith, right_within, less) in
        let one = greatest level (later level right_within) (earlier level left_within) in
        omega (arith, one)
