-- The cells of a set, counted up.
use Rattle.std.proofs.Common.{◌≡◌, ℕ, zero, suc, ◌+◌, ◌-◌, ◌<◌, ◌≤◌, Bool, true, false, cond, nat_lt, Some, None, List, [], ◌∷◌, ◌++◌}
use Rattle.std.proofs.Common.{filter, refl, ap, ◌∙◌, sym, append_assoc, append-nil, arith}
use Rattle.std.proofs.lemmas.Bool.Decides.{nat_tests}
use Rattle.std.specs.List.{range_with_len}
use Rattle.std.specs.FinSet as set
use Rattle.origins.specs.Following.{CellSet, cell_count, cells_of}

-- the cell of a number
pub cell_is : (n c : ℕ) → n < cell_count → Some c ≡ cond (nat_lt n 0o5000) (Some n) None → c ≡ n
cell_is n c below e =
    let in_range : nat_lt n 0o5000 ≡ true = grind (arith, nat_tests) in
    let same : Some c ≡ Some n = e ∙ ap (λ b. cond b (Some n) None) in_range in
    cc

pub has_cell_at : (n : ℕ) → n < cell_count → None ≡ cond (nat_lt n 0o5000) (Some n) None → ⊥
has_cell_at n below e =
    let in_range : nat_lt n 0o5000 ≡ true = grind (arith, nat_tests) in
    let none : None ≡ Some n = e ∙ ap (λ b. cond b (Some n) None) in_range in
    absurd cc

range_next : (k n m : ℕ) → n + k ≡ m → k < m → range_with_len k n ≡ k ∷ range_with_len (k + 1) (m - (k + 1))
range_next k zero m e below = absurd (omega (arith, e))
range_next k (suc n) m e below = ap (λ i. k ∷ range_with_len (k + 1) i) (omega (arith, e))

filter_by : (p : ℕ → Bool) (k : ℕ) (xs : List ℕ) (b : Bool) → p k ≡ b → filter p (k ∷ xs) ≡ cond b (k ∷ filter p xs) (filter p xs)
filter_by p k xs true e = rw e refl
filter_by p k xs false e = rw e refl

-- of the cells from k on those for which something holds
pub counted : (ℕ → Bool) → ℕ → List ℕ
counted p k = filter p (range_with_len k (cell_count - k))

all_of : (p : ℕ → Bool) (n : ℕ) → filter p (range_with_len 0 (n - 0)) ≡ filter p (range_with_len 0 n)
all_of p n = ap (λ (m : ℕ). filter p (range_with_len 0 m)) (omega arith)

pub cells_start : (cells : CellSet) → counted (set.contains cells) 0 ≡ cells_of cells
unfolding counted cells_of
cells_start cells = all_of (set.contains cells) cell_count

pub cell_passed : (p : ℕ → Bool) (k : ℕ) (xs whole : List ℕ) → p k ≡ false → k < cell_count → xs ++ counted p k ≡ whole
    → xs ++ counted p (k + 1) ≡ whole
unfolding counted
cell_passed p k xs whole out below so_far =
    ap (λ (ys : List ℕ). xs ++ ys) (sym (ap (filter p) (range_next k (cell_count - k) cell_count (omega arith) below)
    ∙ filter_by p k _ false out)) ∙ so_far

pub cell_taken : (p : ℕ → Bool) (k : ℕ) (xs whole : List ℕ) → p k ≡ true → k < cell_count → xs ++ counted p k ≡ whole
    → (xs ++ k ∷ []) ++ counted p (k + 1) ≡ whole
unfolding counted
cell_taken p k xs whole in_set below so_far =
    append_assoc xs (k ∷ []) _
    ∙ ap (λ (ys : List ℕ). xs ++ ys) (sym (ap (filter p) (range_next k (cell_count - k) cell_count (omega arith) below)
    ∙ filter_by p k _ true in_set)) ∙ so_far

-- all of them were counted
pub cells_end : (p : ℕ → Bool) (k : ℕ) (xs whole : List ℕ) → cell_count ≤ k → xs ++ counted p k ≡ whole → xs ≡ whole
unfolding counted
cells_end p k xs whole past so_far =
    let none : cell_count - k ≡ 0 = omega (arith, past) in
    sym (append-nil xs) ∙ ap (λ (n : ℕ). xs ++ filter p (range_with_len k n)) (sym none) ∙ so_far
