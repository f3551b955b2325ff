-- The lowest breakpoint that holds.
use Rattle.std.proofs.Common.{◌≡◌, ℕ, ◌+◌, ◌<◌, ◌≤◌, Bool, true, false, List, length, get_or, Some, None, cond, ltb, refl, arith}
use Rattle.std.specs.Option.{option_map}
use Rattle.std.specs.List.{position, position_or_len}
use Rattle.std.proofs.lemmas.List.Sums.{position_or_len_is}
use Rattle.std.proofs.lemmas.Bool.Decides.{nat_tests}

at_length : {X : Type 0} (xs : List X) (i : ℕ) → i < length xs → cond (ltb i (length xs)) (Some i) None ≡ Some i
at_length xs i h = grind (arith, nat_tests)

past_length : {X : Type 0} (xs : List X) (i : ℕ) → length xs ≤ i → cond (ltb i (length xs)) (Some i) None ≡ None
past_length xs i h = grind (arith, nat_tests)

-- the first that passes
pub first_found : {X : Type 0} (p : X → Bool) (xs : List X) (i n : ℕ) (d : X) → i < length xs → n ≡ i + 1
    → ((k : ℕ) → k < i → p (get_or xs k d) ≡ false) → p (get_or xs i d) ≡ true → Some n ≡ option_map (λ k. k + 1) (position p xs)
first_found p xs i n d h e before here =
    let at : position_or_len p xs ≡ i = position_or_len_is p xs i d (omega arith) before (λ _. here) in
    rw (at, at_length xs i h, e) refl

-- none passes
pub none_found : {X : Type 0} (p : X → Bool) (xs : List X) (i : ℕ) (d : X) → i ≡ length xs
    → ((k : ℕ) → k < i → p (get_or xs k d) ≡ false) → None ≡ option_map (λ (k : ℕ). k + 1) (position p xs)
none_found p xs i d e before =
    let at : position_or_len p xs ≡ i = position_or_len_is p xs i d (omega arith) before (λ h. absurd (omega arith)) in
    rw (at, past_length xs i (omega arith)) refl
