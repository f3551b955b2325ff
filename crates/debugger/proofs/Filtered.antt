-- The numbers from 0 on for which something holds, one more at a time: their lines, and how many they are.
use Rattle.std.proofs.Common.{◌≡◌, ℕ, ◌+◌, ◌≤◌, arith, Bool, true, false, cond, List, [], ◌∷◌, ◌++◌, length, filter, refl, sym, ◌∙◌, ap}
use Rattle.std.proofs.Common.{append_assoc, length-append}
use Rattle.std.specs.List.{range_with_len, flat_map}
use Rattle.audit.proofs.PartTexts.{front_more}

-- the part of a number, which is nothing where it does not hold
abbrev part : {A : Type 0} → (ℕ → Bool) → (ℕ → List A) → ℕ → List A
part p f k = cond (p k) (f k) []

first_part : {A : Type 0} (p : ℕ → Bool) (f : ℕ → List A) (k : ℕ) (xs : List ℕ) (b : Bool) → p k ≡ b
    → flat_map f (filter p (k ∷ xs)) ≡ cond b (f k) [] ++ flat_map f (filter p xs)
first_part p f k xs true e = rw e refl
first_part p f k xs false e = rw e refl

all_parts : {A : Type 0} (p : ℕ → Bool) (f : ℕ → List A) (xs : List ℕ) → flat_map f (filter p xs) ≡ flat_map (part p f) xs
all_parts p f [] = refl
all_parts p f (k ∷ xs) = first_part p f k xs (p k) refl ∙ ap (λ rest. part p f k ++ rest) (all_parts p f xs)

-- the lines of one number more
parts_more : {A : Type 0} (p : ℕ → Bool) (f : ℕ → List A) (n : ℕ)
    → flat_map f (filter p (range_with_len 0 (n + 1))) ≡ flat_map f (filter p (range_with_len 0 n)) ++ cond (p n) (f n) []
parts_more p f n =
    all_parts p f (range_with_len 0 (n + 1)) ∙ front_more (part p f) n
    ∙ ap (λ front. front ++ part p f n) (sym (all_parts p f (range_with_len 0 n)))

singles : (xs : List ℕ) → flat_map (λ k. k ∷ []) xs ≡ xs
singles [] = refl
singles (k ∷ xs) = ap (λ rest. k ∷ rest) (singles xs)

one_or_none : (k : ℕ) (b : Bool) → length (cond b (k ∷ []) []) ≡ cond b 1 0
one_or_none k true = refl
one_or_none k false = refl

-- how many there are with one number more
pub count_more : (p : ℕ → Bool) (n m count new : ℕ) → m ≡ n → count ≡ length (filter p (range_with_len 0 n)) → new ≡ count + cond (p m) 1 0
    → new ≡ length (filter p (range_with_len 0 (n + 1)))
count_more p n m count new same so_far is =
    let one : filter p (range_with_len 0 (n + 1)) ≡ filter p (range_with_len 0 n) ++ cond (p n) (n ∷ []) [] =
    sym (singles (filter p (range_with_len 0 (n + 1)))) ∙ parts_more p (λ k. k ∷ []) n
    ∙ ap (λ front. front ++ cond (p n) (n ∷ []) []) (singles (filter p (range_with_len 0 n))) in
    is ∙ ap (λ (k : ℕ). count + cond (p k) 1 0) same ∙ ap (λ (k : ℕ). k + cond (p n) 1 0) so_far
    ∙ ap (λ (k : ℕ). length (filter p (range_with_len 0 n)) + k) (sym (one_or_none n (p n)))
    ∙ sym (ap length one ∙ length-append (filter p (range_with_len 0 n)) (cond (p n) (n ∷ []) []))

-- their lines with one number more
pub lines_more : (p : ℕ → Bool) (f : ℕ → List ℕ) (n m : ℕ) (old text new : List ℕ) → m ≡ n
    → text ≡ old ++ flat_map f (filter p (range_with_len 0 n)) → new ≡ text ++ cond (p m) (f m) []
    → new ≡ old ++ flat_map f (filter p (range_with_len 0 (n + 1)))
lines_more p f n m old text new same so_far is =
    is ∙ ap (λ (k : ℕ). text ++ cond (p k) (f k) []) same ∙ ap (λ (front : List ℕ). front ++ cond (p n) (f n) []) so_far
    ∙ append_assoc old (flat_map f (filter p (range_with_len 0 n))) (cond (p n) (f n) [])
    ∙ ap (λ (rest : List ℕ). old ++ rest) (sym (parts_more p f n))

-- at most one more
pub at_most_one : (b : Bool) → cond b 1 0 ≤ 1
at_most_one true = omega arith
at_most_one false = omega arith
