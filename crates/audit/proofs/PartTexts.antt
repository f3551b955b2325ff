-- Texts that are written part by part, each part by a number from 0 on.
use Rattle.std.proofs.Common.{◌≡◌, ℕ, zero, suc, ◌+◌, ◌-◌, ◌<◌, List, ◌++◌, refl, sym, ◌∙◌, ap, arith, append_assoc, append-nil, subst}
use Rattle.std.specs.List.{range_with_len, flat_map}
use Rattle.words.specs.Devices.{WritesBeginning}
use Rattle.words.proofs.Texts.{append-then, beginning-after, beginning-longer}

-- what the numbers before n give
abbrev pub front : {A : Type 0} → (ℕ → List A) → ℕ → List A
front f n = flat_map f (range_with_len 0 n)

-- one number more
flat_range_more : {A : Type 0} (f : ℕ → List A) (n a k m : ℕ) → k ≡ suc n → m ≡ a + n
    → flat_map f (range_with_len a k) ≡ flat_map f (range_with_len a n) ++ f m
flat_range_more f zero a k m e at = let same : m ≡ a = omega arith in rw (e, same) (append-nil (f a))
flat_range_more f (suc n) a k m e at =
    rw e (ap (λ items. f a ++ items) (flat_range_more f n (a + 1) (suc n) m refl (omega arith))
    ∙ sym (append_assoc (f a) (flat_map f (range_with_len (a + 1) n)) (f m)))

-- one number more, from 0 on
pub front_more : {A : Type 0} (f : ℕ → List A) (n : ℕ) → front f (n + 1) ≡ front f n ++ f n
front_more f n = flat_range_more f n 0 (n + 1) n (omega arith) (omega arith)

-- a front, and then the numbers after it
pub front_split : {A : Type 0} (f : ℕ → List A) (m n whole : ℕ) → whole ≡ n + m
    → front f whole ≡ front f n ++ flat_map f (range_with_len n m)
front_split f zero n whole e = let same : whole ≡ n = omega arith in rw same (sym (append-nil (front f n)))
front_split f (suc m) n whole e =
    flat_range_more f (n + m) 0 whole (n + m) (omega arith) (omega arith)
    ∙ ap (λ items. items ++ f (n + m)) (front_split f m n (n + m) refl)
    ∙ append_assoc (front f n) (flat_map f (range_with_len n m)) (f (n + m))
    ∙ ap (λ items. front f n ++ items) (sym (flat_range_more f m n (suc m) (n + m) refl refl))

-- what numbers before n give stands, and then what n gives
pub items_more : {A : Type 0} (f : ℕ → List A) (n : ℕ) (a b c : List A) → b ≡ a ++ front f n → c ≡ b ++ f n → c ≡ a ++ front f (n + 1)
items_more f n a b c p q = rw (front_more f n, q, p) (append_assoc a (front f n) (f n))

pub items_end : {A : Type 0} (f : ℕ → List A) (n count : ℕ) (a b : List A) → n ≡ count → b ≡ a ++ front f n → b ≡ a ++ front f count
items_end f n count a b e p = subst (λ (k : ℕ). b ≡ a ++ front f k) e p

-- a front was written, and then the next part
pub writes_more : (f : ℕ → List ℕ) (n : ℕ) (a b c : List ℕ) → b ≡ a ++ front f n → c ≡ b ++ f n → c ≡ a ++ front f (n + 1)
writes_more f n a b c written next = rw (front_more f n) (append-then a b c (front f n) (f n) written next)

-- a front was written, and then a beginning of the next part: that is a beginning of all parts
pub begins_parts : (f : ℕ → List ℕ) (n count : ℕ) (a b c : List ℕ) → n < count → b ≡ a ++ front f n → WritesBeginning b c (f n)
    → WritesBeginning a c (front f count)
begins_parts f n count a b c lt written next =
    let more : WritesBeginning a c (front f n ++ f n) = beginning-after a b c (front f n) (f n) written next in
    let longer : WritesBeginning a c ((front f n ++ f n) ++ flat_map f (range_with_len (n + 1) (count - (n + 1)))) = beginning-longer a c
    (front f n ++ f n) _ more in
    rw (front_split f (count - (n + 1)) (n + 1) count (omega (arith, lt)), front_more f n) longer

-- a front up to the last number is all
pub front_ends : (f : ℕ → List ℕ) (n count : ℕ) (a b : List ℕ) → n ≡ count → b ≡ a ++ front f n → b ≡ a ++ front f count
front_ends f n count a b e written = subst (λ (k : ℕ). b ≡ a ++ front f k) e written
