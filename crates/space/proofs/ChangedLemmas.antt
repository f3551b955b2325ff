-- The places that read differently, one place after another.
use Rattle.std.proofs.Common.{◌≡◌, ℕ, zero, suc, ◌++◌, ◌+◌, ◌/◌, ◌%◌, ◌^◌, ◌≤◌, ◌<◌, ◌≢◌, take, drop, set, length-set, length-append, Bool}
use Rattle.std.proofs.Common.{true, false, cond, not, ◌==◌, eqb, List, [], ◌∷◌, filter, length, refl, sym, ap, ◌∙◌, arith}
use Rattle.std.proofs.lemmas.List.{map-id, append-nil, take_more_set, drop-set-lt}
use Rattle.std.proofs.lemmas.List.Elements.{filter-append}
use Rattle.std.proofs.lemmas.List.FromFn.{map-range_with_len_more}
use Rattle.std.specs.List.{range_with_len}
use Rattle.std.proofs.lemmas.Grind.{drop_more_same}
use Rattle.std.proofs.Math.Nat.{zero-div}
use Rattle.space.specs.Cells.{Cells, get, changed_below, erasable_count}

range_more : (a n : ℕ) → range_with_len a (n + 1) ≡ range_with_len a n ++ (a + n) ∷ []
range_more a n =
    sym (map-id _) ∙ map-range_with_len_more (λ x. x) a n (a + n) refl ∙ ap (λ l. l ++ (a + n) ∷ []) (map-id _)

pub changed_below-none : (s t : Cells) → changed_below s t 0 ≡ []
unfolding changed_below
changed_below-none s t = refl

last : (b : Bool) (xs : List ℕ) (n : ℕ) → xs ++ cond b (n ∷ []) [] ≡ cond b (xs ++ n ∷ []) xs
last true xs n = refl
last false xs n = append-nil xs

kept_last : (p : ℕ → Bool) (xs : List ℕ) (m n : ℕ) → m ≡ n → xs ++ filter p (m ∷ []) ≡ cond (p n) (xs ++ n ∷ []) xs
kept_last p xs m n e = rw e (last (p n) xs n)

changed_below-more : (s t : Cells) (n : ℕ) → changed_below s t (n + 1)
    ≡ cond (not (eqb (get s n) (get t n))) (changed_below s t n ++ n ∷ []) (changed_below s t n)
unfolding changed_below
changed_below-more s t n =
    let p : ℕ → Bool = λ k. not (eqb (get s k) (get t k)) in
    ap (filter p) (range_more 0 n) ∙ filter-append p (range_with_len 0 n) ((0 + n) ∷ [])
    ∙ kept_last p _ (0 + n) n (omega arith)

-- whether a place reads differently
abbrev pub differs : Cells → Cells → ℕ → Bool
differs s t n = not (get s n == get t n)

changed_here : (s t : Cells) (n : ℕ) → differs s t n ≡ true → changed_below s t (n + 1) ≡ changed_below s t n ++ n ∷ []
changed_here s t n h = changed_below-more s t n ∙ ap (λ b. cond b (changed_below s t n ++ n ∷ []) (changed_below s t n)) h

unchanged_here : (s t : Cells) (n : ℕ) → differs s t n ≡ false → changed_below s t (n + 1) ≡ changed_below s t n
unchanged_here s t n h = changed_below-more s t n ∙ ap (λ b. cond b (changed_below s t n ++ n ∷ []) (changed_below s t n)) h

-- the places below n that read differently stand at the front of an array, and the rest of it is as before
pub record HandsOver (s t : Cells) (n count : ℕ) (old places : List ℕ) : Type 0 where
  pub few : count ≤ n
  pub whole : length places ≡ erasable_count
  pub front : take count places ≡ changed_below s t n
  pub all : count ≡ length (changed_below s t n)
  pub rest : drop count places ≡ drop count old

pub HandsOver-none : (s t : Cells) (places : List ℕ) → length places ≡ erasable_count → HandsOver s t 0 0 places places
HandsOver-none s t places whole = record {
  few = omega arith;
  whole = whole;
  front = sym (changed_below-none s t);
  all = rw (changed_below-none s t) refl;
  rest = refl;
}

pub HandsOver-changed : (s t : Cells) (n count : ℕ) (old places : List ℕ) → HandsOver s t n count old places → n < erasable_count
    → differs s t n ≡ true
    → HandsOver s t (n + 1) (count + 1) old (set places count n)
HandsOver-changed s t n count old places before lt ne = record {
  few = omega (arith, before.few);
  whole = length-set places count n ∙ before.whole;
  front = take_more_set places count n (omega (arith, before.few, before.whole)) ∙ ap (λ l. l ++ n ∷ []) before.front
      ∙ sym (changed_here s t n ne);
  all = rw (changed_here s t n ne, length-append) (omega (arith, before.all));
  rest = drop-set-lt (count + 1) places count n (omega arith) ∙ drop_more_same places old count before.rest;
}

pub HandsOver-unchanged : (s t : Cells) (n count : ℕ) (old places : List ℕ) → HandsOver s t n count old places → differs s t n ≡ false
    → HandsOver s t (n + 1) count old places
HandsOver-unchanged s t n count old places before same = record {
  few = omega (arith, before.few);
  whole = before.whole;
  front = before.front ∙ sym (unchanged_here s t n same);
  all = before.all ∙ ap length (sym (unchanged_here s t n same));
  rest = before.rest;
}

-- the bit that tells of a place whether it reads differently
pub bit-differs : (b : Bool) (n : ℕ) → n ≡ cond b 0 1 → n ≡ 1 → not b ≡ true
bit-differs true n bit set = absurd (omega arith)
bit-differs false n bit set = refl

pub bit-same : (b : Bool) (n : ℕ) → n ≡ cond b 0 1 → n ≢ 1 → not b ≡ false
bit-same true n bit clear = refl
bit-same false n bit clear = absurd (clear bit)

pub HandsOver-at : (s t : Cells) (n m count : ℕ) (old places : List ℕ) → n ≡ m → HandsOver s t n count old places
    → HandsOver s t m count old places
HandsOver-at s t n m count old places e before = rw (← e) before

-- some places that read the same are passed over
pub HandsOver-passed : (s t : Cells) (n count m : ℕ) (old places : List ℕ) → HandsOver s t n count old places
    → ((k : ℕ) → k < m → differs s t (n + k) ≡ false)
    → HandsOver s t (n + m) count old places
HandsOver-passed s t n count zero old places before same = HandsOver-at s t n (n + 0) count old places (omega arith) before
HandsOver-passed s t n count (suc m) old places before same =
    let passed = HandsOver-passed s t n count m old places before (λ k lt. same k (omega arith)) in
    HandsOver-at s t (n + m + 1) (n + suc m) count old places (omega arith)
    (HandsOver-unchanged s t (n + m) count old places passed (same m (omega arith)))

-- a mask with no bit tells that all places of a chunk read the same
pub no-bits : (s t : Cells) (first mask : ℕ) → mask ≡ 0
    → ((k : ℕ) → k < 32 → mask / 2 ^ k % 2 ≡ cond (get s (first + k) == get t (first + k)) 0 1) → (k : ℕ) → k < 32
    → differs s t (first + k) ≡ false
no-bits s t first mask none bits k lt =
    let clear : mask / 2 ^ k % 2 ≡ 0 = ap (λ m. m / 2 ^ k % 2) none ∙ ap (λ m. m % 2) (zero-div (2 ^ k)) in
    bit-same (get s (first + k) == get t (first + k)) (mask / 2 ^ k % 2) (bits k lt) (λ e. omega arith)
