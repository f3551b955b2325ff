-- The first symbol that stands for a place, kept for each place.
use Rattle.std.proofs.Common.{◌≡◌, ℕ, zero, suc, ◌+◌, ◌*◌, ◌<◌, ◌≤◌, ◌==◌, ◌≢◌, Bool, true, false, cond, List, [], ◌∷◌, length, drop, find}
use Rattle.std.proofs.Common.{get_or, set, replicate, Option, None, Some, refl, sym, ap, ◌∙◌, arith, subst}
use Rattle.std.proofs.lemmas.List.{get_or-set_same, get_or-set_other, get_or-replicate, length-set}
use Rattle.std.proofs.lemmas.Bool.Decides.{nat_tests}
use Rattle.std.specs.Prelude.{slice_get}
use Rattle.std.specs.Borrow.{Bor}
use Rattle.std.specs.Option.{option_map}
use Rattle.space.specs.declared.place.Linear.{Linear}
use Rattle.space.specs.declared.place.Linear.TheVariants as linear
use Rattle.symbols.specs.declared.values.Value.{Value}
use Rattle.symbols.specs.declared.values.Value.TheVariants.{Num, Erasable, Fixed}
use Rattle.trace.specs.PlaceNumbers.{place_number, IsPlace, place_count, place_shown, AreFirst}
use Rattle.symbols.specs.Values.{SymbolTable}
use Rattle.trace.specs.TraceLines.{stands_for, symbol_at}

-- from one on: that one, or from the next on
find_from : {A : Type 0} (f : A → Bool) (xs : List A) (i : ℕ) (x : A) → Some x ≡ slice_get xs i
    → find f (drop i xs) ≡ cond (f x) (Some x) (find f (drop (suc i) xs))
find_from f [] i x e = let no : Some x ≡ None = e in cc
find_from f (y ∷ xs) zero x e = let same : Some x ≡ Some y = e in let here : x ≡ y = cc in rw here refl
find_from f (y ∷ xs) (suc i) x e = find_from f xs i x e

past_end : {A : Type 0} (f : A → Bool) (xs : List A) (n : ℕ) → length xs ≤ n → find f (drop n xs) ≡ None
past_end f [] zero h = refl
past_end f [] (suc n) h = refl
past_end f (y ∷ xs) zero h = absurd (omega arith)
past_end f (y ∷ xs) (suc n) h = past_end f xs n (omega arith)

-- no two places have one number
erasable_is : (p : Linear) (n : ℕ) → IsPlace p → n < 0o4000 → stands_for p (Erasable n) ≡ (place_number p == n)
erasable_is (linear.Erasable p) n hp hn = refl
erasable_is (linear.Fixed bank offset) n hp hn = grind (arith, nat_tests)

fixed_is : (p : Linear) (b n : ℕ) → IsPlace p → (b < 0o50) × (n < 0o2000)
    → stands_for p (Fixed b n) ≡ (place_number p == 0o4000 + (0o2000 * b + n))
fixed_is (linear.Erasable p) b n hp hn = let within : n < 0o2000 = hn.1 in grind (arith, nat_tests)
fixed_is (linear.Fixed bank offset) b n hp hn = let within : n < 0o2000 = hn.1 in let other : offset
    < 0o2000 = hp.1 in grind (arith, nat_tests)

stands_is : (p q : Linear) (v : Value) → IsPlace p → IsPlace q → Some q ≡ place_shown v
    → stands_for p v ≡ (place_number p == place_number q)
stands_is p q (Num n) hp hq e = let no : Some q ≡ None = e in cc
stands_is p q (Erasable n) hp hq e = let same : q ≡ linear.Erasable n = cc in
    let hn : IsPlace (linear.Erasable n) = subst IsPlace same hq in rw same (erasable_is p n hp hn)
stands_is p q (Fixed b n) hp hq e = let same : q ≡ linear.Fixed b n = cc in
    let hn : IsPlace (linear.Fixed b n) = subst IsPlace same hq in rw same (fixed_is p b n hp hn)

stands_nowhere : (p : Linear) (v : Value) → None ≡ place_shown v → stands_for p v ≡ false
stands_nowhere (linear.Erasable p) (Num n) e = refl
stands_nowhere (linear.Fixed bank offset) (Num n) e = refl
stands_nowhere p (Erasable n) e = let no : None ≡ Some (linear.Erasable n) = e in cc
stands_nowhere p (Fixed b n) e = let no : None ≡ Some (linear.Fixed b n) = e in cc

past_the_last : (symbols : SymbolTable) (n : ℕ) → length symbols ≤ n → slice_get symbols n ≡ None
past_the_last [] n h = refl
past_the_last (s ∷ symbols) zero h = absurd (omega arith)
past_the_last (s ∷ symbols) (suc n) h = past_the_last symbols n (omega arith)

within_count : (place : Linear) → IsPlace place → place_number place < place_count
within_count (linear.Erasable p) h = omega arith
within_count (linear.Fixed bank offset) h = omega (arith, h.0, h.1)

-- past the last symbol there is none
pub none_first : (symbols : SymbolTable) (n : ℕ) (positions : List ℕ) → n ≡ length symbols → length positions ≡ place_count
    → positions ≡ replicate place_count n → AreFirst symbols n positions
none_first symbols n positions e len kept = record {
  len = len;
  first = λ place within.
      ap (λ xs. slice_get symbols (get_or xs (place_number place) 0)) kept
      ∙ ap (slice_get symbols) (get_or-replicate place_count (place_number place) n 0 (within_count place within))
      ∙ past_the_last symbols n (omega arith) ∙ sym (past_end (λ s. stands_for place s.1) symbols n (omega arith));
}

pub within_stands : (symbols : SymbolTable) (i : ℕ) → i < length symbols → None ≡ slice_get symbols i → ⊥
within_stands [] i h e = omega arith
within_stands (s ∷ symbols) zero h e = let no : None ≡ Some s = e in cc
within_stands (s ∷ symbols) (suc i) h e = within_stands symbols i (omega arith) e

-- a symbol that stands for no place is passed over
pub first_passed : (symbols : SymbolTable) (i : ℕ) (x : List ℕ × Value) (positions : List ℕ) → Some x ≡ slice_get symbols i
    → None ≡ place_shown x.1 → AreFirst symbols (i + 1) positions → AreFirst symbols i positions
first_passed symbols i x positions at shown after = record {
  len = after.len;
  first = λ place within.
      let next : i + 1 ≡ suc i = omega arith in
      after.first place within ∙ ap (λ n. find (λ s. stands_for place s.1) (drop n symbols)) next
      ∙ sym (find_from (λ s. stands_for place s.1) symbols i x at
      ∙ ap (λ b. cond b (Some x) (find (λ s. stands_for place s.1) (drop (suc i) symbols))) (stands_nowhere place x.1 shown));
}

kept : (symbols : SymbolTable) (i p q : ℕ) (x : List ℕ × Value) (positions : List ℕ) (b : Bool) (rest : Option (List ℕ × Value))
    → Some x ≡ slice_get symbols i → q < length positions
    → b ≡ (p == q) → slice_get symbols (get_or positions p 0) ≡ rest
    → slice_get symbols (get_or (set positions q i) p 0) ≡ cond b (Some x) rest
kept symbols i p q x positions true rest at h e after = let same : p
    ≡ q = grind (arith, nat_tests) in rw (same, get_or-set_same positions q i 0 h)
    (sym at)
kept symbols i p q x positions false rest at h e after = let other : p ≢ q = λ same. grind (arith, nat_tests) in rw
    (get_or-set_other positions q p i 0 other) after

-- a symbol is the first for its place, from itself on
pub first_kept : (symbols : SymbolTable) (i : ℕ) (x : List ℕ × Value) (q : Linear) (n : ℕ) (positions : List ℕ)
    → Some x ≡ slice_get symbols i → Some q ≡ place_shown x.1 → IsPlace q
    → n ≡ place_number q → AreFirst symbols (i + 1) positions → AreFirst symbols i (set positions n i)
first_kept symbols i x q n positions at shown hq e after = record {
  len = length-set positions n i ∙ after.len;
  first = λ place within.
      let next : i + 1 ≡ suc i = omega arith in
      let room : n < length positions = rw e (omega (arith, within_count q hq, after.len)) in
      let is : stands_for place x.1 ≡ (place_number place == n) = rw e (stands_is place q x.1 within hq shown) in
      kept symbols i (place_number place) n x positions _ _ at room is
      (after.first place within ∙ ap (λ n. find (λ s. stands_for place s.1) (drop n symbols)) next)
      ∙ sym (find_from (λ s. stands_for place s.1) symbols i x at);
}

names_of : (e : Option (Bor (List ℕ) × Value))
    → option_map {T = Bor (List ℕ) × Value} (λ s. s.0.now) e
    ≡ option_map {T = List ℕ × Value} (λ s. s.0) (option_map {T = Bor (List ℕ) × Value} (λ s. (s.0.now, s.1)) e)
names_of None = refl
names_of (Some s) = refl

-- the symbol at the position that is kept for a place
pub named : (symbols : SymbolTable) (positions : List ℕ) (place : Linear) (i : ℕ) (e : Option (Bor (List ℕ) × Value))
    → AreFirst symbols 0 positions → IsPlace place
    → get_or positions (place_number place) 0 ≡ i → option_map {T = Bor (List ℕ) × Value} (λ s. (s.0.now, s.1)) e ≡ slice_get symbols i
    → option_map {T = Bor (List ℕ) × Value} (λ s. s.0.now) e ≡ symbol_at symbols place
unfolding symbol_at
named symbols positions place i e are within here there =
    let found : option_map {T = Bor (List ℕ) × Value} (λ s. (s.0.now, s.1)) e
    ≡ find (λ s. stands_for place s.1) symbols = there ∙ ap (slice_get symbols) (sym here) ∙ are.first place within in
    names_of e ∙ ap (option_map {T = List ℕ × Value} (λ s. s.0)) found

-- the symbols gone over, one after another
pub next_sought : (symbols : SymbolTable) (place : Linear) (i : ℕ) (x : List ℕ × Value) → Some x ≡ slice_get symbols i
    → stands_for place x.1 ≡ false
    → find (λ e. stands_for place e.1) symbols ≡ find (λ e. stands_for place e.1) (drop i symbols)
    → find (λ e. stands_for place e.1) symbols ≡ find (λ e. stands_for place e.1) (drop (i + 1) symbols)
next_sought symbols place i x at other so_far =
    let next : suc i ≡ i + 1 = omega arith in
    so_far ∙ find_from (λ e. stands_for place e.1) symbols i x at
    ∙ ap (λ b. cond b (Some x) (find (λ e. stands_for place e.1) (drop (suc i) symbols))) other
    ∙ ap (λ n. find (λ e. stands_for place e.1) (drop n symbols)) next

pub found_there : (symbols : SymbolTable) (place : Linear) (i : ℕ) (x : List ℕ × Value) → Some x ≡ slice_get symbols i
    → stands_for place x.1 ≡ true
    → find (λ e. stands_for place e.1) symbols ≡ find (λ e. stands_for place e.1) (drop i symbols) → Some x.0 ≡ symbol_at symbols place
unfolding symbol_at
found_there symbols place i x at same so_far =
    sym (ap (option_map (λ (e : List ℕ × Value). e.0))
    (so_far ∙ find_from (λ e. stands_for place e.1) symbols i x at
    ∙ ap (λ b. cond b (Some x) (find (λ e. stands_for place e.1) (drop (suc i) symbols))) same))

pub none_left : (symbols : SymbolTable) (place : Linear) (i : ℕ) → length symbols ≤ i
    → find (λ e. stands_for place e.1) symbols ≡ find (λ e. stands_for place e.1) (drop i symbols) → None ≡ symbol_at symbols place
unfolding symbol_at
none_left symbols place i past so_far = sym (ap (option_map (λ (e : List ℕ × Value). e.0))
    (so_far ∙ past_end (λ e. stands_for place e.1) symbols i past))
