-- The requests that flags stand for.
use Rattle.std.proofs.Common.{◌≡◌, ℕ, zero, suc, ◌+◌, ◌-◌, ◌≤◌, ◌≢◌, Bool, true, false, cond, ◌&&◌, ◌||◌, not, eqb, ltb, leb, List, ◌∷◌}
use Rattle.std.proofs.Common.{filter, find, Some, get_or, set, length, replicate, None, refl, sym, ap, ◌∙◌, arith, slice_index_or, ⊎_elim}
use Rattle.std.proofs.lemmas.Bool.Decides.{nat_tests}
use Rattle.std.proofs.lemmas.Bool.{both_ways, cases_eq, cases_lt}
use Rattle.std.proofs.lemmas.List.{get_or-set_same, get_or-set_other, get_or-replicate, get_or_past, length-replicate}
use Rattle.std.specs.List.{range_with_len, list_any}
use Rattle.std.specs.Prelude.{nat_eq}
use Rattle.std.specs.Ordering.{nat_cmp, eq_by_cmp}
use Rattle.std.specs.Cmp.{nat_cmp_total}
use Rattle.std.specs.FinSet.{FinSet, contains, insert, remove, from_list, contains-from_list_nat, contains-insert, contains-remove}
use Rattle.std.specs.FinSet.{same_set, nat_cmp-IsAntisymmetric}
use Rattle.cpu.specs.State.{State}
use Rattle.cpu.specs.Representation.{requests_of}

any_cons : (q a : ℕ) (b : Bool) (r : List ℕ) → list_any (λ y. nat_eq y q) (cond b (a ∷ r) r)
    ≡ ((eqb q a && b) || list_any (λ y. nat_eq y q) r)
any_cons q a true r = grind (arith, nat_tests)
any_cons q a false r = grind (arith, nat_tests)

joined : (p : ℕ → Bool) (q a n : ℕ) (x y : Bool) → p a ≡ x → p q ≡ y
    → ((eqb q a && x) || (leb (a + 1) q && ltb q (a + 1 + n) && y)) ≡ (leb a q && ltb q (a + suc n) && y)
joined p q a n true true e d = grind (arith, nat_tests)
joined p q a n true false e d =
    let ne : q ≢ a = λ h. both_ways (p q) d (ap p h ∙ e) in grind (arith, nat_tests)
joined p q a n false true e d =
    let ne : q ≢ a = λ h. both_ways (p q) (ap p h ∙ e) d in grind (arith, nat_tests)
joined p q a n false false e d = grind (arith, nat_tests)

pub any-filter : (p : ℕ → Bool) (q a n : ℕ) → list_any (λ y. nat_eq y q) (filter p (range_with_len a n)) ≡ (leb a q && ltb q (a + n) && p q)
any-filter p q a zero = grind (arith, nat_tests)
any-filter p q a (suc n) =
    any_cons q a (p a) (filter p (range_with_len (a + 1) n))
    ∙ ap (λ r. (eqb q a && p a) || r) (any-filter p q (a + 1) n)
    ∙ joined p q a n (p a) (p q) refl refl

set_of : List Bool → ℕ → ℕ → FinSet nat_cmp
set_of flags a n = from_list {R = nat_cmp} (filter (λ k. slice_index_or flags (k - 1) false) (range_with_len a n))

contains_of : (flags : List Bool) (q a n : ℕ) → contains (set_of flags a n) q ≡ (leb a q && ltb q (a + n) && get_or flags (q - 1) false)
unfolding set_of
contains_of flags q a n = contains-from_list_nat _ q ∙ any-filter _ q a n

-- a request stands where its flag is set
pub contains-requests : (flags : List Bool) (q : ℕ) → contains (requests_of flags) q ≡ (leb 1 q && ltb q 11 && get_or flags (q - 1) false)
unfolding requests_of set_of
contains-requests flags q = contains_of flags q 1 10

changed_other : (flags : List Bool) (q k : ℕ) (v : Bool) → q ≢ k → 1 ≤ k
    → (leb 1 q && ltb q 11 && get_or (set flags (k - 1) v) (q - 1) false) ≡ (leb 1 q && ltb q 11 && get_or flags (q - 1) false)
changed_other flags zero k v ne low = refl
changed_other flags (suc q) k v ne low =
    ap (λ b. leb 1 (suc q) && ltb (suc q) 11 && b) (get_or-set_other flags (k - 1) (suc q - 1) v false (λ h. ne (omega arith)))

pub contains_asked : (flags : List Bool) (k i : ℕ) → 1 ≤ k → k ≤ 10 → i + 1 ≡ k → get_or flags i false ≡ contains (requests_of flags) k
contains_asked flags k i low high e = let at : i ≡ k - 1 = omega arith in rw at (sym (contains-requests flags k ∙ grind (arith, nat_tests)))

pub requests-clear : (flags : List Bool) (k : ℕ) → 1 ≤ k → k ≤ 10 → length flags ≡ 10
    → requests_of (set flags (k - 1) false) ≡ remove (requests_of flags) k
requests-clear flags k low high l =
    same_set nat_cmp_total nat_cmp-IsAntisymmetric _ _ (λ q.
    contains-requests (set flags (k - 1) false) q
    ∙ ⊎_elim
    (λ e. let g = get_or-set_same flags (k - 1) false false (omega arith) in let i : q - 1
    ≡ k - 1 = omega arith in let w : get_or
    (set flags (k - 1) false)
    (q - 1) false ≡ false = rw i g in grind (arith, nat_tests))
    (λ ne. changed_other flags q k false ne low ∙ grind (arith, nat_tests))
    (cases_eq q k)
    ∙ sym (contains-remove nat_cmp_total (requests_of flags) k q ∙ ap (λ b. not (eq_by_cmp nat_cmp q k) && b) (contains-requests flags q)))

pub requests-set : (flags : List Bool) (k : ℕ) → 1 ≤ k → k ≤ 10 → length flags ≡ 10
    → requests_of (set flags (k - 1) true) ≡ insert (requests_of flags) k
requests-set flags k low high l =
    same_set nat_cmp_total nat_cmp-IsAntisymmetric _ _ (λ q.
    contains-requests (set flags (k - 1) true) q
    ∙ ⊎_elim
    (λ e. let g = get_or-set_same flags (k - 1) true false (omega arith) in let i : q - 1
    ≡ k - 1 = omega arith in let w : get_or
    (set flags (k - 1) true)
    (q - 1) false ≡ true = rw i g in grind (arith, nat_tests))
    (λ ne. changed_other flags q k true ne low ∙ grind (arith, nat_tests))
    (cases_eq q k)
    ∙ sym (contains-insert nat_cmp_total (requests_of flags) k q ∙ ap (λ b. eq_by_cmp nat_cmp q k || b) (contains-requests flags q)))

flag_true : (flags : List Bool) (k : ℕ) → 1 ≤ k → k ≤ 10 → get_or flags (k - 1) false ≡ true → contains (requests_of flags) k ≡ true
flag_true flags k low high e = contains-requests flags k ∙ grind (arith, nat_tests)

flag_false : (flags : List Bool) (k : ℕ) → get_or flags (k - 1) false ≡ false → contains (requests_of flags) k ≡ false
flag_false flags k e = contains-requests flags k ∙ grind (arith, nat_tests)

range_first : (k n : ℕ) → k ≤ 10 → n ≡ 11 - k → range_with_len k n ≡ k ∷ range_with_len (k + 1) (11 - (k + 1))
range_first k zero le e = absurd (omega arith)
range_first k (suc n) le e = ap (λ m. k ∷ range_with_len (k + 1) m) (omega arith)

find_first : (p : ℕ → Bool) (k : ℕ) (xs : List ℕ) → p k ≡ true → find p (k ∷ xs) ≡ Some k
find_first p k xs e = rw e

find_later : (p : ℕ → Bool) (k : ℕ) (xs : List ℕ) → p k ≡ false → find p (k ∷ xs) ≡ find p xs
find_later p k xs e = rw e

pub least_here : (flags : List Bool) (k : ℕ) → 1 ≤ k → k ≤ 10 → get_or flags (k - 1) false ≡ true
    → find (λ j. contains (requests_of flags) j) (range_with_len k (11 - k)) ≡ Some k
least_here flags k low high e =
    ap (find (λ j. contains (requests_of flags) j)) (range_first k _ high refl)
    ∙ find_first (contains (requests_of flags)) k (range_with_len (k + 1) (11 - (k + 1))) (flag_true flags k low high e)

pub least_later : (flags : List Bool) (k : ℕ) → k ≤ 10 → get_or flags (k - 1) false ≡ false
    → find (λ j. contains (requests_of flags) j) (range_with_len k (11 - k))
    ≡ find (λ j. contains (requests_of flags) j) (range_with_len (k + 1) (11 - (k + 1)))
least_later flags k high e =
    ap (find (λ j. contains (requests_of flags) j)) (range_first k _ high refl)
    ∙ find_later (contains (requests_of flags)) k (range_with_len (k + 1) (11 - (k + 1))) (flag_false flags k e)

pub here_in : (flags : List Bool) (s : FinSet nat_cmp) (k : ℕ) → requests_of flags ≡ s → 1 ≤ k → k ≤ 10 → get_or flags (k - 1) false ≡ true
    → find (λ j. contains s j) (range_with_len k (11 - k)) ≡ Some k
here_in flags s k v low high e = ap (λ t. find (λ j. contains t j) (range_with_len k (11 - k))) (sym v) ∙ least_here flags k low high e

pub later_in : (flags : List Bool) (s : FinSet nat_cmp) (k : ℕ) → requests_of flags ≡ s → k ≤ 10 → get_or flags (k - 1) false ≡ false
    → find (λ j. contains s j) (range_with_len (k + 1) (11 - (k + 1))) ≡ find (λ j. contains s j) (range_with_len k (11 - k))
later_in flags s k v high e =
    ap (λ t. find (λ j. contains t j) (range_with_len (k + 1) (11 - (k + 1)))) (sym v) ∙ sym (least_later flags k high e)
    ∙ ap (λ t. find (λ j. contains t j) (range_with_len k (11 - k))) v

-- where no flag is set, nothing is asked for
pub unset : (n q : ℕ) → get_or (replicate n false) q false ≡ false
unset n q = ⊎_elim (λ lt. get_or-replicate n q false false lt) (λ ge. get_or_past (replicate n false) q false (rw length-replicate ge))
    (cases_lt q n)

none_from : (flags : List Bool) → ((q : ℕ) → get_or flags q false ≡ false) → (n k : ℕ)
    → find (λ j. contains (requests_of flags) j) (range_with_len k n) ≡ None
none_from flags clear zero k = refl
none_from flags clear (suc n) k =
    find_later (contains (requests_of flags)) k (range_with_len (k + 1) n) (flag_false flags k (clear (k - 1)))
    ∙ none_from flags clear n (k + 1)

pub none_asked : find (λ j. contains (requests_of (replicate 10 false)) j) (range_with_len 1 10) ≡ None
none_asked = none_from (replicate 10 false) (unset 10) 10 1

-- what was changed in the requests of a state is changed in those of the same state
pub changed_requests : (s t : State) (f : FinSet nat_cmp → FinSet nat_cmp) (requests : FinSet nat_cmp) → s ≡ t → requests ≡ f s.requests
    → record s { requests = requests } ≡ record t { requests = f t.requests }
changed_requests s t f requests same is =
    ap (λ r. record s { requests = r }) is ∙ ap (λ (u : State). record u { requests = f u.requests }) same
