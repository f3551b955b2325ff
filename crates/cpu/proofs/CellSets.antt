-- The cells that are marked.
use Rattle.std.proofs.Common.{◌≡◌, ℕ, ◌==◌, ◌<◌, ◌≢◌, Bool, true, false, ◌&&◌, ◌||◌, not, ltb, List, [], ◌∷◌, filter, get_or, set, length}
use Rattle.std.proofs.Common.{take, zero, suc, replicate, refl, sym, ap, ◌∙◌, arith, slice_index_or, ⊎_elim}
use Rattle.std.proofs.lemmas.Bool.Decides.{nat_tests}
use Rattle.std.proofs.lemmas.Bool.{cases_eq}
use Rattle.std.proofs.lemmas.List.{get_or-set_same, get_or-set_other}
use Rattle.std.specs.List.{range_with_len}
use Rattle.std.specs.Ordering.{nat_cmp, eq_by_cmp}
use Rattle.std.specs.Cmp.{nat_cmp_total}
use Rattle.std.specs.FinSet.{FinSet, contains, insert, remove, empty, from_list, contains-from_list_nat, contains-insert, contains-remove}
use Rattle.std.specs.FinSet.{contains-empty, same_set, nat_cmp-IsAntisymmetric}
use Rattle.cpu.specs.declared.spot.Spot.{Spot}
use Rattle.cpu.specs.declared.spot.Spot.TheVariants.{Cell, InRope}
use Rattle.cpu.specs.Representation.{marked_cells, cell_count}
use Rattle.cpu.specs.Links.{Link, targets, is_in}
use Rattle.cpu.specs.Chains.{cells_among, is_any_in, WritesAmong}
use Rattle.cpu.proofs.Trails.{first_false, second_false, both_false}
use Rattle.cpu.proofs.RequestLemmas.{any-filter, unset}

marked : List Bool → ℕ → FinSet nat_cmp
marked members n = from_list {R = nat_cmp} (filter (λ c. slice_index_or members c false) (range_with_len 0 n))

contains_by : (members : List Bool) (c n : ℕ) → contains (marked members n) c ≡ (ltb c n && get_or members c false)
unfolding marked
contains_by members c n =
    contains-from_list_nat (filter (λ c. slice_index_or members c false) (range_with_len 0 n)) c
    ∙ any-filter (λ c. slice_index_or members c false) c 0 n ∙ grind (arith, nat_tests)

-- a cell stands where its mark is set
contains_all : (members : List Bool) (c : ℕ) → contains (marked_cells members) c ≡ (ltb c cell_count && get_or members c false)
unfolding marked_cells marked
contains_all members c = contains_by members c cell_count

pub contains_marked : (members : List Bool) (c : ℕ) → c < cell_count → get_or members c false ≡ contains (marked_cells members) c
contains_marked members c low = sym (contains_all members c ∙ grind (arith, nat_tests))

pub marked_insert : (members : List Bool) (c : ℕ) → c < cell_count → length members ≡ cell_count
    → marked_cells (set members c true) ≡ insert (marked_cells members) c
marked_insert members c low l =
    same_set nat_cmp_total nat_cmp-IsAntisymmetric _ _ (λ q.
    contains_all (set members c true) q
    ∙ ⊎_elim
    (λ (e : q ≡ c). let g = get_or-set_same members c true false (omega (arith, low, l)) in let w : get_or (set members c true) q false
    ≡ true = rw e g in grind
    (arith, nat_tests))
    (λ (ne : q ≢ c). ap (λ b. ltb q cell_count && b) (get_or-set_other members c q true false ne) ∙ grind (arith, nat_tests))
    (cases_eq q c)
    ∙ sym (contains-insert nat_cmp_total (marked_cells members) c q ∙ ap (λ b. eq_by_cmp nat_cmp q c || b) (contains_all members q)))

pub marked_remove : (members : List Bool) (c : ℕ) → c < cell_count → length members ≡ cell_count
    → marked_cells (set members c false) ≡ remove (marked_cells members) c
marked_remove members c low l =
    same_set nat_cmp_total nat_cmp-IsAntisymmetric _ _ (λ q.
    contains_all (set members c false) q
    ∙ ⊎_elim
    (λ (e : q ≡ c). let g = get_or-set_same members c false false (omega (arith, low, l)) in let w : get_or (set members c false) q false
    ≡ false = rw e g in grind
    (arith, nat_tests))
    (λ (ne : q ≢ c). ap (λ b. ltb q cell_count && b) (get_or-set_other members c q false false ne) ∙ grind (arith, nat_tests))
    (cases_eq q c)
    ∙ sym (contains-remove nat_cmp_total (marked_cells members) c q ∙ ap (λ b. not (eq_by_cmp nat_cmp q c) && b) (contains_all members q)))

and_false : (b : Bool) → (b && false) ≡ false
and_false true = refl
and_false false = refl

pub none_marked : marked_cells (replicate cell_count false) ≡ empty
none_marked =
    same_set nat_cmp_total nat_cmp-IsAntisymmetric _ _ (λ q.
    contains_all (replicate cell_count false) q ∙ ap (λ b. ltb q cell_count && b) (unset cell_count q) ∙ and_false (ltb q cell_count)
    ∙ sym (contains-empty nat_cmp q))

-- a set of cells and a list of spots
none_in : (cs : List ℕ) → is_any_in cs empty ≡ false
none_in [] = refl
none_in (c ∷ cs) = ap (λ b. b || is_any_in cs empty) (contains-empty nat_cmp c) ∙ none_in cs

with_one : (cs : List ℕ) (s : FinSet nat_cmp) (c : ℕ) → is_any_in cs (insert s c) ≡ (is_in c cs || is_any_in cs s)
with_one [] s c = refl
with_one (d ∷ cs) s c =
    let here = contains-insert nat_cmp_total s c d in
    let rest = with_one cs s c in
    grind (arith, nat_tests)

pub writes_among : (link : Link) (xs : List Spot) → WritesAmong link xs
writes_among link [] = none_in (targets link)
writes_among link (Cell c ∷ xs) = with_one (targets link) (cells_among xs) c ∙ ap (λ b. is_in c (targets link) || b) (writes_among link xs)
writes_among link (InRope bank offset ∷ xs) = writes_among link xs

-- looked for one by one
pub among_more : (c : ℕ) (cs : List ℕ) (i : ℕ) (x : ℕ) → i < length cs → x ≡ get_or cs i x → is_in c (take i cs) ≡ false → (x == c) ≡ false
    → is_in c (take (suc i) cs) ≡ false
among_more c [] i x within is before ne = absurd (omega (arith, within))
among_more c (e ∷ cs) zero x within is before ne = let e_is : x ≡ e = is in grind (arith, nat_tests)
among_more c (e ∷ cs) (suc i) x within is before ne =
    both_false (c == e) (is_in c (take (suc i) cs)) (first_false (c == e) (is_in c (take i cs)) before)
    (among_more c cs i x (omega (arith, within)) is (second_false (c == e) (is_in c (take i cs)) before) ne)

pub among_found : (c : ℕ) (cs : List ℕ) (i : ℕ) (x : ℕ) → i < length cs → x ≡ get_or cs i x → (x == c) ≡ true → is_in c cs ≡ true
among_found c [] i x within is e = absurd (omega (arith, within))
among_found c (d ∷ cs) zero x within is e = let e_is : x ≡ d = is in grind (arith, nat_tests)
among_found c (d ∷ cs) (suc i) x within is e = let rest = among_found c cs i x (omega (arith, within)) is e in grind (arith, nat_tests)

pub any_more : (s : FinSet nat_cmp) (cs : List ℕ) (i : ℕ) (x : ℕ) → i < length cs → x ≡ get_or cs i x → is_any_in (take i cs) s ≡ false
    → contains s x ≡ false → is_any_in (take (suc i) cs) s ≡ false
any_more s [] i x within is before gone = absurd (omega (arith, within))
any_more s (e ∷ cs) zero x within is before gone = both_false (contains s e) false (ap (contains s) (sym is) ∙ gone) refl
any_more s (e ∷ cs) (suc i) x within is before gone =
    both_false (contains s e) (is_any_in (take (suc i) cs) s) (first_false (contains s e) (is_any_in (take i cs) s) before)
    (any_more s cs i x (omega (arith, within)) is (second_false (contains s e) (is_any_in (take i cs) s) before) gone)

pub any_found : (s : FinSet nat_cmp) (cs : List ℕ) (i : ℕ) (x : ℕ) → i < length cs → x ≡ get_or cs i x → contains s x ≡ true
    → is_any_in cs s ≡ true
any_found s [] i x within is e = absurd (omega (arith, within))
any_found s (d ∷ cs) zero x within is e = ap (λ b. b || is_any_in cs s) (ap (contains s) (sym is) ∙ e)
any_found s (d ∷ cs) (suc i) x within is e = let rest = any_found s cs i x (omega (arith, within)) is e in grind (arith, nat_tests)
