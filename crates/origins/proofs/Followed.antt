-- The cells that are followed before a step.
use Rattle.std.proofs.Common.{◌≡◌, ℕ, suc, ◌+◌, ◌==◌, Bool, true, false, not, ◌&&◌, ◌||◌, cond, List, [], ◌∷◌, ◌++◌, length, drop, get_or}
use Rattle.std.proofs.Common.{◌<◌, refl, sym, ap, ◌∙◌, arith, ◌⊎◌, inl, inr}
use Rattle.std.proofs.lemmas.Bool.Decides.{nat_tests}
use Rattle.std.proofs.lemmas.Bool.{cases_Bool}
use Rattle.std.proofs.Math.Seq.{drop-cons}
use Rattle.std.specs.List.{flat_map}
use Rattle.std.specs.Ordering.{nat_cmp, eq_by_cmp}
use Rattle.std.specs.Cmp.{nat_cmp_total}
use Rattle.std.specs.FinSet as set
use Rattle.cpu.specs.Links.{Link, targets, sources, is_in}
use Rattle.cpu.specs.Chains.{cells_among}
use Rattle.cpu.specs.declared.spot.Spot.{Spot}
use Rattle.cpu.specs.declared.spot.Spot.TheVariants.{Cell, InRope}
use Rattle.cpu.proofs.Chaining.{own_source}
use Rattle.origins.specs.Following.{CellSet, those_in, left_in, has_spot, with_spots, reads, with_cells, cells_before}

-- whether a cell is among some spots
has_cell : List Spot → ℕ → Bool
has_cell [] q = false
has_cell (Cell c ∷ xs) q = q == c || has_cell xs q
has_cell (InRope bank offset ∷ xs) q = has_cell xs q

same_truth : (a b : Bool) → (a ≡ true → b ≡ true) → (b ≡ true → a ≡ true) → a ≡ b
same_truth true b to from = sym (to refl)
same_truth false true to from = from refl
same_truth false false to from = refl

either : (a b : Bool) → (a || b) ≡ true → (a ≡ true) ⊎ (b ≡ true)
either true b h = inl refl
either false b h = inr h

left_of : (a b : Bool) → a ≡ true → (a || b) ≡ true
left_of a b h = rw h refl

right_of : (a b : Bool) → b ≡ true → (a || b) ≡ true
right_of true b h = refl
right_of false b h = h

or_assoc : (a b c : Bool) → ((a || b) || c) ≡ (a || (b || c))
or_assoc true b c = refl
or_assoc false b c = refl

among_has : (xs : List Spot) (q : ℕ) → set.contains (cells_among xs) q ≡ has_cell xs q
unfolding has_cell
among_has [] q = set.contains-empty nat_cmp q
among_has (Cell c ∷ xs) q =
    let one = set.contains-insert nat_cmp_total (cells_among xs) c q in
    let rest = among_has xs q in
    grind (arith, nat_tests)
among_has (InRope bank offset ∷ xs) q = among_has xs q

added_has : (cells : CellSet) (xs : List Spot) (q : ℕ) → set.contains (with_cells cells xs) q ≡ (set.contains cells q || has_cell xs q)
unfolding has_cell
added_has cells [] q = grind (arith, nat_tests)
added_has cells (Cell c ∷ xs) q =
    let rest = added_has (set.insert cells c) xs q in
    let one = set.contains-insert nat_cmp_total cells c q in
    grind (arith, nat_tests)
added_has cells (InRope bank offset ∷ xs) q = added_has cells xs q

-- a cell is taken out
out_has : (cells : CellSet) (c q : ℕ) (b : Bool) → set.contains cells c ≡ b
    → set.contains (cond b (set.remove cells c) cells) q ≡ (not (q == c) && set.contains cells q)
out_has cells c q true h = let one = set.contains-remove nat_cmp_total cells c q in grind (arith, nat_tests)
out_has cells c q false h =
    elim (cases_Bool (q == c)) [
      | inl same ↦ let e : q ≡ c = grind (arith, nat_tests) in let none : set.contains cells q
          ≡ false = ap (set.contains cells) e ∙ h in rw (same, none) refl
      | inr other ↦ rw other refl
    ]

left_has : (cs : List ℕ) (cells : CellSet) (q : ℕ) → set.contains (left_in cs cells) q ≡ (not (is_in q cs) && set.contains cells q)
left_has [] cells q = refl
left_has (c ∷ cs) cells q =
    let rest = left_has cs (cond (set.contains cells c) (set.remove cells c) cells) q in
    let one = out_has cells c q (set.contains cells c) refl in
    grind (arith, nat_tests)

taken_by : (c : ℕ) (cs : List ℕ) (cells : CellSet) (q : ℕ) (b : Bool) → set.contains cells c ≡ b
    → ((others : CellSet) → is_in q (those_in cs others) ≡ (is_in q cs && set.contains others q))
    → is_in q (cond b (c ∷ those_in cs (set.remove cells c)) (those_in cs cells)) ≡ ((q == c || is_in q cs) && set.contains cells q)
taken_by c cs cells q true h later =
    let rest = later (set.remove cells c) in
    let one = set.contains-remove nat_cmp_total cells c q in
    elim (cases_Bool (q == c)) [
      | inl same ↦ let e : q ≡ c = grind (arith, nat_tests) in let some : set.contains cells q
          ≡ true = ap (set.contains cells) e ∙ h in rw (same, some) refl
      | inr other ↦ let gone : eq_by_cmp nat_cmp q c ≡ false = grind (arith, nat_tests) in rw (other, rest, one, gone) refl
    ]
taken_by c cs cells q false h later =
    let rest = later cells in
    elim (cases_Bool (q == c)) [
      | inl same ↦ let e : q ≡ c = grind (arith, nat_tests) in let none : set.contains cells q
          ≡ false = ap (set.contains cells) e
          ∙ h in rw (rest, none) (grind (arith, nat_tests))
      | inr other ↦ rw (rest, other) refl
    ]

taken_has : (cs : List ℕ) (cells : CellSet) (q : ℕ) → is_in q (those_in cs cells) ≡ (is_in q cs && set.contains cells q)
taken_has [] cells q = refl
taken_has (c ∷ cs) cells q = taken_by c cs cells q (set.contains cells c) refl (λ others. taken_has cs others q)

has_append : (xs ys : List Spot) (q : ℕ) → has_cell (xs ++ ys) q ≡ (has_cell xs q || has_cell ys q)
unfolding has_cell
has_append [] ys q = refl
has_append (Cell c ∷ xs) ys q = ap (λ b. q == c || b) (has_append xs ys q) ∙ sym (or_assoc (q == c) (has_cell xs q) (has_cell ys q))
has_append (InRope bank offset ∷ xs) ys q = has_append xs ys q

-- a spot that stands already adds nothing
stands_has : (told : List Spot) (x : Spot) (q : ℕ) → has_spot told x ≡ true → has_cell (x ∷ []) q ≡ true → has_cell told q ≡ true
unfolding has_cell
stands_has [] x q here has = absurd cc
stands_has (Cell c ∷ told) (Cell d) q here has =
    elim (either (c == d) (has_spot told (Cell d)) here) [
      | inl same ↦ grind (arith, nat_tests)
      | inr later ↦ right_of (q == c) (has_cell told q) (stands_has told (Cell d) q later has)
    ]
stands_has (Cell c ∷ told) (InRope bank offset) q here has = absurd cc
stands_has (InRope b o ∷ told) (Cell d) q here has = stands_has told (Cell d) q here has
stands_has (InRope b o ∷ told) (InRope bank offset) q here has = absurd cc

told_by : (told : List Spot) (x : Spot) (xs : List Spot) (q : ℕ) (b : Bool) → has_spot told x ≡ b
    → ((others : List Spot) → has_cell (with_spots others xs) q ≡ (has_cell others q || has_cell xs q))
    → has_cell (with_spots (cond b told (told ++ x ∷ [])) xs) q ≡ (has_cell told q || (has_cell (x ∷ []) q || has_cell xs q))
told_by told x xs q true here more =
    more told
    ∙ same_truth _ _
    (λ h. elim (either (has_cell told q) (has_cell xs q) h) [
      | inl old ↦ left_of _ _ old
      | inr new ↦ right_of (has_cell told q) _ (right_of (has_cell (x ∷ []) q) _ new)
    ])
    (λ h. elim (either (has_cell told q) _ h) [
      | inl old ↦ left_of _ _ old
      | inr later ↦ elim (either (has_cell (x ∷ []) q) (has_cell xs q) later) [
        | inl one ↦ left_of _ _ (stands_has told x q here one)
        | inr new ↦ right_of (has_cell told q) _ new
      ]
    ])
told_by told x xs q false here more =
    more (told ++ x ∷ []) ∙ ap (λ b. b || has_cell xs q) (has_append told (x ∷ []) q)
    ∙ or_assoc (has_cell told q) (has_cell (x ∷ []) q) (has_cell xs q)

told_has : (told xs : List Spot) (q : ℕ) → has_cell (with_spots told xs) q ≡ (has_cell told q || has_cell xs q)
unfolding has_cell
told_has told [] q = same_truth _ _ (λ h. left_of _ _ h)
    (λ h. elim (either (has_cell told q) false h) [ inl old ↦ old | inr none ↦ absurd cc ])
told_has told (x ∷ xs) q =
    told_by told x xs q (has_spot told x) refl (λ others. told_has others xs q)
    ∙ ap (λ b. has_cell told q || b) (sym (has_append (x ∷ []) xs q))

-- the cells from which cells come
through_cell : (k : Link) (xs : List Spot) (c q : ℕ) → has_cell xs c ≡ true → has_cell (sources k (Cell c)) q ≡ true
    → has_cell (flat_map (sources k) xs) q ≡ true
unfolding has_cell
through_cell k [] c q here has = absurd cc
through_cell k (Cell d ∷ xs) c q here has =
    has_append (sources k (Cell d)) (flat_map (sources k) xs) q
    ∙ elim (either (c == d) (has_cell xs c) here) [
      | inl same ↦ let e : c ≡ d = grind (arith, nat_tests) in left_of _ _ (ap (λ n. has_cell (sources k (Cell n)) q) (sym e) ∙ has)
      | inr later ↦ right_of (has_cell (sources k (Cell d)) q) _ (through_cell k xs c q later has)
    ]
through_cell k (InRope bank offset ∷ xs) c q here has =
    has_append (sources k (InRope bank offset)) (flat_map (sources k) xs) q
    ∙ right_of (has_cell (sources k (InRope bank offset)) q) _ (through_cell k xs c q here has)

from_cell : (k : Link) (xs : List Spot) (q : ℕ) → has_cell (flat_map (sources k) xs) q ≡ true
    → (c : ℕ) × (has_cell xs c ≡ true) × (has_cell (sources k (Cell c)) q ≡ true)
unfolding has_cell
from_cell k [] q has = absurd cc
from_cell k (Cell d ∷ xs) q has =
    elim (either (has_cell (sources k (Cell d)) q) (has_cell (flat_map (sources k) xs) q)
    (sym (has_append (sources k (Cell d)) (flat_map (sources k) xs) q) ∙ has)) [
      | inl here ↦ (d, left_of (d == d) _ (grind (arith, nat_tests)), here)
      | inr later ↦ let f = from_cell k xs q later in (f.0, right_of (f.0 == d) _ f.1, f.2)
    ]
from_cell k (InRope bank offset ∷ xs) q has =
    elim (either (has_cell (sources k (InRope bank offset)) q) (has_cell (flat_map (sources k) xs) q)
    (sym (has_append (sources k (InRope bank offset)) (flat_map (sources k) xs) q) ∙ has)) [
      | inl here ↦ let none : has_cell (sources k (InRope bank offset)) q
          ≡ false = ap (λ (ys : List Spot). has_cell ys q) (own_source k (InRope bank offset) refl) in absurd cc
      | inr later ↦ from_cell k xs q later
    ]

through_target : (k : Link) (cs : List ℕ) (c q : ℕ) → is_in c cs ≡ true → has_cell (sources k (Cell c)) q ≡ true
    → has_cell (flat_map (λ d. sources k (Cell d)) cs) q ≡ true
through_target k [] c q here has = absurd cc
through_target k (d ∷ cs) c q here has =
    has_append (sources k (Cell d)) (flat_map (λ d. sources k (Cell d)) cs) q
    ∙ elim (either (c == d) (is_in c cs) here) [
      | inl same ↦ let e : c ≡ d = grind (arith, nat_tests) in left_of _ _ (ap (λ n. has_cell (sources k (Cell n)) q) (sym e) ∙ has)
      | inr later ↦ right_of (has_cell (sources k (Cell d)) q) _ (through_target k cs c q later has)
    ]

from_target : (k : Link) (cs : List ℕ) (q : ℕ) → has_cell (flat_map (λ d. sources k (Cell d)) cs) q ≡ true
    → (c : ℕ) × (is_in c cs ≡ true) × (has_cell (sources k (Cell c)) q ≡ true)
unfolding has_cell
from_target k [] q has = absurd cc
from_target k (d ∷ cs) q has =
    elim (either (has_cell (sources k (Cell d)) q) (has_cell (flat_map (λ d. sources k (Cell d)) cs) q)
    (sym (has_append (sources k (Cell d)) (flat_map (λ d. sources k (Cell d)) cs) q) ∙ has)) [
      | inl here ↦ (d, left_of (d == d) _ (grind (arith, nat_tests)), here)
      | inr later ↦ let f = from_target k cs q later in (f.0, right_of (f.0 == d) _ f.1, f.2)
    ]

both : (a b : Bool) → a ≡ true → b ≡ true → (a && b) ≡ true
both a b p q = rw (p, q) refl

both_first : (a b : Bool) → (a && b) ≡ true → a ≡ true
both_first true b h = refl
both_first false b h = absurd cc

both_second : (a b : Bool) → (a && b) ≡ true → b ≡ true
both_second true b h = h
both_second false b h = absurd cc

negated : (b : Bool) → not b ≡ true → b ≡ false
negated true h = absurd cc
negated false h = refl

own_has : (q c : ℕ) → has_cell (Cell c ∷ []) q ≡ true → q ≡ c
unfolding has_cell
own_has q c h = elim (either (q == c) false h) [ inl same ↦ grind (arith, nat_tests) | inr none ↦ absurd cc ]

own_is : (c : ℕ) → has_cell (Cell c ∷ []) c ≡ true
unfolding has_cell
own_is c = left_of (c == c) false (grind (arith, nat_tests))

-- what is followed before a step
module _ (k : Link) (xs : List Spot) (q : ℕ) where
  told : List ℕ
  told = those_in (targets k) (cells_among xs)

  before_is : set.contains (cells_before k (cells_among xs)) q
      ≡ ((not (is_in q (targets k)) && has_cell xs q)
      || has_cell (flat_map (λ c. sources k (Cell c)) (those_in (targets k) (cells_among xs))) q)
  unfolding has_cell
  before_is =
      added_has (left_in (targets k) (cells_among xs)) (reads k (those_in (targets k) (cells_among xs))) q
      ∙ ap (λ b. b || has_cell (reads k (those_in (targets k) (cells_among xs))) q)
      (left_has (targets k) (cells_among xs) q ∙ ap (λ b. not (is_in q (targets k)) && b) (among_has xs q))
      ∙ ap (λ b. (not (is_in q (targets k)) && has_cell xs q) || b)
      (told_has [] (flat_map (λ c. sources k (Cell c)) (those_in (targets k) (cells_among xs))) q)

  to : ((not (is_in q (targets k)) && has_cell xs q)
      || has_cell (flat_map (λ c. sources k (Cell c)) (those_in (targets k) (cells_among xs))) q) ≡ true
      → has_cell (flat_map (sources k) xs) q ≡ true
  to h =
      elim (either (not (is_in q (targets k)) && has_cell xs q) _ h) [
        | inl stays ↦ let own = own_source k (Cell q) (negated (is_in q (targets k)) (both_first _ _ stays)) in
            through_cell k xs q q (both_second (not (is_in q (targets k))) _ stays) (ap (λ (ys : List Spot). has_cell ys q) own ∙ own_is q)
        | inr comes ↦ let f = from_target k (those_in (targets k) (cells_among xs)) q comes in
            let here = sym (taken_has (targets k) (cells_among xs) f.0) ∙ f.1 in
            through_cell k xs f.0 q (sym (among_has xs f.0) ∙ both_second (is_in f.0 (targets k)) _ here) f.2
      ]

  from : has_cell (flat_map (sources k) xs) q ≡ true
      → ((not (is_in q (targets k)) && has_cell xs q)
      || has_cell (flat_map (λ c. sources k (Cell c)) (those_in (targets k) (cells_among xs))) q) ≡ true
  from h =
      let f = from_cell k xs q h in
      elim (cases_Bool (is_in f.0 (targets k))) [
        | inl written ↦ right_of (not (is_in q (targets k)) && has_cell xs q) _
            (through_target k (those_in (targets k) (cells_among xs)) f.0 q
            (taken_has (targets k) (cells_among xs) f.0 ∙ both _ _ written (among_has xs f.0 ∙ f.1)) f.2)
        | inr kept ↦
            let own = own_source k (Cell f.0) kept in
            let is : q ≡ f.0 = own_has q f.0 (sym (ap (λ (ys : List Spot). has_cell ys q) own) ∙ f.2) in
            left_of _ _ (both (not (is_in q (targets k))) (has_cell xs q) (rw (is, kept) refl) (rw is f.1))
      ]

pub follows_on : (k : Link) (xs : List Spot) → cells_before k (cells_among xs) ≡ cells_among (flat_map (sources k) xs)
follows_on k xs = set.same_set nat_cmp_total set.nat_cmp-IsAntisymmetric _ _ (λ q.
    before_is k xs q ∙ same_truth _ _ (to k xs q) (from k xs q) ∙ sym (among_has (flat_map (sources k) xs) q))

-- spots after spots
with_more : (here xs ys : List Spot) → with_spots here (xs ++ ys) ≡ with_spots (with_spots here xs) ys
with_more here [] ys = refl
with_more here (x ∷ xs) ys = with_more (cond (has_spot here x) here (here ++ x ∷ [])) xs ys

-- what was read for the cells up to one, and for that cell
pub read_more : (k : Link) (cs : List ℕ) (i c : ℕ) (old new whole : List Spot) → i < length cs → c ≡ get_or cs i c
    → new ≡ with_spots old (sources k (Cell c))
    → with_spots old (flat_map (λ d. sources k (Cell d)) (drop i cs)) ≡ whole
    → with_spots new (flat_map (λ d. sources k (Cell d)) (drop (i + 1) cs)) ≡ whole
read_more k cs i c old new whole within is read so_far =
    let next : suc i ≡ i + 1 = omega arith in
    let here : drop i cs ≡ c ∷ drop (i + 1) cs = drop-cons cs i c within ∙ ap (λ d. d ∷ drop (suc i) cs) (sym is)
    ∙ ap (λ n. c ∷ drop n cs) next in
    ap (λ (xs : List Spot). with_spots xs (flat_map (λ d. sources k (Cell d)) (drop (i + 1) cs))) read
    ∙ sym (with_more old (sources k (Cell c)) (flat_map (λ d. sources k (Cell d)) (drop (i + 1) cs)))
    ∙ ap (λ (ds : List ℕ). with_spots old (flat_map (λ d. sources k (Cell d)) ds)) (sym here)
    ∙ so_far
