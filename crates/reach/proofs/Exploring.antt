-- What is reached from some roots is explored.
use Rattle.std.proofs.Common.{◌≡◌, ℕ, zero, suc, ◌+◌, ◌-◌, ◌*◌, ◌<◌, ◌≤◌, Bool, List, [], ◌∷◌, length, take, get_or, sym, ap, subst, ◌∙◌}
use Rattle.std.proofs.Common.{inl, inr, arith}
use Rattle.std.proofs.lemmas.List.{take_all}
use Rattle.rope.specs.Places.{Words}
use Rattle.reach.specs.declared.spot.Spot.{Spot}
use Rattle.reach.specs.Ways.{Among, Reached, leads}
use Rattle.reach.specs.Ways.Reached.{Root, Way}
use Rattle.reach.specs.Marks.{AreReached, IsSpot}
use Rattle.reach.specs.Inside.Seen.{Agree, Explored, IsNothing, marks_all, order_all, unmarked}
use Rattle.reach.proofs.Lists.{among_taken}
use Rattle.reach.proofs.Marking.{come_to_all, nothing_agrees}

-- the roots are come to
pub explored_first : (words : Words) (roots : List Spot) (none : List Bool) → IsNothing none → ((q : Spot) → Among q roots → IsSpot q)
    → Explored words roots (marks_all none roots) (order_all none [] roots) 0
explored_first words roots none e i =
    let all = come_to_all none [] roots (nothing_agrees none e) i in
    record {
      agree = all.agree;
      reached = λ q h. elim (all.among q h) [ inl before ↦ absurd before | inr root ↦ Root q root ];
      rooted = λ q h. all.agree.found q (i q h) (all.here q h);
      closed = λ p h q g. absurd h;
      within = omega arith;
    }

-- those are come to, to which the next one leads
pub explored_more : (words : Words) (roots : List Spot) (marks : List Bool) (order : List Spot) (done : ℕ) (p : Spot)
    → Explored words roots marks order done → done < length order
    → p ≡ get_or order done p → ((q : Spot) → Among q (leads words p) → IsSpot q)
    → Explored words roots (marks_all marks (leads words p)) (order_all marks order (leads words p)) (done + 1)
explored_more words roots marks order done p x lt is i =
    let all = come_to_all marks order (leads words p) x.agree i in
    let front = all.front (done + 1) (omega (arith, lt)) in
    let stands : Among p order = among_at order done p lt is in
    record {
      agree = all.agree;
      reached = λ q h. elim (all.among q h) [ inl before ↦ x.reached q before | inr way ↦ Way p q (x.reached p stands) way ];
      rooted = λ q h. all.stays q (x.rooted q h);
      closed = λ r h q g. elim (among_taken r p order done lt (subst (λ ys. Among r ys) front h)) [
        | inl before ↦ all.stays q (x.closed r before q g)
        | inr last ↦ (let way : Among q (leads words p) = subst (λ (s : Spot). Among q (leads words s)) (last_is r last) g in
            all.agree.found q (i q way) (all.here q way))
      ];
      within = omega (arith, lt, all.longer);
    }
  where
    among_at : (xs : List Spot) (n : ℕ) (r : Spot) → n < length xs → r ≡ get_or xs n r → Among r xs
    among_at [] n r lt e = absurd (omega (arith, lt))
    among_at (y ∷ xs) zero r lt e = inl e
    among_at (y ∷ xs) (suc n) r lt e = inr (among_at xs n r (omega (arith, lt)) e)

    last_is : (r : Spot) → r ≡ get_or order done p → r ≡ p
    last_is r e = cc

-- where none is left each is in order that is reached
pub stands : (words : Words) (roots : List Spot) (marks : List Bool) (order : List Spot) (done : ℕ) → Explored words roots marks order done
    → take done order ≡ order
    → (q : Spot) → Reached words roots q → Among q order
stands words roots marks order done x whole _ (Root q root) = x.rooted q root
stands words roots marks order done x whole _ (Way p q before way) =
    x.closed p (subst (λ ys. Among p ys) (sym whole) (stands words roots marks order done x whole p before)) q way

-- and all is marked that is reached, and nothing else
pub explored_all : (words : Words) (roots : List Spot) (marks : List Bool) (order : List Spot) (done : ℕ)
    → Explored words roots marks order done → length order ≤ done
    → AreReached words roots marks
explored_all words roots marks order done x le = record {
  each = λ q i. (
    λ h. x.reached q (x.agree.found q i h),
    λ r. x.agree.marked q
        (stands words roots marks order done x (take_all done order le) q r),
  );
}

-- the same, and that what is left to do falls, by what calls have left
pub explored_first_by : (words : Words) (roots : List Spot) (none marks : List Bool) (nothing order : List Spot) → IsNothing none
    → nothing ≡ [] → marks ≡ marks_all none roots
    → order ≡ order_all none nothing roots → ((q : Spot) → Among q roots → IsSpot q) → Explored words roots marks order 0
explored_first_by words roots none marks nothing order e empty m o i =
    let is : order ≡ order_all none [] roots = o ∙ ap (λ ps. order_all none ps roots) empty in
    subst (λ ms. Explored words roots ms order 0) (sym m)
    (subst (λ ps. Explored words roots (marks_all none roots) ps 0) (sym is) (explored_first words roots none e i))

pub explored_more_by : (words : Words) (roots : List Spot) (marks m : List Bool) (order o : List Spot) (done : ℕ) (p : Spot)
    (ways : List Spot) → Explored words roots marks order done
    → done < length order → p ≡ get_or order done p → ways ≡ leads words p → m ≡ marks_all marks ways → o ≡ order_all marks order ways
    → ((q : Spot) → Among q ways → IsSpot q)
    → Explored words roots m o (done + 1)
explored_more_by words roots marks m order o done p ways x lt is w e f i =
    let first : m ≡ marks_all marks (leads words p) = e ∙ ap (marks_all marks) w in
    let second : o ≡ order_all marks order (leads words p) = f ∙ ap (order_all marks order) w in
    let are : (q : Spot) → Among q (leads words p) → IsSpot q = λ q h. i q (subst (λ ps. Among q ps) (sym w) h) in
    subst (λ ms. Explored words roots ms o (done + 1)) (sym first)
    (subst (λ ps. Explored words roots (marks_all marks (leads words p)) ps (done + 1)) (sym second)
    (explored_more words roots marks order done p x lt is are))

pub less_left_by : (marks m : List Bool) (order o : List Spot) (done : ℕ) (ways : List Spot) → Agree marks order → done < length order
    → m ≡ marks_all marks ways → o ≡ order_all marks order ways → ((q : Spot) → Among q ways → IsSpot q)
    → 2 * unmarked m + length o - (done + 1) < 2 * unmarked marks + length order - done
less_left_by marks m order o done ways a lt e f i =
    let all = come_to_all marks order ways a i in
    let less : 2 * unmarked m + length o ≤ 2 * unmarked marks + length order =
    subst (λ ms. 2 * unmarked ms + length o ≤ 2 * unmarked marks + length order) (sym e)
    (subst (λ ps. 2 * unmarked (marks_all marks ways) + length ps ≤ 2 * unmarked marks + length order) (sym f) all.less) in
    omega (arith, less, lt)

-- what was come to agrees, and stands in front of what is come to next
pub agree_more_by : (marks m : List Bool) (order o ways : List Spot) → Agree marks order → m ≡ marks_all marks ways
    → o ≡ order_all marks order ways → ((q : Spot) → Among q ways → IsSpot q) → Agree m o
agree_more_by marks m order o ways a e f i =
    subst (λ ms. Agree ms o) (sym e) (subst (λ ps. Agree (marks_all marks ways) ps) (sym f) (come_to_all marks order ways a i).agree)

pub stays_more_by : (marks : List Bool) (order o ways : List Spot) (n : ℕ) → Agree marks order → o ≡ order_all marks order ways
    → ((q : Spot) → Among q ways → IsSpot q) → n ≤ length order → take n o ≡ take n order
stays_more_by marks order o ways n a f i le = ap (take n) f ∙ (come_to_all marks order ways a i).front n le

pub longer_by : (marks : List Bool) (order o ways : List Spot) → Agree marks order → o ≡ order_all marks order ways
    → ((q : Spot) → Among q ways → IsSpot q) → length order ≤ length o
longer_by marks order o ways a f i =
    let all = come_to_all marks order ways a i in
    let same : length o ≡ length (order_all marks order ways) = ap length f in
    omega (arith, same, all.longer)
