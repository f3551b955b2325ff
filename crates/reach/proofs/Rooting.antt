-- Roots are taken one after another, and each spot is told by the first that leads to it.
use Rattle.std.proofs.Common.{◌≡◌, ◌↔◌, ℕ, zero, suc, ◌+◌, ◌<◌, ◌≤◌, ◌==◌, ◌⊎◌, Bool, true, false, cond, List, [], ◌∷◌, ◌++◌, Option}
use Rattle.std.proofs.Common.{◌-◌, length}
use Rattle.std.proofs.Common.{take, drop, map, get_or, set, refl, sym, ap, subst, ◌∙◌, inl, inr, arith, length-append, add-one}
use Rattle.std.proofs.Common.{append_assoc}
use Rattle.std.proofs.lemmas.Bool.{cases_eq, cases_lt, eqb-false, eqb-true}
use Rattle.std.proofs.lemmas.List.{get_or-set_same, get_or-set_other, get_or_past, drop_all, drop_more, length-set, take-append-drop}
use Rattle.std.proofs.lemmas.List.{length-drop, take_all}
use Rattle.rope.specs.Places.{Words}
use Rattle.reach.specs.declared.spot.Spot.{Spot}
use Rattle.cpu.specs.State.{Scenario}
use Rattle.reach.specs.Executed.{Came, HasExecuted, executed}
use Rattle.reach.specs.Ways.{Among, Reached}
use Rattle.reach.specs.Ways.Reached.{Root, Way}
use Rattle.reach.specs.Marks.{IsSpot, number, spots}
use Rattle.reach.specs.Roots.{Rooting, ShowsRoots, WayRoot, first_of, no_root, place_root, spots_before}
use Rattle.reach.specs.Inside.Rooted.{AreRooted, HaveSame, Rooted, first_all, first_by}
use Rattle.reach.specs.Inside.Seen.{Explored, IsNothing, marks_all, order_all}
use Rattle.reach.proofs.Executing.{reached_from}
use Rattle.reach.proofs.Exploring.{longer_by, stands, stays_more_by}
use Rattle.reach.proofs.Lists.{among_either, among_left, among_right}
use Rattle.reach.proofs.Marking.{come_to_all, nothing_agrees, number_within, same_spot}

-- the root of a spot once it is told, by whether it was told before
first_here : (k : ℕ) (firsts : List ℕ) (q : Spot) → length firsts ≡ spots → IsSpot q
    → first_of (first_by k firsts q) q ≡ cond (first_of firsts q == no_root) k (first_of firsts q)
first_here k firsts q each i = go (first_of firsts q == no_root)
  where
    go : (b : Bool) → first_of (cond b (set firsts (number q) k) firsts) q ≡ cond b k (first_of firsts q)
    go true = get_or-set_same firsts (number q) k no_root (omega (arith, each, number_within q i))
    go false = refl

first_else : (k : ℕ) (firsts : List ℕ) (p q : Spot) → (number p ≡ number q → ⊥) → first_of (first_by k firsts q) p ≡ first_of firsts p
first_else k firsts p q apart = go (first_of firsts q == no_root)
  where
    go : (b : Bool) → first_of (cond b (set firsts (number q) k) firsts) p ≡ first_of firsts p
    go true = get_or-set_other firsts (number q) (number p) k no_root apart
    go false = refl

by_length : (k : ℕ) (firsts : List ℕ) (q : Spot) → length (first_by k firsts q) ≡ length firsts
by_length k firsts q = go (first_of firsts q == no_root)
  where
    go : (b : Bool) → length (cond b (set firsts (number q) k) firsts) ≡ length firsts
    go true = length-set firsts (number q) k
    go false = refl

pub all_length : (k : ℕ) (firsts : List ℕ) (qs : List Spot) → length (first_all k firsts qs) ≡ length firsts
all_length k firsts [] = refl
all_length k firsts (q ∷ qs) = all_length k (first_by k firsts q) qs ∙ by_length k firsts q

-- spots of a list are told in turn
pub firsts_more : (final : List ℕ) (k : ℕ) (m n : List ℕ) (qs : List Spot) (i : ℕ) (q : Spot) → i < length qs → q ≡ get_or qs i q
    → n ≡ first_by k m q → first_all k m (drop i qs) ≡ final → first_all k n (drop (i + 1) qs) ≡ final
firsts_more final k m n qs i q lt is e before =
    ap (λ ms. first_all k ms (drop (i + 1) qs)) e
    ∙ ap (λ (p : Spot). first_all k (first_by k m p) (drop (i + 1) qs)) is
    ∙ sym (ap (first_all k m) (drop_more qs i q lt)) ∙ before

pub firsts_end : (final : List ℕ) (k : ℕ) (m : List ℕ) (qs : List Spot) (i : ℕ) → length qs ≤ i → first_all k m (drop i qs) ≡ final
    → m ≡ final
firsts_end final k m qs i le e = sym (ap (first_all k m) (drop_all i qs le)) ∙ e

-- what becomes of a spot's root: it stays, or the spot was told by none and stands in the list
pub data Told (k : ℕ) (firsts : List ℕ) (qs : List Spot) (p : Spot) (new : ℕ) : Type 0 where
  Stays : new ≡ first_of firsts p → Told k firsts qs p new
  Comes : Among p qs → first_of firsts p ≡ no_root → new ≡ k → Told k firsts qs p new

told_by : (k : ℕ) (firsts : List ℕ) (q : Spot) (p : Spot) → length firsts ≡ spots → IsSpot p → IsSpot q
    → Told k firsts (q ∷ []) p (first_of (first_by k firsts q) p)
told_by k firsts q p each i iq = elim (cases_eq (number p) (number q)) [
  | inl same ↦ (let e = same_spot p q i iq same in
      subst (λ (r : Spot). Told k firsts (q ∷ []) r (first_of (first_by k firsts q) r)) (sym e)
      (go (first_of firsts q == no_root) refl (first_here k firsts q each iq)))
  | inr apart ↦ Stays (first_else k firsts p q apart)
]
  where
    go : (b : Bool) → (first_of firsts q == no_root) ≡ b → first_of (first_by k firsts q) q ≡ cond b k (first_of firsts q)
        → Told k firsts (q ∷ []) q (first_of (first_by k firsts q) q)
    go true is e = Comes (inl refl) (eqb-true (first_of firsts q) no_root is) e
    go false is e = Stays e

pub told_all : (k : ℕ) (firsts : List ℕ) (qs : List Spot) (p : Spot) → k < no_root → length firsts ≡ spots → IsSpot p
    → ((q : Spot) → Among q qs → IsSpot q)
    → Told k firsts qs p (first_of (first_all k firsts qs) p)
told_all k firsts [] p few each i are = Stays refl
told_all k firsts (q ∷ qs) p few each i are =
    join (told_by k firsts q p each i (are q (inl refl)))
    (told_all k (first_by k firsts q) qs p few (by_length k firsts q ∙ each) i (λ r h. are r (inr h)))
  where
    here : Among p (q ∷ []) → Among p (q ∷ qs)
    here (inl e) = inl e
    here (inr e) = absurd e

    join : Told k firsts (q ∷ []) p (first_of (first_by k firsts q) p)
        → Told k (first_by k firsts q) qs p (first_of (first_all k (first_by k firsts q) qs) p)
        → Told k firsts (q ∷ qs) p (first_of (first_all k (first_by k firsts q) qs) p)
    join (Stays e) (Stays f) = Stays (f ∙ e)
    join (Stays e) (Comes h none is) = Comes (inr h) (sym e ∙ none) is
    join (Comes h none is) (Stays f) = Comes (here h) none (f ∙ is)
    join (Comes h none is) (Comes g not is_too) = absurd (omega (arith, is, not, few))

-- each that stands in the list is told
pub none_left : (k : ℕ) (firsts : List ℕ) (qs : List Spot) (p : Spot) → k < no_root → length firsts ≡ spots
    → ((q : Spot) → Among q qs → IsSpot q) → Among p qs
    → (first_of (first_all k firsts qs) p ≡ no_root → ⊥)
none_left k firsts [] p few each are h = absurd h
none_left k firsts (q ∷ qs) p few each are (inl same) = λ none.
    kept (told_all k (first_by k firsts q) qs q few (by_length k firsts q ∙ each) (are q (inl refl)) (λ r h. are r (inr h)))
    (first_here k firsts q each (are q (inl refl)))
    (subst (λ (r : Spot). first_of (first_all k (first_by k firsts q) qs) r ≡ no_root) same none)
  where
    one : (b : Bool) → (first_of firsts q == no_root) ≡ b → first_of (first_by k firsts q) q ≡ cond b k (first_of firsts q)
        → first_of (first_by k firsts q) q ≡ no_root → ⊥
    one true is e none = (let same : k ≡ no_root = sym e ∙ none in omega (arith, few, same))
    one false is e none = eqb-false (first_of firsts q) no_root is (sym e ∙ none)

    kept : Told k (first_by k firsts q) qs q (first_of (first_all k (first_by k firsts q) qs) q)
        → first_of (first_by k firsts q) q ≡ cond (first_of firsts q == no_root) k (first_of firsts q)
        → first_of (first_all k (first_by k firsts q) qs) q ≡ no_root → ⊥
    kept (Stays e) here none = one (first_of firsts q == no_root) refl here (sym e ∙ none)
    kept (Comes h not is) here none = omega (arith, few, is, none)
none_left k firsts (q ∷ qs) p few each are (inr later) =
    none_left k (first_by k firsts q) qs p few (by_length k firsts q ∙ each) (λ r h. are r (inr h)) later

-- the spots of the first roots, once there is one more
pub before_same : (k : ℕ) (roots more : List WayRoot) → k ≤ length roots → spots_before k (roots ++ more) ≡ spots_before k roots
unfolding spots_before
before_same zero roots more le = refl
before_same (suc k) [] more le = absurd (omega (arith, le))
before_same (suc k) (r ∷ roots) more le = ap (λ ps. r.spots ++ ps) (before_same k roots more (omega (arith, le)))

before_next : (roots : List WayRoot) (root : WayRoot)
    → spots_before (suc (length roots)) (roots ++ root ∷ []) ≡ spots_before (length roots) roots ++ root.spots
unfolding spots_before
before_next [] root = append_nil root.spots
  where
    append_nil : (xs : List Spot) → xs ++ [] ≡ xs
    append_nil [] = refl
    append_nil (x ∷ xs) = ap (λ ys. x ∷ ys) (append_nil xs)
before_next (r ∷ roots) root =
    ap (λ ps. r.spots ++ ps) (before_next roots root) ∙ sym (append_assoc r.spots (spots_before (length roots) roots) root.spots)

pub before_more : (roots : List WayRoot) (root : WayRoot)
    → spots_before (length roots + 1) (roots ++ root ∷ []) ≡ spots_before (length roots) roots ++ root.spots
before_more roots root =
    ap (λ (n : ℕ). spots_before n (roots ++ root ∷ [])) (add-one (length roots)) ∙ before_next roots root

-- a root is come to, once all is explored that others lead to
pub explored_root : (words : Words) (roots more : List Spot) (marks : List Bool) (order : List Spot)
    → Explored words roots marks order (length order) → ((q : Spot) → Among q more → IsSpot q)
    → Explored words (roots ++ more) (marks_all marks more) (order_all marks order more) (length order)
explored_root words roots more marks order x i =
    let all = come_to_all marks order more x.agree i in
    let front = all.front (length order) (omega arith) in
    record {
      agree = all.agree;
      reached = λ q h. elim (all.among q h) [
        | inl before ↦ reached_from words roots (roots ++ more) (λ r g. among_left r roots more g) q (x.reached q before)
        | inr root ↦ Root q (among_right q roots more root)
      ];
      rooted = λ q h. elim (among_either q roots more h) [
        | inl before ↦ all.stays q (x.rooted q before)
        | inr root ↦ all.agree.found q (i q root) (all.here q root)
      ];
      closed = λ p h q g. all.stays q (x.closed p (subst (λ ps. Among p ps) front h) q g);
      within = all.longer;
    }

-- the same from roots that have the same spots
pub explored_same : (words : Words) (roots more : List Spot) (marks : List Bool) (order : List Spot) (done : ℕ)
    → HaveSame roots more → Explored words roots marks order done → Explored words more marks order done
explored_same words roots more marks order done same x = record {
  agree = x.agree;
  reached = λ q h. reached_from words roots more (λ r g. (same r).0 g) q (x.reached q h);
  rooted = λ q h. x.rooted q ((same q).1 h);
  closed = x.closed;
  within = x.within;
}

same_after : (before xs ys : List Spot) → HaveSame xs ys → HaveSame (before ++ xs) (before ++ ys)
same_after before xs ys same q = (on q xs ys (λ h. (same q).0 h), on q ys xs (λ h. (same q).1 h))
  where
    on : (q : Spot) (us vs : List Spot) → (Among q us → Among q vs) → Among q (before ++ us) → Among q (before ++ vs)
    on q us vs f h = elim (among_either q before us h) [
      | inl first ↦ among_left q before vs first
      | inr later ↦ among_right q before vs (f later)
    ]

-- what is taken for a root more
pub record Taken (words : Words) (roots : List WayRoot) (root : WayRoot) (old new : Rooted) (spots : List Spot) : Type 0 where
  pub same : HaveSame spots root.spots
  pub explored : Explored words (spots_before (length roots) roots ++ spots) new.marks new.order (length new.order)
  pub stays : take (length old.order) new.order ≡ old.order
  pub firsts : new.firsts ≡ first_all (length roots) old.firsts (drop (length old.order) new.order)
  pub places : new.places ≡ old.places ++ root.place ∷ []
  pub few : length roots < no_root

pub rooted_more : (words : Words) (roots : List WayRoot) (root : WayRoot) (old new : Rooted) (more : List Spot) → AreRooted words roots old
    → Taken words roots root old new more → AreRooted words (roots ++ root ∷ []) new
rooted_more words roots root old new more x t =
    record {
      explored = subst (λ (m : ℕ). Explored words (spots_before m (roots ++ root ∷ [])) new.marks new.order (length new.order)) (sym count)
          (subst (λ ps. Explored words ps new.marks new.order (length new.order)) (sym now) whole);
      each = ap length t.firsts ∙ all_length (length roots) old.firsts fresh ∙ x.each;
      first = record {
        each = λ q i k le. elim (cases_lt (length roots) k) [
          | inl past ↦ (let e : k ≡ length roots + 1 = omega (arith, past, le, count) in
              subst (λ (m : ℕ). (first_of new.firsts q < m) ↔ Reached words (spots_before m (roots ++ root ∷ [])) q) (sym e)
              (subst (λ ps. (first_of new.firsts q < length roots + 1) ↔ Reached words ps q) (sym now) (last q i (told q i))))
          | inr not ↦ (let le : k ≤ length roots = omega (arith, not) in
              subst (λ ps. (first_of new.firsts q < k) ↔ Reached words ps q) (sym (before_same k roots (root ∷ []) le))
              (early q i k le (told q i)))
        ];
      };
      known = λ q i. known_by q i (told q i);
      places = t.places ∙ ap (λ ps. ps ++ root.place ∷ []) x.places ∙ map_one roots;
      few = omega (arith, count, t.few);
    }
  where
    fresh : List Spot
    fresh = drop (length old.order) new.order

    count : length (roots ++ root ∷ []) ≡ length roots + 1
    count = length-append roots (root ∷ [])

    now : spots_before (length roots + 1) (roots ++ root ∷ []) ≡ spots_before (length roots) roots ++ root.spots
    now = before_more roots root

    whole : Explored words (spots_before (length roots) roots ++ root.spots) new.marks new.order (length new.order)
    whole = explored_same words _ _ new.marks new.order _ (same_after (spots_before (length roots) roots) more root.spots t.same) t.explored

    split : (q : Spot) → Among q new.order → Among q old.order ⊎ Among q fresh
    split q h = elim (among_either q (take (length old.order) new.order) fresh
        (subst (λ ps. Among q ps) (sym (take-append-drop (length old.order) new.order)) h)) [
          | inl before ↦ inl (subst (λ ps. Among q ps) t.stays before)
          | inr later ↦ inr later
        ]

    joined : (q : Spot) → Among q fresh → Among q new.order
    joined q h = subst (λ ps. Among q ps) (take-append-drop (length old.order) new.order)
        (among_right q (take (length old.order) new.order) fresh h)

    are : (q : Spot) → Among q fresh → IsSpot q
    are q h = whole.agree.inside q (joined q h)

    told : (q : Spot) → IsSpot q → Told (length roots) old.firsts fresh q (first_of new.firsts q)
    told q i = subst (λ fs. Told (length roots) old.firsts fresh q (first_of fs q)) (sym t.firsts)
        (told_all (length roots) old.firsts fresh q t.few x.each i are)

    grows : (q : Spot) → Reached words (spots_before (length roots) roots) q
        → Reached words (spots_before (length roots) roots ++ root.spots) q
    grows q h = reached_from words _ _ (λ r g. among_left r (spots_before (length roots) roots) root.spots g) q h

    known_by : (q : Spot) → IsSpot q → Told (length roots) old.firsts fresh q (first_of new.firsts q)
        → (first_of new.firsts q < length (roots ++ root ∷ [])) ⊎ (first_of new.firsts q ≡ no_root)
    known_by q i (Stays e) = elim (x.known q i) [
      | inl before ↦ inl (omega (arith, e, before, count))
      | inr none ↦ inr (e ∙ none)
    ]
    known_by q i (Comes h none e) = inl (omega (arith, e, count))

    early : (q : Spot) → IsSpot q → (k : ℕ) → k ≤ length roots → Told (length roots) old.firsts fresh q (first_of new.firsts q)
        → ((first_of new.firsts q < k) ↔ Reached words (spots_before k roots) q)
    early q i k le (Stays e) = (
      λ h. (x.first.each q i k le).0 (omega (arith, e, h)),
      λ h. (let lt : first_of old.firsts q < k = (x.first.each q i k le).1 h in omega (arith, e, lt)),
    )
    early q i k le (Comes g none e) = (
      λ h. absurd (omega (arith, e, h, le)),
      λ h. absurd (let lt : first_of old.firsts q < k = (x.first.each q i k le).1 h in omega (arith, lt, none, le, t.few)),
    )

    last : (q : Spot) → IsSpot q → Told (length roots) old.firsts fresh q (first_of new.firsts q)
        → ((first_of new.firsts q < length roots + 1) ↔ Reached words (spots_before (length roots) roots ++ root.spots) q)
    last q i (Stays e) = (
      λ h. elim (x.known q i) [
        | inl before ↦ grows q ((x.first.each q i (length roots) (omega arith)).0 before)
        | inr none ↦ absurd (omega (arith, e, h, none, t.few))
      ],
      λ h. elim (split q (stands words _ new.marks new.order (length new.order) whole (take_all (length new.order) new.order (omega arith))
          q h)) [
            | inl before ↦ (let lt : first_of old.firsts q
                < length roots = (x.first.each q i (length roots) (omega arith)).1 (x.explored.reached q before) in
                omega (arith, e, lt))
            | inr later ↦ elim (x.known q i) [
              | inl before ↦ omega (arith, e, before)
              | inr none ↦ absurd (none_left (length roots) old.firsts fresh q t.few x.each are later
                  (ap (λ fs. first_of fs q) (sym t.firsts) ∙ e ∙ none))
            ]
          ],
    )
    last q i (Comes g none e) = (λ h. whole.reached q (joined q g), λ h. omega (arith, e))

    map_one : (rs : List WayRoot) → map (λ r. r.place) rs ++ root.place ∷ [] ≡ map (λ r. r.place) (rs ++ root ∷ [])
    map_one [] = refl
    map_one (r ∷ rs) = ap (λ ps. r.place ∷ ps) (map_one rs)

-- the last of some spots, as a part of a slice has them
pub part_is : (k p : ℕ) (firsts : List ℕ) (part order : List Spot) (n m : ℕ) → k ≡ p → part ≡ order → n ≡ m
    → first_all k firsts (take (length part - n) (drop n part)) ≡ first_all p firsts (drop m order)
part_is k p firsts part order n m e f g =
    (λ j. first_all (e j) firsts (take (length (f j) - g j) (drop (g j) (f j))))
    ∙ ap (first_all p firsts) (take_all (length order - m) (drop m order) (let long = length-drop m order in omega (arith, long)))

pub taken_by : (words : Words) (roots : List WayRoot) (root : WayRoot) (old new : Rooted) (more : List Spot) (marks : List Bool)
    (order : List Spot) (place : Option (ℕ × ℕ)) → root.place ≡ place → HaveSame more root.spots → AreRooted words roots old
    → marks ≡ marks_all old.marks more → order ≡ order_all old.marks old.order more → ((q : Spot) → Among q more → IsSpot q)
    → ((n : ℕ) → n ≤ length order → take n new.order ≡ take n order)
    → ((rs : List Spot) → Explored words rs marks order (length old.order) → Explored words rs new.marks new.order (length new.order))
    → new.firsts ≡ first_all (length old.places) old.firsts (drop (length old.order) new.order)
    → new.places ≡ old.places ++ place ∷ [] → length old.places < no_root → AreRooted words (roots ++ root ∷ []) new
taken_by words roots root old new more marks order place shown same x e f i stays on firsts places few =
    let count : length old.places ≡ length roots = ap length x.places ∙ length-map roots in
    let long = longer_by old.marks old.order order more x.explored.agree f i in
    rooted_more words roots root old new more x (record {
      same = same;
      explored = on _ (subst (λ ms. Explored words (spots_before (length roots) roots ++ more) ms order (length old.order)) (sym e)
          (subst (λ ps. Explored words (spots_before (length roots) roots ++ more) (marks_all old.marks more) ps (length old.order)) (sym f)
          (explored_root words _ more old.marks old.order x.explored i)));
      stays = stays (length old.order) long ∙ stays_more_by old.marks old.order order more (length old.order) x.explored.agree f i
          (omega arith)
          ∙ take_all (length old.order) old.order (omega arith);
      firsts = firsts ∙ ap (λ (k : ℕ). first_all k old.firsts (drop (length old.order) new.order)) count;
      places = places ∙ ap (λ (p : Option (ℕ × ℕ)). old.places ++ p ∷ []) (sym shown);
      few = omega (arith, count, few);
    })
  where
    length-map : (rs : List WayRoot) → length (map (λ r. r.place) rs) ≡ length rs
    length-map [] = refl
    length-map (r ∷ rs) = ap suc (length-map rs)

-- no root is taken
pub none_rooted : (words : Words) (r : Rooted) → IsNothing r.marks → r.order ≡ [] → length r.firsts ≡ spots
    → ((k : ℕ) → get_or r.firsts k no_root ≡ no_root) → r.places ≡ [] → AreRooted words [] r
unfolding spots_before
none_rooted words r nothing empty each none places = record {
  explored = subst (λ ps. Explored words [] r.marks ps (length ps)) (sym empty) (record {
    agree = nothing_agrees r.marks nothing;
    reached = λ q h. absurd h;
    rooted = λ q h. absurd h;
    closed = λ p h q g. absurd h;
    within = omega arith;
  });
  each = each;
  first = record {
    each = λ q i k le. (
      λ h. absurd (let e : first_of r.firsts q ≡ no_root = none (number q) in omega (arith, h, le, e)),
      λ h. absurd (nowhere k q le h),
    );
  };
  known = λ q i. inr (none (number q));
  places = places;
  few = omega arith;
}
  where
    nowhere : (k : ℕ) (q : Spot) → k ≤ 0 → Reached words (spots_before k []) q → ⊥
    nowhere zero q le (Root p h) = h
    nowhere zero q le (Way p s before way) = nowhere zero p le before
    nowhere (suc k) q le h = absurd (omega (arith, le))

-- all are made without a root
pub none_told : (firsts : List ℕ) (n old : ℕ) → length firsts ≡ n → n ≡ spots → old ≡ 0
    → ((k d : ℕ) → true ≡ true → old ≤ k → k < spots → get_or firsts k d ≡ no_root) → (k : ℕ) → get_or firsts k no_root ≡ no_root
none_told firsts n old each is none h k = elim (cases_lt k spots) [
  | inl within ↦ h k no_root refl (omega (arith, none)) within
  | inr beyond ↦ get_or_past firsts k no_root (omega (arith, each, is, beyond))
]

-- what a run has executed is the same in any order
pub executed_same : (scenario : Scenario) (n : ℕ) (c : Came) → HasExecuted scenario n c → HaveSame c.order (executed scenario n)
executed_same scenario n c h q = (h.only q, h.all q)

-- what is shown of them
pub shows : (words : Words) (roots : List WayRoot) (r : Rooted) (shown : Rooting) → AreRooted words roots r
    → shown ≡ record { places = r.places; firsts = r.firsts } → ShowsRoots words roots shown
shows words roots r shown x e =
    subst (λ (s : Rooting). ShowsRoots words roots s) (sym e) (record { first = x.first; places = x.places })

-- a place more of some
pub place_more : (words : Words) (roots : List WayRoot) (places : List (ℕ × ℕ)) (i : ℕ) (p : ℕ × ℕ) (r : Rooted) → i < length places
    → p ≡ get_or places i p
    → AreRooted words ((roots ++ map place_root (take i places)) ++ place_root p ∷ []) r
    → AreRooted words (roots ++ map place_root (take (i + 1) places)) r
place_more words roots places i p r lt is x =
    subst (λ rs. AreRooted words rs r)
    (append_assoc roots (map place_root (take i places)) (place_root p ∷ []) ∙ ap (λ rs. roots ++ rs) (one places i lt is)
    ∙ ap (λ (n : ℕ). roots ++ map place_root (take n places)) (sym (add-one i))) x
  where
    one : (qs : List (ℕ × ℕ)) (j : ℕ) → j < length qs → p ≡ get_or qs j p
        → map place_root (take j qs) ++ place_root p ∷ [] ≡ map place_root (take (suc j) qs)
    one [] j lt is = absurd (omega (arith, lt))
    one (q ∷ qs) zero lt is = ap (λ (s : ℕ × ℕ). place_root s ∷ []) is
    one (q ∷ qs) (suc j) lt is = ap (λ rs. place_root q ∷ rs) (one qs j (omega (arith, lt)) is)

pub places_end : (words : Words) (roots : List WayRoot) (places : List (ℕ × ℕ)) (i : ℕ) (r : Rooted) → length places ≤ i
    → AreRooted words (roots ++ map place_root (take i places)) r → AreRooted words (roots ++ map place_root places) r
places_end words roots places i r le x =
    subst (λ (ps : List (ℕ × ℕ)). AreRooted words (roots ++ map place_root ps) r) (take_all i places le) x

pub places_first : (words : Words) (roots : List WayRoot) (r : Rooted) → AreRooted words roots r → AreRooted words (roots ++ []) r
places_first words roots r x = subst (λ rs. AreRooted words rs r) (sym (nil roots)) x
  where
    nil : (rs : List WayRoot) → rs ++ [] ≡ rs
    nil [] = refl
    nil (q ∷ rs) = ap (λ ys. q ∷ ys) (nil rs)

pub same_itself : (xs : List Spot) → HaveSame xs xs
same_itself xs q = ((λ h. h), (λ h. h))
