-- One plain input more.
use Rattle.std.proofs.Common.{ℕ, zero, suc, ◌+◌, ◌-◌, ◌<◌, ◌≤◌, ◌≡◌, Bool, true, false, List, [], ◌∷◌, ◌++◌, Option, Some, None, length}
use Rattle.std.proofs.Common.{refl, ap, ◌∙◌, sym, arith, subst, map, filter, get_or, leb, leb-true, leb-false, inl, inr, ◌⊎◌, ltb, eqb}
use Rattle.std.proofs.Common.{◌&&◌, ◌||◌}
use Rattle.std.specs.Prelude.{slice_get, insert}
use Rattle.std.proofs.lemmas.Bool.{cases_lt}
use Rattle.std.proofs.lemmas.Bool.Decides.{nat_tests}
use Rattle.feed.specs.declared.input.Input.{Input}
use Rattle.feed.specs.declared.entry.Entry.{Entry}
use Rattle.feed.specs.declared.entry.Plain.{Plain}
use Rattle.feed.specs.declared.entry.Series.{Series}
use Rattle.feed.specs.Merged.{is_before, inserted, in_order, merged, entries_from, plain_entry}
use Rattle.feed.specs.CountsTaken.{is_from, number_from}
use Rattle.feed.specs.Heads.{AreSources}
use Rattle.feed.specs.Order.{IsInOrder, IsAmong, NoneBefore}
use Rattle.feed.specs.Kept.{AreGathered, IsFeed, IsPlaceOf}
use Rattle.feed.specs.Added.{LinesBelow, plain_on, AddsLast}
use Rattle.feed.specs.Feed.{most_inputs}
use Rattle.feed.proofs.Sorting.{either_way, in_order-more, in_order-inserted}
use Rattle.feed.proofs.SourceLaws.{source-merged}
use Rattle.feed.proofs.DueLaws.{none_due-zero, isnt_before_cycle}
use Rattle.std.specs.List.Sorted.{IsNonDecreasingBy, IsPartitionPoint}
use Rattle.std.proofs.lemmas.Option.{slice_get_past, get_or_from_slice_get}
use Rattle.feed.proofs.CountLaws.{length-inserted}

among-either : (x e y : Entry) (ys new : List Entry) → (IsAmong x new → (e ≡ x) ⊎ IsAmong x ys) → IsAmong x (y ∷ new)
    → (e ≡ x) ⊎ IsAmong x (y ∷ ys)
among-either x e y ys new f (inl h) = inr (inl h)
among-either x e y ys new f (inr h) = elim (f h) [ inl a ↦ inl a | inr b ↦ inr (inr b) ]

among-rest : (x y : Entry) (ys new : List Entry) → (IsAmong x new → IsAmong x ys) → IsAmong x (y ∷ new) → IsAmong x (y ∷ ys)
among-rest x y ys new f (inl h) = inl h
among-rest x y ys new f (inr h) = inr (f h)

pub among-inserted : (x e : Entry) (ys : List Entry) → IsAmong x (inserted e ys) → (e ≡ x) ⊎ IsAmong x ys
unfolding inserted
among-inserted x e [] (inl h) = inl h
among-inserted x e [] (inr h) = absurd h
among-inserted x e (y ∷ ys) h = elim (either_way (is_before y e)) [
  | inl is ↦ among-either x e y ys (inserted e ys) (λ m. among-inserted x e ys m) (rw is at h)
  | inr isnt ↦ rw isnt at h
]

among-filter : (p : Entry → Bool) (x : Entry) (xs : List Entry) → IsAmong x (filter p xs) → IsAmong x xs
among-filter p x [] h = h
among-filter p x (y ∷ ys) h = elim (either_way (p y)) [
  | inl is ↦ among-rest x y ys (filter p ys) (λ m. among-filter p x ys m) (rw is at h)
  | inr isnt ↦ inr (among-filter p x ys (rw isnt at h))
]

among-map : (plain : List Plain) (k : ℕ) (p : Plain) → slice_get plain k ≡ Some p → IsAmong (plain_entry p) (map plain_entry plain)
among-map [] k p h = absurd (cc)
among-map (q ∷ plain) zero p h = let same : q ≡ p = cc in inl (ap plain_entry same)
among-map (q ∷ plain) (suc k) p h = inr (among-map plain k p h)

plain-among : (plain : List Plain) (series : List Series) (k : ℕ) (p : Plain) → AreSources plain series → slice_get plain k ≡ Some p
    → IsAmong (plain_entry p) (merged plain series)
plain-among plain series k p a h =
    among-filter (is_from None) (plain_entry p) (merged plain series)
    (subst (IsAmong (plain_entry p)) (sym (source-merged plain series None a)) (among-map plain k p h))

is-first : (a b c d : ℕ) → a < b → (ltb b a || (eqb b a && (ltb c d || (eqb c d && ltb 0 0)))) ≡ false
is-first a b c d h = grind (arith, nat_tests)

is-later : (a b c d : ℕ) → a ≤ b → c < d → (ltb a b || (eqb a b && (ltb c d || (eqb c d && ltb 0 0)))) ≡ true
is-later a b c d h k = grind (arith, nat_tests)

insert-plain : (plain : List Plain) (place : ℕ) (p : Plain) → place ≤ length plain
    → ((k : ℕ) (q : Plain) → slice_get plain k ≡ Some q → q.line < p.line)
    → ((k : ℕ) (q : Plain) → k < place → slice_get plain k ≡ Some q → q.cycle ≤ p.cycle)
    → ((q : Plain) → slice_get plain place ≡ Some q → p.cycle < q.cycle)
    → map plain_entry (insert plain place p) ≡ inserted (plain_entry p) (map plain_entry plain)
unfolding inserted is_before
insert-plain [] zero p w l b a = refl
insert-plain [] (suc place) p w l b a = absurd (omega arith)
insert-plain (q ∷ plain) zero p w l b a = rw (is-first p.cycle q.cycle q.line p.line (a q refl)) refl
insert-plain (q ∷ plain) (suc place) p w l b a =
    rw (is-later q.cycle p.cycle q.line p.line (b 0 q (omega arith) refl) (l 0 q refl))
    (ap (λ r. plain_entry q ∷ r) (insert-plain plain place p (omega arith) (λ k r h. l (suc k) r h) (λ k r h e. b (suc k) r (omega arith) e)
    a))

merged-added : (plain more : List Plain) (series : List Series) (e : Entry) → map plain_entry more ≡ inserted e (map plain_entry plain)
    → merged more series ≡ inserted e (merged plain series)
unfolding merged
merged-added plain more series e h = ap (λ l. in_order (l ++ entries_from 0 series)) h
    ∙ in_order-more e (map plain_entry plain) (entries_from 0 series)

-- a line above all others tells its source too
tell-added : (e : Entry) (list : List Entry) → LinesBelow list e.line
    → ((x y : Entry) → IsAmong x list → IsAmong y list → x.line ≡ y.line → x.series ≡ y.series)
    → (x y : Entry) → IsAmong x (inserted e list) → IsAmong y (inserted e list) → x.line ≡ y.line → x.series ≡ y.series
tell-added e list below tell x y p q h = elim (among-inserted x e list p) [
  | inl ex ↦ elim (among-inserted y e list q) [
    | inl ey ↦ ap (λ (z : Entry). z.series) (sym ex ∙ ey)
    | inr my ↦ absurd (let b = below y my in let same : e.line ≡ x.line = ap (λ (z : Entry). z.line) ex in omega arith)
  ]
  | inr mx ↦ elim (among-inserted y e list q) [
    | inl ey ↦ absurd (let b = below x mx in let same : e.line ≡ y.line = ap (λ (z : Entry). z.line) ey in omega arith)
    | inr my ↦ tell x y mx my h
  ]
]

lines-added : (e : Entry) (list : List Entry) → LinesBelow list e.line → LinesBelow (inserted e list) (e.line + 1)
lines-added e list below = λ x m. elim (among-inserted x e list m) [
  | inl ex ↦ let same : e.line ≡ x.line = ap (λ (z : Entry). z.line) ex in omega arith
  | inr mx ↦ let b = below x mx in omega arith
]

same-length : (plain : List Plain) → length (map plain_entry plain) ≡ length plain
same-length [] = refl
same-length (p ∷ plain) = ap suc (same-length plain)

-- the plain inputs with one more
inserted-at : (plain : List Plain) (series : List Series) (line cycle place : ℕ) (input : Input) → AreGathered plain series line
    → IsPlaceOf plain cycle place
    → map plain_entry (insert plain place (record { cycle = cycle; line = line; input = input }))
    ≡ inserted (plain_on line cycle input) (map plain_entry plain)
inserted-at plain series line cycle place input g at =
    insert-plain plain place (record { cycle = cycle; line = line; input = input }) at.within
    (λ k q h. g.lines (plain_entry q) (plain-among plain series k q g.sources h)) at.before at.after

-- the list with one input more
pub gathered-adds : (plain more : List Plain) (series : List Series) (line cycle place : ℕ) (input : Input) → AreGathered plain series line
    → IsPlaceOf plain cycle place
    → more ≡ insert plain place (record { cycle = cycle; line = line; input = input })
    → AddsLast (merged plain series) cycle input (merged more series)
gathered-adds plain more series line cycle place input g at is = record {
  line = line;
  after = g.lines;
  new_is = merged-added plain more series (plain_on line cycle input)
      (ap (map plain_entry) is ∙ inserted-at plain series line cycle place input g at);
}

length-more : (plain more : List Plain) (e : Entry) → map plain_entry more ≡ inserted e (map plain_entry plain)
    → length more ≡ suc (length plain)
length-more plain more e ordered = sym (same-length more) ∙ ap length ordered ∙ length-inserted e (map plain_entry plain)
    ∙ ap suc (same-length plain)

-- one plain input more is gathered
pub gathered-more : (plain more : List Plain) (series : List Series) (line cycle place : ℕ) (input : Input) → AreGathered plain series line
    → IsPlaceOf plain cycle place
    → more ≡ insert plain place (record { cycle = cycle; line = line; input = input }) → length plain < most_inputs
    → AreGathered more series (line + 1)
gathered-more plain more series line cycle place input g at is few =
    let e = plain_on line cycle input in
    let ordered : map plain_entry more ≡ inserted e (map plain_entry plain) = ap (map plain_entry) is
    ∙ inserted-at plain series line cycle place input g at in
    let all : merged more series ≡ inserted e (merged plain series) = merged-added plain more series e ordered in
    record {
      sources = record {
        plain_in_order = subst (λ (l : List Entry). IsInOrder l) (sym ordered)
            (in_order-inserted e (map plain_entry plain) g.sources.plain_in_order);
        rules = g.sources.rules;
        lines_tell = subst (λ (l : List Entry). (x y : Entry) → IsAmong x l → IsAmong y l → x.line ≡ y.line → x.series ≡ y.series) (sym all)
            (tell-added e (merged plain series) g.lines g.sources.lines_tell);
      };
      plainly = omega (arith, length-more plain more e ordered, few);
      few = g.few;
      lines = subst (λ (l : List Entry). LinesBelow l (line + 1)) (sym all) (lines-added e (merged plain series) g.lines);
    }

-- what a feed keeps with one input more
pub feed-added : (plain more : List Plain) (series : List Series) (known at line cycle place : ℕ) (input : Input) (kept : Option Entry)
    → IsFeed plain series known at line kept → IsPlaceOf plain cycle place
    → more ≡ insert plain place (record { cycle = cycle; line = line; input = input }) → length plain < most_inputs
    → IsFeed more series known 0 (line + 1) None
feed-added plain more series known at line cycle place input kept f is_at is few = record {
  gathered = gathered-more plain more series line cycle place input f.gathered is_at is few;
  none = none_due-zero (merged more series) known;
  next = tt;
  room =
      let r = f.room in
      let long = length-more plain more (plain_on line cycle input)
      (ap (map plain_entry) is ∙ inserted-at plain series line cycle place input f.gathered is_at) in
      omega (arith, r, long);
}

-- so many plain inputs stand
pub number-plain : (plain : List Plain) (series : List Series) → AreSources plain series
    → number_from None (merged plain series) ≡ length plain
number-plain plain series a = ap length (source-merged plain series None a) ∙ same-length plain

-- the first of some plain inputs in order is due no later than another
first-lowest : (p : Plain) (plain : List Plain) (j : ℕ) (d : Plain) → NoneBefore (plain_entry p) (map plain_entry plain) → j < length plain
    → p.cycle ≤ (get_or plain j d).cycle
first-lowest p [] j d none lt = absurd (omega arith)
first-lowest p (q ∷ plain) zero d none lt = isnt_before_cycle (plain_entry p) (plain_entry q) none.0
first-lowest p (q ∷ plain) (suc j) d none lt = first-lowest p plain j d none.1 (omega arith)

-- the cycles of plain inputs in order do not fall
pub plain-rises : (plain : List Plain) → IsInOrder (map plain_entry plain) → IsNonDecreasingBy (λ (p : Plain). p.cycle) plain
plain-rises [] order i j d le lt = absurd (omega arith)
plain-rises (p ∷ plain) order zero zero d le lt = omega arith
plain-rises (p ∷ plain) order zero (suc j) d le lt = first-lowest p plain j d order.0 (omega arith)
plain-rises (p ∷ plain) order (suc i) zero d le lt = absurd (omega arith)
plain-rises (p ∷ plain) order (suc i) (suc j) d le lt = plain-rises plain order.1 i j d (omega arith) (omega arith)

-- the point that parts the plain inputs that are due by a cycle from the others is the place of one of that cycle
pub place-point : (plain : List Plain) (cycle place : ℕ) → place ≤ length plain
    → IsPartitionPoint (λ (p : Plain). leb p.cycle cycle ≡ true) (λ (p : Plain). leb p.cycle cycle ≡ false) plain place
    → IsPlaceOf plain cycle place
place-point plain cycle place within point = record {
  within = within;
  before = λ k q below at.
      let is = get_or_from_slice_get plain k q q at in
      leb-true q.cycle cycle (subst (λ (p : Plain). leb p.cycle cycle ≡ true) is (point.0 k q (omega arith) below));
  after = λ q at. elim (cases_lt place (length plain)) [
    | inl inside ↦
        let is = get_or_from_slice_get plain place q q at in
        let past = leb-false q.cycle cycle (subst (λ (p : Plain). leb p.cycle cycle ≡ false) is (point.1 place q (omega arith) inside)) in
        omega (arith, past)
    | inr outside ↦ absurd (let past = slice_get_past plain place (omega (arith, outside)) in cc)
  ];
}

-- the last of some is the last of one more before them
last-later : (p r : Plain) (plain : List Plain) (o : Option Plain) → slice_get (r ∷ plain) (length (r ∷ plain) - 1) ≡ o
    → slice_get (p ∷ r ∷ plain) (length (p ∷ r ∷ plain) - 1) ≡ o
last-later p r plain o h = let e : length (p ∷ r ∷ plain) - 1 ≡ suc (length (r ∷ plain) - 1) = omega arith in rw e h

-- the place of an input that is due no earlier than the last is the end
pub place-last : (plain : List Plain) (cycle : ℕ) → IsInOrder (map plain_entry plain)
    → ((q : Plain) → slice_get plain (length plain - 1) ≡ Some q → q.cycle ≤ cycle) → IsPlaceOf plain cycle (length plain)
place-last plain cycle order last = record {
  within = omega arith;
  before = λ k q h at. none_after plain k q cycle order last at;
  after = λ q at. absurd (let past = slice_get_past plain (length plain) (omega arith) in cc);
}
  where
    none_after : (plain : List Plain) (k : ℕ) (q : Plain) (cycle : ℕ) → IsInOrder (map plain_entry plain)
        → ((r : Plain) → slice_get plain (length plain - 1) ≡ Some r → r.cycle ≤ cycle) → slice_get plain k ≡ Some q → q.cycle ≤ cycle
    none_after [] k q cycle order last at = absurd (cc)
    none_after (p ∷ []) zero q cycle order last at = last q at
    none_after (p ∷ []) (suc k) q cycle order last at = absurd (cc)
    none_after (p ∷ r ∷ plain) zero q cycle order last at =
        let same : p ≡ q = cc in
        let next : r.cycle ≤ cycle = none_after (r ∷ plain) zero r cycle order.1 (λ s h. last s (last-later p r plain (Some s) h)) refl in
        let first : p.cycle ≤ r.cycle = isnt_before_cycle (plain_entry p) (plain_entry r) order.0.0 in
        let here : p.cycle ≡ q.cycle = ap (λ (x : Plain). x.cycle) same in
        omega (arith, next, first, here)
    none_after (p ∷ r ∷ plain) (suc k) q cycle order last at = none_after (r ∷ plain) k q cycle order.1
        (λ s h. last s (last-later p r plain (Some s) h)) at
