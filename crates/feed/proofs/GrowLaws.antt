-- One source more, as a reader finds it.
use Rattle.std.proofs.Common.{refl, ℕ, zero, suc, ◌+◌, ◌^◌, ◌<◌, ◌≤◌, ◌≡◌, Bool, true, Option, None, filter, eq-eqb, List, [], ◌∷◌, ◌++◌}
use Rattle.std.proofs.Common.{Some, length, ap, ◌∙◌, sym, arith, subst, map, inl, inr, ◌⊎◌, append_assoc}
use Rattle.std.specs.Prelude.{slice_get, IfSome}
use Rattle.std.specs.List.{range_with_len}
use Rattle.std.proofs.lemmas.List.{append-nil}
use Rattle.feed.proofs.Numbered.{pushed}
use Rattle.feed.specs.declared.entry.Entry.{Entry}
use Rattle.feed.specs.declared.entry.Plain.{Plain}
use Rattle.feed.specs.declared.entry.Series.{Series}
use Rattle.feed.specs.Merged.{is_before, inserted, in_order, merged, entries, entries_of, entries_from, plain_entry, series_entry}
use Rattle.feed.specs.Heads.{AreSources, IsRule, source, entries_at}
use Rattle.feed.specs.Order.{IsAmong}
use Rattle.feed.specs.CountsTaken.{is_source, is_from, AreInputs}
use Rattle.feed.proofs.SourceLaws.{source-merged}
use Rattle.std.proofs.lemmas.Option.{slice_get_past}
use Rattle.feed.specs.Added.{LinesBelow}
use Rattle.feed.proofs.Sorting.{either_way, is_in_order}
use Rattle.feed.proofs.AddLaws.{among-inserted, number-plain}
use Rattle.std.proofs.lemmas.List.FromFn.{length-map-range_with_len}
use Rattle.feed.specs.Kept.{AreGathered}

among-into : (x e : Entry) (ys : List Entry) → (e ≡ x) ⊎ IsAmong x ys → IsAmong x (inserted e ys)
unfolding inserted
among-into x e [] h = h
among-into x e (y ∷ ys) h = elim (either_way (is_before y e)) [
  | inl is ↦ rw is (among-later h (λ m. among-into x e ys m))
  | inr isnt ↦ rw isnt h
]
  where
    among-later : (e ≡ x) ⊎ IsAmong x (y ∷ ys) → ((e ≡ x) ⊎ IsAmong x ys → IsAmong x (inserted e ys)) → IsAmong x (y ∷ inserted e ys)
    among-later (inl a) f = inr (f (inl a))
    among-later (inr (inl b)) f = inl b
    among-later (inr (inr b)) f = inr (f (inr b))

among-sorted : (x : Entry) (xs : List Entry) → IsAmong x xs → IsAmong x (in_order xs)
unfolding in_order
among-sorted x [] h = h
among-sorted x (y ∷ ys) (inl h) = among-into x y (in_order ys) (inl h)
among-sorted x (y ∷ ys) (inr h) = among-into x y (in_order ys) (inr (among-sorted x ys h))

sorted-among : (x : Entry) (xs : List Entry) → IsAmong x (in_order xs) → IsAmong x xs
unfolding in_order
sorted-among x [] h = h
sorted-among x (y ∷ ys) h = among-or-rest (among-inserted x y (in_order ys) h) (λ m. sorted-among x ys m)
  where
    among-or-rest : (y ≡ x) ⊎ IsAmong x (in_order ys) → (IsAmong x (in_order ys) → IsAmong x ys) → IsAmong x (y ∷ ys)
    among-or-rest (inl a) f = inl a
    among-or-rest (inr b) f = inr (f b)

among-parts : (x : Entry) (xs ys : List Entry) → IsAmong x (xs ++ ys) → IsAmong x xs ⊎ IsAmong x ys
among-parts x [] ys h = inr h
among-parts x (z ∷ xs) ys (inl h) = inl (inl h)
among-parts x (z ∷ xs) ys (inr h) = elim (among-parts x xs ys h) [ inl a ↦ inl (inr a) | inr b ↦ inr b ]

entries-more : (j n : ℕ) (series : List Series) (s : Series) → j + length series ≡ n
    → entries_from j (series ++ s ∷ []) ≡ entries_from j series ++ entries_of n s
unfolding entries_from
entries-more j n series s e = pushed entries_of entries_from (λ k. refl) (λ k t ts. refl) j n series s e

own-range : (n : ℕ) (s : Series) (x : Entry) (a k : ℕ) → IsAmong x (map (series_entry n s) (range_with_len a k))
    → (x.line ≡ s.line) × (x.series ≡ Some n)
own-range n s x a zero h = absurd h
own-range n s x a (suc k) (inl h) = (ap (λ (z : Entry). z.line) (sym h), ap (λ (z : Entry). z.series) (sym h))
own-range n s x a (suc k) (inr h) = own-range n s x (a + 1) k h

own-entry : (n : ℕ) (s : Series) (x : Entry) → IsAmong x (entries_of n s) → (x.line ≡ s.line) × (x.series ≡ Some n)
unfolding entries_of
own-entry n s x h = own-range n s x 0 s.count h

-- an entry with one series more is one that stood or one of the series
among-more : (plain : List Plain) (series : List Series) (s : Series) (x : Entry) → IsAmong x (merged plain (series ++ s ∷ []))
    → IsAmong x (merged plain series) ⊎ IsAmong x (entries_of (length series) s)
unfolding merged
among-more plain series s x h =
    let before = entries plain series in
    let parts : entries plain (series ++ s ∷ []) ≡ before ++ entries_of (length series) s =
    ap (λ l. map plain_entry plain ++ l) (entries-more 0 (length series) series s (omega arith))
    ∙ sym (append_assoc (map plain_entry plain) (entries_from 0 series) (entries_of (length series) s)) in
    elim (among-parts x before (entries_of (length series) s)
    (subst (λ (l : List Entry). IsAmong x l) parts (sorted-among x (entries plain (series ++ s ∷ [])) h))) [
      | inl a ↦ inl (among-sorted x before a)
      | inr b ↦ inr b
    ]

rules-more : (series : List Series) (s : Series) → ((j : ℕ) → IfSome (slice_get series j) (λ r. IsRule r)) → IsRule s → (j : ℕ)
    → IfSome (slice_get (series ++ s ∷ []) j) (λ r. IsRule r)
rules-more [] s rules rule zero = rule
rules-more [] s rules rule (suc j) = tt
rules-more (r ∷ series) s rules rule zero = rules 0
rules-more (r ∷ series) s rules rule (suc j) = rules-more series s (λ i. rules (suc i)) rule j

-- A series on a line after all others.
pub sources-more : (plain : List Plain) (series : List Series) (s : Series) → AreSources plain series → IsRule s
    → LinesBelow (merged plain series) s.line → AreSources plain (series ++ s ∷ [])
sources-more plain series s a rule below = record {
  plain_in_order = a.plain_in_order;
  rules = rules-more series s a.rules rule;
  lines_tell = λ x y p q h. elim (among-more plain series s x p) [
    | inl mx ↦ elim (among-more plain series s y q) [
      | inl my ↦ a.lines_tell x y mx my h
      | inr oy ↦ absurd (let b = below x mx in let l = (own-entry (length series) s y oy).0 in omega arith)
    ]
    | inr ox ↦ elim (among-more plain series s y q) [
      | inl my ↦ absurd (let b = below y my in let l = (own-entry (length series) s x ox).0 in omega arith)
      | inr oy ↦ (own-entry (length series) s x ox).1 ∙ sym (own-entry (length series) s y oy).1
    ]
  ];
}

pub lines-more : (plain : List Plain) (series : List Series) (s : Series) → LinesBelow (merged plain series) s.line
    → LinesBelow (merged plain (series ++ s ∷ [])) (s.line + 1)
lines-more plain series s below = λ x m. elim (among-more plain series s x m) [
  | inl mx ↦ let b = below x mx in omega arith
  | inr ox ↦ let l = (own-entry (length series) s x ox).0 in omega arith
]

-- nothing stands yet
pub no-sources : AreSources [] []
unfolding merged in_order entries_from
no-sources = record { plain_in_order = tt; rules = λ j. tt; lines_tell = λ x y p q h. absurd p }

among-own : (p : Entry → Bool) (x : Entry) (xs : List Entry) → p x ≡ true → IsAmong x xs → IsAmong x (filter p xs)
among-own p x [] h m = m
among-own p x (y ∷ ys) h (inl is) = let here : p y ≡ true = ap p is ∙ h in rw here (inl is)
among-own p x (y ∷ ys) h (inr m) = elim (either_way (p y)) [
  | inl is ↦ rw is (inr (among-own p x ys h m))
  | inr isnt ↦ rw isnt (among-own p x ys h m)
]

at-among : (xs : List Entry) (k : ℕ) (e : Entry) → slice_get xs k ≡ Some e → IsAmong e xs
at-among [] k e h = absurd (cc)
at-among (y ∷ ys) zero e h = let same : y ≡ e = cc in inl same
at-among (y ∷ ys) (suc k) e h = inr (at-among ys k e h)

itself : (s : Option ℕ) → is_source s s ≡ true
itself None = refl
itself (Some j) = eq-eqb j j refl

series-stands : (plain : List Plain) (series : List Series) (e : Entry) (s : Option ℕ) → length series ≤ 16
    → IsAmong e (source plain series s) → IfSome s (λ j. j < 16)
series-stands plain series e None few m = tt
series-stands plain series e (Some j) few m = elim (below_or_not j (length series)) [
  | inl b ↦ omega arith
  | inr past ↦ absurd (subst (λ (o : Option Series). IsAmong e (entries_at j o)) (slice_get_past series j past) m)
]
  where
    below_or_not : (j n : ℕ) → (j < n) ⊎ (n ≤ j)
    below_or_not j n = grind arith

-- each entry of a feed is plain or of one of sixteen series
pub of-sixteen : (plain : List Plain) (series : List Series) (k : ℕ) (e : Entry) → AreSources plain series → length series ≤ 16
    → slice_get (merged plain series) k ≡ Some e → IfSome e.series (λ j. j < 16)
of-sixteen plain series k e a few h =
    series-stands plain series e e.series few
    (subst (IsAmong e) (source-merged plain series e.series a)
    (among-own (is_from e.series) e (merged plain series) (itself e.series) (at-among (merged plain series) k e h)))

length-entries : (j : ℕ) (s : Series) → length (entries_of j s) ≡ s.count
unfolding entries_of
length-entries j s = length-map-range_with_len (series_entry j s) 0 s.count

entries-at : (series : List Series) (j : ℕ) → ((i : ℕ) → IfSome (slice_get series i) (λ s. IsRule s))
    → length (entries_at j (slice_get series j)) < 10 ^ 9
entries-at series j rules = few (slice_get series j) (rules j)
  where
    few : (o : Option Series) → IfSome o (λ s. IsRule s) → length (entries_at j o) < 10 ^ 9
    few None rule = omega arith
    few (Some s) rule = let n = length-entries j s in let c = rule.count in omega (arith, n, c)

-- what every feed's list is
pub are_inputs : (plain : List Plain) (series : List Series) (line : ℕ) → AreGathered plain series line → AreInputs (merged plain series)
unfolding merged
are_inputs plain series line g = record {
  order = is_in_order (entries plain series);
  sixteen = λ k e h. of-sixteen plain series k e g.sources g.few h;
  plainly = let n = number-plain plain series g.sources in let f = g.plainly in omega (arith, n, f);
  serially = λ j. subst (λ (l : List Entry). length l < 10 ^ 9) (sym (source-merged plain series (Some j) g.sources))
      (entries-at series j g.sources.rules);
}

-- what the inputs of a feed are, seen as its list
pub inputs-of : (plain : List Plain) (series : List Series) (line : ℕ) (list : List Entry) → AreGathered plain series line
    → merged plain series ≡ list → AreInputs list
inputs-of plain series line list g same = subst (λ (l : List Entry). AreInputs l) same (are_inputs plain series line g)
