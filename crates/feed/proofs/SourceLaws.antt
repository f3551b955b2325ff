-- The sources of the merged list.
use Rattle.std.proofs.Common.{ℕ, zero, suc, ◌+◌, ◌*◌, ◌/◌, ◌<◌, ◌≤◌, ◌≡◌, ◌≢◌, Bool, true, false, List, [], ◌∷◌, ◌++◌, Option, Some, None}
use Rattle.std.proofs.Common.{ltb, eqb, refl, ap, ◌∙◌, sym, arith, ◌&&◌, ◌||◌, filter, map, eq-eqb}
use Rattle.std.specs.Prelude.{slice_get, IfSome}
use Rattle.std.specs.List.{range_with_len}
use Rattle.std.proofs.lemmas.Bool.Decides.{nat_tests}
use Rattle.std.proofs.lemmas.List.{append-nil}
use Rattle.std.proofs.lemmas.List.Elements.{filter-append}
use Rattle.std.proofs.lemmas.Nat.{le-div}
use Rattle.std.proofs.Math.Nat.{div-mul-le_self}
use Rattle.feed.specs.declared.entry.Entry.{Entry}
use Rattle.feed.specs.declared.entry.Plain.{Plain}
use Rattle.feed.specs.declared.entry.Series.{Series}
use Rattle.feed.specs.Merged.{is_before, in_order, plain_entry, series_entry, cycle_of, entries_of, entries_from, entries, merged}
use Rattle.feed.specs.CountsTaken.{is_from}
use Rattle.feed.specs.Heads.{entries_at, source, AreSources, IsRule}
use Rattle.feed.specs.Order.{NoneBefore, IsInOrder}
use Rattle.feed.proofs.Sorting.{filter-in_order, in_order-same}

eqb-no : (a b : ℕ) → (a ≢ b) → eqb a b ≡ false
eqb-no a b h = grind (arith, nat_tests)

eqb-yes : (a : ℕ) → eqb a a ≡ true
eqb-yes a = eq-eqb a a refl

filter-all : {X : Type 0} (p : Entry → Bool) (f : X → Entry) (xs : List X) → ((x : X) → p (f x) ≡ true) → filter p (map f xs) ≡ map f xs
filter-all p f [] h = refl
filter-all p f (x ∷ xs) h = rw (h x) (ap (λ l. f x ∷ l) (filter-all p f xs h))

filter-none : {X : Type 0} (p : Entry → Bool) (f : X → Entry) (xs : List X) → ((x : X) → p (f x) ≡ false) → filter p (map f xs) ≡ []
filter-none p f [] h = refl
filter-none p f (x ∷ xs) h = rw (h x) (filter-none p f xs h)

own-entries : (j : ℕ) (s : Series) → filter (is_from (Some j)) (entries_of j s) ≡ entries_of j s
unfolding entries_of
own-entries j s = filter-all (is_from (Some j)) (series_entry j s) (range_with_len 0 s.count) (λ i. eqb-yes j)

other-entries : (j k : ℕ) (s : Series) → (k ≢ j) → filter (is_from (Some k)) (entries_of j s) ≡ []
unfolding entries_of
other-entries j k s h = filter-none (is_from (Some k)) (series_entry j s) (range_with_len 0 s.count) (λ i. eqb-no k j h)

no_plain-entries : (j : ℕ) (s : Series) → filter (is_from None) (entries_of j s) ≡ []
unfolding entries_of
no_plain-entries j s = filter-none (is_from None) (series_entry j s) (range_with_len 0 s.count) (λ i. refl)

no_plain-from : (j : ℕ) (series : List Series) → filter (is_from None) (entries_from j series) ≡ []
unfolding entries_from
no_plain-from j [] = refl
no_plain-from j (s ∷ more) =
    filter-append (is_from None) (entries_of j s) (entries_from (j + 1) more)
    ∙ ap (λ l. l ++ filter (is_from None) (entries_from (j + 1) more)) (no_plain-entries j s) ∙ no_plain-from (j + 1) more

earlier-from : (j k : ℕ) (series : List Series) → k < j → filter (is_from (Some k)) (entries_from j series) ≡ []
unfolding entries_from
earlier-from j k [] h = refl
earlier-from j k (s ∷ more) h =
    filter-append (is_from (Some k)) (entries_of j s) (entries_from (j + 1) more)
    ∙ ap (λ l. l ++ filter (is_from (Some k)) (entries_from (j + 1) more)) (other-entries j k s (omega arith))
    ∙ earlier-from (j + 1) k more (omega arith)

own-from : (j i k : ℕ) (series : List Series) → j + i ≡ k
    → filter (is_from (Some k)) (entries_from j series) ≡ entries_at k (slice_get series i)
unfolding entries_from
own-from j i k [] e = refl
own-from j zero k (s ∷ more) e =
    let here : k ≡ j = omega (arith, e) in
    filter-append (is_from (Some k)) (entries_of j s) (entries_from (j + 1) more)
    ∙ ap (λ l. filter (is_from (Some k)) (entries_of j s) ++ l) (earlier-from (j + 1) k more (omega arith)) ∙ append-nil _
    ∙ ap (λ n. filter (is_from (Some k)) (entries_of n s)) (sym here) ∙ own-entries k s
own-from j (suc i) k (s ∷ more) e =
    filter-append (is_from (Some k)) (entries_of j s) (entries_from (j + 1) more)
    ∙ ap (λ l. l ++ filter (is_from (Some k)) (entries_from (j + 1) more)) (other-entries j k s (omega (arith, e)))
    ∙ own-from (j + 1) i k more (omega (arith, e))

-- the entries of a source among all
source-entries : (plain : List Plain) (series : List Series) (s : Option ℕ)
    → filter (is_from s) (entries plain series) ≡ source plain series s
source-entries plain series None =
    filter-append (is_from None) (map plain_entry plain) (entries_from 0 series)
    ∙ ap (λ l. l ++ filter (is_from None) (entries_from 0 series)) (filter-all (is_from None) plain_entry plain (λ p. refl))
    ∙ ap (λ l. map plain_entry plain ++ l) (no_plain-from 0 series) ∙ append-nil _
source-entries plain series (Some j) =
    filter-append (is_from (Some j)) (map plain_entry plain) (entries_from 0 series)
    ∙ ap (λ l. l ++ filter (is_from (Some j)) (entries_from 0 series)) (filter-none (is_from (Some j)) plain_entry plain (λ p. refl))
    ∙ own-from 0 j j series (omega arith)

-- a series is in order
cycles-rise : (s : Series) (a b : ℕ) → 0 < s.den → a ≤ b → cycle_of s a ≤ cycle_of s b
cycles-rise s a b d h =
    let p : a * s.num ≤ b * s.num = grind arith in
    let q : (a * s.num) / s.den * s.den ≤ b * s.num = omega (arith, div-mul-le_self (a * s.num) s.den, p) in
    let r = le-div ((a * s.num) / s.den) (b * s.num) s.den d q in
    omega (arith, r)

later-numbers : (c d l a b : ℕ) → c ≤ d → a ≤ b → (ltb d c || (eqb d c && (ltb l l || (eqb l l && ltb b a)))) ≡ false
later-numbers c d l a b p q = grind (arith, nat_tests)

later-entry : (j : ℕ) (s : Series) (a b : ℕ) → 0 < s.den → a ≤ b → is_before (series_entry j s b) (series_entry j s a) ≡ false
unfolding is_before
later-entry j s a b d h = later-numbers (cycle_of s a) (cycle_of s b) s.line a b (cycles-rise s a b d h) h

none_before-range : (j : ℕ) (s : Series) (a b n : ℕ) → 0 < s.den → a ≤ b
    → NoneBefore (series_entry j s a) (map (series_entry j s) (range_with_len b n))
none_before-range j s a b zero d h = tt
none_before-range j s a b (suc n) d h = (later-entry j s a b d h, none_before-range j s a (b + 1) n d (omega arith))

pub in_order-range : (j : ℕ) (s : Series) (a n : ℕ) → 0 < s.den → IsInOrder (map (series_entry j s) (range_with_len a n))
in_order-range j s a zero d = tt
in_order-range j s a (suc n) d = (none_before-range j s a (a + 1) n d (omega arith), in_order-range j s (a + 1) n d)

in_order-at : (j : ℕ) (o : Option Series) → IfSome o (λ s. IsRule s) → IsInOrder (entries_at j o)
unfolding entries_of
in_order-at j None d = tt
in_order-at j (Some s) d = in_order-range j s 0 s.count d.den

pub source-in_order : (plain : List Plain) (series : List Series) (s : Option ℕ) → AreSources plain series
    → IsInOrder (source plain series s)
source-in_order plain series None a = a.plain_in_order
source-in_order plain series (Some j) a = in_order-at j (slice_get series j) (a.rules j)

-- the entries of a source in the merged list
pub source-merged : (plain : List Plain) (series : List Series) (s : Option ℕ) → AreSources plain series
    → filter (is_from s) (merged plain series) ≡ source plain series s
unfolding merged
source-merged plain series s a =
    filter-in_order (is_from s) (entries plain series) ∙ ap in_order (source-entries plain series s)
    ∙ in_order-same (source plain series s) (source-in_order plain series s a)
