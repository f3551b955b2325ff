-- The heads of sources.
use Rattle.std.proofs.Common.{ℕ, zero, suc, ◌+◌, ◌<◌, ◌≤◌, ◌≡◌, true, false, List, [], ◌∷◌, Option, Some, None, length, refl, ap, ◌∙◌, sym}
use Rattle.std.proofs.Common.{arith, inl, inr, ◌⊎◌, subst, map}
use Rattle.std.specs.Prelude.{◌-◌, slice_get, slice_index, IfSome, sum}
use Rattle.std.specs.List.{range_with_len}
use Rattle.std.proofs.lemmas.List.FromFn.{get_or-map-range_with_len, length-map-range_with_len}
use Rattle.std.proofs.lemmas.Option.{slice_get_within, slice_get_past, slice_get-get_or}
use Rattle.feed.specs.declared.entry.Entry.{Entry}
use Rattle.feed.specs.declared.entry.Plain.{Plain}
use Rattle.feed.specs.declared.entry.Series.{Series}
use Rattle.feed.specs.Merged.{is_before, series_entry, plain_entry, entries_of, cycle_of}
use Rattle.feed.specs.Heads.{IsntBefore, IsLeast, IsLeastUpTo, earlier, entries_at, head}
use Rattle.feed.proofs.Sorting.{either_way, before-asym, before-not}

pub entry-within : (j : ℕ) (s : Series) (i : ℕ) → i < s.count → slice_get (entries_of j s) i ≡ Some (series_entry j s i)
unfolding entries_of
entry-within j s i h =
    let long = length-map-range_with_len (series_entry j s) 0 s.count in
    slice_get-get_or (map (series_entry j s) (range_with_len 0 s.count)) i (series_entry j s i) (omega (arith, long, h))
    ∙ ap Some (get_or-map-range_with_len (series_entry j s) 0 s.count i i (series_entry j s i) h (omega arith))

pub entry-past : (j : ℕ) (s : Series) (i : ℕ) → s.count ≤ i → slice_get (entries_of j s) i ≡ None
unfolding entries_of
entry-past j s i h =
    let long = length-map-range_with_len (series_entry j s) 0 s.count in
    slice_get_past (map (series_entry j s) (range_with_len 0 s.count)) i (omega (arith, long, h))

-- no head of the first n series, and then of one more
pub below-more : (P : ℕ → Type 0) (n : ℕ) → ((j : ℕ) → j < n → P j) → P n → (j : ℕ) → j < n + 1 → P j
below-more P n h p j b = elim (cases_le j n b) [
  | inl less ↦ h j less
  | inr same ↦ subst P (sym same) p
]
  where
    cases_le : (j n : ℕ) → j < n + 1 → (j < n) ⊎ (j ≡ n)
    cases_le j n b = grind arith

isnt_before-later : (e f : Entry) (o : Option Entry) → is_before f e ≡ true → IsntBefore e o → IsntBefore f o
isnt_before-later e f None h k = tt
isnt_before-later e f (Some g) h k = before-not f e g (before-asym f e h) k

pub isnt_itself : (e : Entry) → is_before e e ≡ false
isnt_itself e = elim (either_way (is_before e e)) [ inl is ↦ before-asym e e is | inr isnt ↦ isnt ]

is_itself : (e : Entry) (o : Option Entry) → o ≡ Some e → IsntBefore e o
is_itself e o h = subst (IsntBefore e) (sym h) (isnt_itself e)

least-one_more : (n : ℕ) (heads : Option ℕ → Option Entry) (o p : Option Entry) → heads (Some n) ≡ p
    → ((f : Entry) → p ≡ Some f → f.series ≡ Some n) → IsLeastUpTo n heads o → IsLeastUpTo (n + 1) heads (earlier o p)
least-one_more n heads None None is own h = (h.0, below-more (λ j. heads (Some j) ≡ None) n h.1 is)
least-one_more n heads None (Some f) is own h = (
  ap heads (own f refl) ∙ is,
  subst (IsntBefore f) (sym h.0) tt,
  below-more (λ j. IsntBefore f (heads (Some j))) n
      (λ j b. subst (IsntBefore f) (sym (h.1 j b)) tt) (is_itself f (heads (Some n)) is),
)
least-one_more n heads (Some e) None is own h =
    (h.0, h.1, below-more (λ j. IsntBefore e (heads (Some j))) n h.2 (subst (IsntBefore e) (sym is) tt))
least-one_more n heads (Some e) (Some f) is own h = elim (either_way (is_before f e)) [
  | inl before ↦ rw before (
    ap heads (own f refl) ∙ is,
    isnt_before-later e f (heads None) before h.1,
    below-more (λ j. IsntBefore f (heads (Some j))) n
        (λ j b. isnt_before-later e f (heads (Some j)) before (h.2 j b)) (is_itself f (heads (Some n)) is),
  )
  | inr after ↦ rw after (h.0, h.1, below-more (λ j. IsntBefore e (heads (Some j))) n h.2 (subst (IsntBefore e) (sym is) after))
]

entry-series : (j : ℕ) (s : Series) (i : ℕ) (f : Entry) → slice_get (entries_of j s) i ≡ Some f → f.series ≡ Some j
unfolding entries_of
entry-series j s i f h =
    let within : i < s.count = let w = slice_get_within (entries_of j s) i f h in let long = length-map-range_with_len (series_entry j s) 0
    s.count in omega (arith, w, long) in
    let e = entry-within j s i within in
    let same : Some f ≡ Some (series_entry j s i) = sym h ∙ e in
    cc

-- the head of one series more
pub least-more : (plain : List Plain) (series : List Series) (taken : ℕ) (counts : List ℕ) (n : ℕ) (s : Series) (o p : Option Entry)
    → slice_get series n ≡ Some s → p ≡ slice_get (entries_of n s) (slice_index counts n)
    → IsLeastUpTo n (head plain series taken counts) o → IsLeastUpTo (n + 1) (head plain series taken counts) (earlier o p)
least-more plain series taken counts n s o p at is h =
    least-one_more n (head plain series taken counts) o p (ap (λ x. slice_get (entries_at n x) (slice_index counts n)) at ∙ sym is)
    (λ f e. entry-series n s (slice_index counts n) f (sym is ∙ e)) h

-- the head of the plain inputs
pub least-plain : (plain : List Plain) (series : List Series) (taken : ℕ) (counts : List ℕ) (o : Option Entry)
    → o ≡ head plain series taken counts None → ((e : Entry) → o ≡ Some e → e.series ≡ None)
    → IsLeastUpTo 0 (head plain series taken counts) o
least-plain plain series taken counts None is own = (sym is, λ j b. absurd (omega arith))
least-plain plain series taken counts (Some e) is own = (
  ap (head plain series taken counts) (own e refl)
      ∙ sym is,
  is_itself e (head plain series taken counts None) (sym is),
  λ j b. absurd (omega arith),
)

no_head : (plain : List Plain) (series : List Series) (taken : ℕ) (counts : List ℕ) (j : ℕ) → length series ≤ j
    → head plain series taken counts (Some j) ≡ None
no_head plain series taken counts j h = ap (λ x. slice_get (entries_at j x) (slice_index counts j)) (slice_get_past series j h)

pub cases_below : (j n : ℕ) → (j < n) ⊎ (n ≤ j)
cases_below j n = grind arith

-- the least of all heads
pub least-all : (plain : List Plain) (series : List Series) (taken : ℕ) (counts : List ℕ) (n : ℕ) (o : Option Entry) → length series ≤ n
    → IsLeastUpTo n (head plain series taken counts) o → IsLeast (head plain series taken counts) o
least-all plain series taken counts n None long h = all-heads
  where
    all-heads : (s : Option ℕ) → head plain series taken counts s ≡ None
    all-heads None = h.0
    all-heads (Some j) = elim (cases_below j n) [ inl b ↦ h.1 j b | inr past ↦ no_head plain series taken counts j (omega arith) ]
least-all plain series taken counts n (Some e) long h = (h.0, all-heads)
  where
    all-heads : (s : Option ℕ) → IsntBefore e (head plain series taken counts s)
    all-heads None = h.1
    all-heads (Some j) = elim (cases_below j n) [
      | inl b ↦ h.2 j b
      | inr past ↦ subst (IsntBefore e)
          (sym (no_head plain series taken counts j (omega arith))) tt
    ]

plain-series : (plain : List Plain) (k : ℕ) (e : Entry) → slice_get (map plain_entry plain) k ≡ Some e → e.series ≡ None
plain-series [] k e h = cc
plain-series (p ∷ plain) zero e h = let g : Some (plain_entry p) ≡ Some e = h in cc
plain-series (p ∷ plain) (suc k) e h = plain-series plain k e h

pub least-first : (plain : List Plain) (series : List Series) (taken : ℕ) (counts : List ℕ) (k : ℕ) (o : Option Entry)
    → k ≡ taken - sum counts → o ≡ slice_get (map plain_entry plain) k → IsLeastUpTo 0 (head plain series taken counts) o
least-first plain series taken counts k o at is =
    least-plain plain series taken counts o (is ∙ ap (slice_get (map plain_entry plain)) at) (λ e h. plain-series plain k e (sym is ∙ h))

pub entry-told : (j : ℕ) (s : Series) (i c : ℕ) (e : Entry) → c ≡ cycle_of s i → i < s.count
    → e ≡ record { cycle = c; line = s.line; number = i; input = s.input; series = Some j } → Some e ≡ slice_get (entries_of j s) i
entry-told j s i c e at h is = ap Some (is ∙ ap (λ n. record { cycle = n; line = s.line; number = i; input = s.input; series = Some j }) at)
    ∙ sym (entry-within j s i h)

-- the number of a series is below theirs
series-within : (plain : List Plain) (series : List Series) (taken : ℕ) (counts : List ℕ) (e : Entry) (o : Option ℕ)
    → head plain series taken counts o ≡ Some e → IfSome o (λ j. j < length series)
series-within plain series taken counts e None h = tt
series-within plain series taken counts e (Some j) h = elim (cases_below j (length series)) [
  | inl b ↦ b
  | inr past ↦ absurd (let none = no_head plain series taken counts j past in cc)
]

-- the series of the least head stands
pub least-series : (plain : List Plain) (series : List Series) (taken : ℕ) (counts : List ℕ) (o : Option Entry) → length series ≤ 16
    → IsLeast (head plain series taken counts) o → IfSome o (λ e. IfSome e.series (λ j. j < 16))
least-series plain series taken counts None few h = tt
least-series plain series taken counts (Some e) few h = within-16 e.series (series-within plain series taken counts e e.series h.0)
  where
    within-16 : (o : Option ℕ) → IfSome o (λ j. j < length series) → IfSome o (λ j. j < 16)
    within-16 None b = tt
    within-16 (Some j) b = omega arith
