-- A test by which counts are known to fit.
use Rattle.std.proofs.Common.{ℕ, zero, suc, ◌+◌, ◌-◌, ◌<◌, ◌≤◌, ◌≡◌, ◌≢◌, Bool, true, false, List, [], ◌∷◌, Option, Some, None, length}
use Rattle.std.proofs.Common.{refl, ap, ◌∙◌, sym, arith, inl, inr, subst, filter, take, get_or, eqb, map, ◌&&◌, ◌||◌}
use Rattle.std.specs.Prelude.{◌==◌, slice_get, slice_index, sum, not, set}
use Rattle.std.proofs.Math.Seq.{take-length}
use Rattle.feed.specs.declared.entry.Entry.{Entry}
use Rattle.feed.specs.declared.entry.Plain.{Plain}
use Rattle.feed.specs.declared.entry.Series.{Series}
use Rattle.feed.specs.Merged.{is_before, merged, plain_entry, entries_of}
use Rattle.feed.specs.CountsTaken.{is_from, number_from, CountsTaken}
use Rattle.feed.specs.Heads.{source, entries_at, AreSources, AreEnded, IsEnded, IsLeast, IsntBefore, IsntAfter, head, number_taken}
use Rattle.feed.specs.Heads.{last_taken, number_before, entry_before, later, passes, stands}
use Rattle.feed.specs.Order.{NoneBefore, IsInOrder}
use Rattle.feed.proofs.Sorting.{either_way, before-asym, before-not, is_in_order, filter-yes, filter-no}
use Rattle.feed.proofs.SourceLaws.{source-merged, source-in_order}
use Rattle.feed.proofs.HeadLaws.{below-more, cases_below, isnt_itself}
use Rattle.std.proofs.lemmas.Bool.Decides.{nat_tests}
use Rattle.std.proofs.lemmas.List.{set-get_or}
use Rattle.std.proofs.lemmas.Option.{slice_get_past, slice_get_within, slice_get-get_or}
use Rattle.feed.proofs.Merging.{total-counts}

none-pass : (x y : Entry) (ys : List Entry) → is_before y x ≡ false → NoneBefore y ys → filter (λ e. is_before e x) ys ≡ []
none-pass x y [] h n = refl
none-pass x y (z ∷ zs) h n = filter-no (λ e. is_before e x) z zs (before-not x y z h n.0) ∙ none-pass x y zs h n.1

-- the entries of a list in order that are before x are its first
front-before : (x : Entry) (xs : List Entry) → IsInOrder xs → filter (λ e. is_before e x) xs ≡ take (number_before (Some x) xs) xs
front-before x [] o = refl
front-before x (y ∷ ys) o = elim (either_way (is_before y x)) [
  | inl is ↦ rw is (ap (λ l. y ∷ l) (front-before x ys o.1))
  | inr isnt ↦ rw isnt (let none = none-pass x y ys isnt o.0 in none ∙ ap (λ l. take (length l) (y ∷ ys)) (sym none))
]

few-before : (x : Entry) (xs : List Entry) → number_before (Some x) xs ≤ length xs
few-before x [] = omega arith
few-before x (y ∷ ys) = elim (either_way (is_before y x)) [
  | inl is ↦ rw is (omega (arith, few-before x ys))
  | inr isnt ↦ rw isnt (omega (arith, few-before x ys))
]

filter-turn : (p q : Entry → Bool) (xs : List Entry) → filter p (filter q xs) ≡ filter q (filter p xs)
filter-turn p q [] = refl
filter-turn p q (x ∷ xs) = elim (either_way (p x)) [
  | inl px ↦ elim (either_way (q x)) [
    | inl qx ↦ ap (filter p) (filter-yes q x xs qx) ∙ filter-yes p x (filter q xs) px ∙ ap (λ l. x ∷ l) (filter-turn p q xs)
        ∙ sym (ap (filter q) (filter-yes p x xs px) ∙ filter-yes q x (filter p xs) qx)
    | inr qx ↦ ap (filter p) (filter-no q x xs qx) ∙ filter-turn p q xs
        ∙ sym (ap (filter q) (filter-yes p x xs px) ∙ filter-no q x (filter p xs) qx)
  ]
  | inr px ↦ elim (either_way (q x)) [
    | inl qx ↦ ap (filter p) (filter-yes q x xs qx) ∙ filter-no p x (filter q xs) px ∙ filter-turn p q xs
        ∙ sym (ap (filter q) (filter-no p x xs px))
    | inr qx ↦ ap (filter p) (filter-no q x xs qx) ∙ filter-turn p q xs ∙ sym (ap (filter q) (filter-no p x xs px))
  ]
]

fits-front : (all front : List Entry) (taken : ℕ) (counts : List ℕ) → front ≡ take (length front) all → length front ≤ length all
    → ((s : Option ℕ) → number_from s front ≡ number_taken taken counts s) → sum counts ≤ taken → CountsTaken all taken counts
fits-front all front taken counts is few tell enough =
    let t = total-counts counts front (λ j. sym (tell (Some j))) in
    let n = tell None in
    let long : length front ≡ taken = omega (arith, t, n, enough) in
    let first : take taken all ≡ front = ap (λ k. take k all) (sym long) ∙ sym is in
    record {
      stand = omega (arith, long, few);
      tell = λ j b. sym (tell (Some j)) ∙ ap (number_from (Some j)) (sym first);
    }

-- From each source all entries before one entry are taken, and no other: then the counts fit.
pub fits-before : (plain : List Plain) (series : List Series) (taken : ℕ) (counts : List ℕ) (o : Option Entry) → AreSources plain series
    → ((s : Option ℕ) → number_before o (source plain series s) ≡ number_taken taken counts s) → sum counts ≤ taken
    → CountsTaken (merged plain series) taken counts
unfolding merged
fits-before plain series taken counts None a tell enough =
    let all = merged plain series in
    fits-front all all taken counts (sym (take-length all)) (omega arith)
    (λ s. ap length (source-merged plain series s a) ∙ tell s) enough
fits-before plain series taken counts (Some x) a tell enough =
    let all = merged plain series in
    fits-front all (filter (λ e. is_before e x) all) taken counts (front-before x all (is_in_order _)) (few-before x all)
    (λ s. ap length (filter-turn (is_from s) (λ e. is_before e x) all ∙ ap (filter (λ e. is_before e x)) (source-merged plain series s a))
    ∙ tell s) enough

-- an entry stands, and before x where that stands
abbrev last_passes : Option Entry → Option Entry → Bool
last_passes None o = false
last_passes (Some last) None = true
last_passes (Some last) (Some x) = is_before last x

-- an entry isn't before x, or none stands
abbrev next_passes : Option Entry → Option Entry → Bool
next_passes None o = true
next_passes (Some next) None = false
next_passes (Some next) (Some x) = not (is_before next x)

-- the last of so many entries is before x and the next isn't; where x doesn't stand, no next stands
abbrev is_cut : ℕ → Option Entry → Option Entry → Option Entry → Bool
is_cut number last next o = (number == 0 || last_passes last o) && next_passes next o

not_before-get : (y e : Entry) (ys : List Entry) (k : ℕ) → NoneBefore y ys → slice_get ys k ≡ Some e → is_before e y ≡ false
not_before-get y e [] k n h = absurd (cc)
not_before-get y e (z ∷ zs) zero n h = let same : z ≡ e = cc in subst (λ (w : Entry). is_before w y ≡ false) same n.0
not_before-get y e (z ∷ zs) (suc k) n h = not_before-get y e zs k n.1 h

-- the entry at a place is not before x
abbrev pub NotBeforeAt : Entry → List Entry → ℕ → Type 0
NotBeforeAt x list k = (e : Entry) → slice_get list k ≡ Some e → is_before e x ≡ false

count-none : (x : Entry) (S : List Entry) → IsInOrder S → NotBeforeAt x S 0 → number_before (Some x) S ≡ 0
count-none x [] o h = refl
count-none x (y ∷ ys) o h = ap length (filter-no (λ e. is_before e x) y ys (h y refl) ∙ none-pass x y ys (h y refl) o.0)

-- So many entries are before x as there are up to one that is, where the next is not.
pub count-before : (x : Entry) (S : List Entry) (k : ℕ) (last : Entry) → IsInOrder S → slice_get S k ≡ Some last → is_before last x ≡ true
    → NotBeforeAt x S (k + 1) → number_before (Some x) S ≡ k + 1
count-before x [] k last o at h n = absurd (cc)
count-before x (y ∷ ys) zero last o at h n =
    let same : y ≡ last = cc in
    let first : is_before y x ≡ true = subst (λ (w : Entry). is_before w x ≡ true) (sym same) h in
    let rest = count-none x ys o.1 n in
    ap length (filter-yes (λ e. is_before e x) y ys first) ∙ omega (arith, rest)
count-before x (y ∷ ys) (suc k) last o at h n = elim (either_way (is_before y x)) [
  | inl is ↦ ap length (filter-yes (λ e. is_before e x) y ys is)
      ∙ omega (
        arith,
        count-before x ys k last o.1 at h
            (subst (λ m. NotBeforeAt x ys m) (let e : k + 1 ≡ k + 1 = refl in e)
            (λ e g. n e (subst (λ m. slice_get (y ∷ ys) m ≡ Some e) (let m : suc (k + 1) ≡ suc k + 1 = omega arith in m) g))),
      )
  | inr isnt ↦ absurd (let later = not_before-get y last ys k o.0 at in let e = before-not x y last isnt later in cc)
]

pub and-left : (b c : Bool) → (b && c) ≡ true → b ≡ true
and-left true c e = refl
and-left false c e = e

pub and-right : (b c : Bool) → (b && c) ≡ true → c ≡ true
and-right true c e = e
and-right false c e = absurd (cc)

or-right : (b c : Bool) → b ≡ false → (b || c) ≡ true → c ≡ true
or-right true c h e = absurd (cc)
or-right false c h e = e

or-true : (b : Bool) → (b || true) ≡ true
or-true true = refl
or-true false = refl

and-both : {a b : Bool} → a ≡ true → b ≡ true → (a && b) ≡ true
and-both p q = rw (p, q) refl

not-true : (b : Bool) → not b ≡ true → b ≡ false
not-true true e = absurd (cc)
not-true false e = refl

above-zero : (m : ℕ) → eqb (suc m) 0 ≡ false
above-zero m = grind (arith, nat_tests)

next-at : (x : Entry) (S : List Entry) (k : ℕ) (next : Option Entry) → next ≡ slice_get S k → next_passes next (Some x) ≡ true
    → NotBeforeAt x S k
next-at x S k None is h = λ e g. absurd (let n : None ≡ Some e = is ∙ g in cc)
next-at x S k (Some n) is h = λ e g. let same : Some n ≡ Some e = is ∙ g in let at : n
    ≡ e = cc in subst (λ (w : Entry). is_before w x ≡ false)
    at (not-true (is_before n x) h)

past-end : {X : Type 0} (S : List X) (k : ℕ) → slice_get S k ≡ None → length S ≤ k
past-end [] k h = omega arith
past-end (x ∷ S) zero h = absurd (cc)
past-end (x ∷ S) (suc k) h = omega (arith, past-end S k h)

all-at : (S : List Entry) (k : ℕ) (next : Option Entry) → next ≡ slice_get S k → next_passes next None ≡ true → length S ≤ k
all-at S k None is h = past-end S k (sym is)
all-at S k (Some n) is h = absurd (cc)

last-at : (S : List Entry) (m : ℕ) (last o : Option Entry) → last ≡ slice_get S m → last_passes last o ≡ true → m < length S
last-at S m None o is h = absurd (cc)
last-at S m (Some l) o is h = slice_get_within S m l (sym is)

last-before : (x : Entry) (S : List Entry) (m : ℕ) (last : Option Entry) → IsInOrder S → last ≡ slice_get S m
    → last_passes last (Some x) ≡ true → NotBeforeAt x S (m + 1) → number_before (Some x) S ≡ m + 1
last-before x S m None o is h n = absurd (cc)
last-before x S m (Some l) o is h n = count-before x S m l o (sym is) h n

-- where a cut of a list in order is at x, so many of its entries are before x
pub cut-counts : (S : List Entry) (k : ℕ) (last next o : Option Entry) → IsInOrder S → last ≡ entry_before S k → next ≡ slice_get S k
    → is_cut k last next o ≡ true → number_before o S ≡ k
cut-counts S zero last next None order l n h =
    let e = all-at S 0 next n h in omega (arith, e)
cut-counts S zero last next (Some x) order l n h = count-none x S order (next-at x S 0 next n h)
cut-counts S (suc m) last next None order l n h =
    let e = all-at S (suc m) next n (and-right _ _ h) in
    let f = last-at S m last None l (or-right _ _ (above-zero m) (and-left _ _ h)) in
    omega (arith, e, f)
cut-counts S (suc m) last next (Some x) order l n h =
    let e = next-at x S (suc m) next n (and-right _ _ h) in
    let f = last-before x S m last order l (or-right _ _ (above-zero m) (and-left _ _ h))
    (subst (λ k. NotBeforeAt x S k) (let s : suc m ≡ m + 1 = omega arith in s) e) in
    omega (arith, f)

-- an entry is not before x; none stands where x doesn't
abbrev IsLeastOf : Option Entry → Option Entry → Type 0
IsLeastOf None next = next ≡ None
IsLeastOf (Some x) next = IsntBefore x next

later-left : (k g l : Option Entry) → IsntAfter k g → IsntAfter k (later g l)
later-left None g l h = tt
later-left (Some k) None l h = absurd h
later-left (Some k) (Some g) None h = h
later-left (Some k) (Some g) (Some l) h = elim (either_way (is_before g l)) [
  | inl is ↦ rw is (before-not k g l h (before-asym g l is))
  | inr isnt ↦ rw isnt h
]

later-right : (g l : Option Entry) → IsntAfter l (later g l)
later-right g None = tt
later-right None (Some l) = isnt_itself l
later-right (Some g) (Some l) = elim (either_way (is_before g l)) [
  | inl is ↦ rw is (isnt_itself l)
  | inr isnt ↦ rw isnt isnt
]

-- a source that is ended stays so by a later entry
ended-on : (plain : List Plain) (series : List Series) (taken : ℕ) (counts : List ℕ) (g l : Option Entry) (s : Option ℕ)
    → IsEnded plain series taken counts g s → IsEnded plain series taken counts (later g l) s
ended-on plain series taken counts g l s h = (h.0, later-left (last_taken plain series taken counts s) g l h.1)

-- The plain inputs and the first n series are ended.
pub record AreEndedUpTo (n : ℕ) (plain : List Plain) (series : List Series) (taken : ℕ) (counts : List ℕ) (e : Option Entry) : Type 0 where
  pub enough : sum counts ≤ taken
  pub beyond : (j : ℕ) → length series ≤ j → slice_index counts j ≡ 0
  pub plainly : IsEnded plain series taken counts e None
  pub serially : (j : ℕ) → j < n → IsEnded plain series taken counts e (Some j)

-- one series more
pub ended-more : (n : ℕ) (plain : List Plain) (series : List Series) (taken : ℕ) (counts : List ℕ) (g l : Option Entry) (s : Series)
    → slice_get series n ≡ Some s → l ≡ entry_before (entries_of n s) (slice_index counts n)
    → stands (slice_index counts n) l ≡ true → AreEndedUpTo n plain series taken counts g
    → AreEndedUpTo (n + 1) plain series taken counts (later g l)
ended-more n plain series taken counts g l s at is stand t =
    let own : last_taken plain series taken counts (Some n)
    ≡ l = ap (λ x. entry_before (entries_at n x) (slice_index counts n)) at ∙ sym is in
    record {
      enough = t.enough;
      beyond = t.beyond;
      plainly = ended-on plain series taken counts g l None t.plainly;
      serially = below-more (λ j. IsEnded plain series taken counts (later g l) (Some j)) n
          (λ j b. ended-on plain series taken counts g l (Some j) (t.serially j b))
          (subst (λ o. (stands (slice_index counts n) o ≡ true) × IsntAfter o (later g l)) (sym own) (stand, later-right g l));
    }

-- the plain inputs
pub ended-first : (plain : List Plain) (series : List Series) (taken k : ℕ) (counts : List ℕ) (last : Option Entry) → k ≡ taken - sum counts
    → last ≡ entry_before (map plain_entry plain) k → stands k last ≡ true
    → sum counts ≤ taken → ((j : ℕ) → length series ≤ j → slice_index counts j ≡ 0) → AreEndedUpTo 0 plain series taken counts last
ended-first plain series taken k counts last at is stand enough none = record {
  enough = enough;
  beyond = none;
  plainly =
      let own : last_taken plain series taken counts None ≡ last = ap (entry_before (map plain_entry plain)) (sym at) ∙ sym is in
      subst (λ n. (stands n (last_taken plain series taken counts None) ≡ true)
      × IsntAfter (last_taken plain series taken counts None) last) at
      (subst (λ o. (stands k o ≡ true) × IsntAfter o last) (sym own) (stand, later-right None last));
  serially = λ j b. absurd (omega arith);
}

-- one series more, as it is told
pub ended-next : (n : ℕ) (plain : List Plain) (series : List Series) (taken : ℕ) (counts : List ℕ) (g l o : Option Entry) (s : Series)
    (before now : Bool) → slice_get series n ≡ Some s → l ≡ entry_before (entries_of n s) (slice_index counts n)
    → now ≡ (before && stands (slice_index counts n) l) → o ≡ later g l → (before ≡ true → AreEndedUpTo n plain series taken counts g)
    → now ≡ true → AreEndedUpTo (n + 1) plain series taken counts o
ended-next n plain series taken counts g l o s before now at is told o_is t h =
    let both = sym told ∙ h in
    subst (λ e. AreEndedUpTo (n + 1) plain series taken counts e) (sym o_is)
    (ended-more n plain series taken counts g l s at is (and-right before (stands (slice_index counts n) l) both)
    (t (and-left before (stands (slice_index counts n) l) both)))

past-end-before : (j k : ℕ) (series : List Series) → length series ≤ j → entry_before (entries_at j (slice_get series j)) k ≡ None
past-end-before j k series past = ap (λ x. entry_before (entries_at j x) k) (slice_get_past series j past) ∙ none k
  where
    none : (k : ℕ) → entry_before [] k ≡ None
    none zero = refl
    none (suc k) = refl

-- all are ended
pub ended-all : (n : ℕ) (plain : List Plain) (series : List Series) (taken : ℕ) (counts : List ℕ) (e : Option Entry) → length series ≤ n
    → AreEndedUpTo n plain series taken counts e → AreEnded plain series taken counts e
ended-all n plain series taken counts e long t = record { enough = t.enough; ended = each }
  where
    each : (s : Option ℕ) → IsEnded plain series taken counts e s
    each None = t.plainly
    each (Some j) = elim (cases_below j n) [
      | inl b ↦ t.serially j b
      | inr past ↦
          let none = past-end-before j (slice_index counts j) series (omega arith) in
          let zero_is = t.beyond j (omega arith) in
          rw (none, zero_is) (refl, tt)
    ]

passed-last : (last g o : Option Entry) (number : ℕ) → stands number last ≡ true → IsntAfter last g → passes g o ≡ true
    → (number == 0 || last_passes last o) ≡ true
passed-last None g o number stand h p = stand
passed-last (Some l) None o number stand h p = absurd h
passed-last (Some l) (Some g) None number stand h p = or-true (number == 0)
passed-last (Some l) (Some g) (Some x) number stand h p = elim (either_way (is_before l x)) [
  | inl is ↦ rw is (or-true (number == 0))
  | inr isnt ↦ absurd (let e = before-not x l g isnt h in cc)
]

isnt-passes : (o next : Option Entry) → IsLeastOf o next → next_passes next o ≡ true
isnt-passes None next h = rw h refl
isnt-passes (Some x) None h = refl
isnt-passes (Some x) (Some f) h = rw h refl

least-of : (heads : Option ℕ → Option Entry) (o : Option Entry) (s : Option ℕ) → IsLeast heads o → IsLeastOf o (heads s)
least-of heads None s h = h s
least-of heads (Some e) s h = h.1 s

-- Where the last entry that was taken is before the next one, the counts fit.
pub fits-ended : (plain : List Plain) (series : List Series) (taken : ℕ) (counts : List ℕ) (g o : Option Entry) → AreSources plain series
    → IsLeast (head plain series taken counts) o → AreEnded plain series taken counts g → passes g o ≡ true
    → CountsTaken (merged plain series) taken counts
fits-ended plain series taken counts g o a least t p = fits-before plain series taken counts o a from-each t.enough
  where
    from-each : (s : Option ℕ) → number_before o (source plain series s) ≡ number_taken taken counts s
    from-each s =
        cut-counts (source plain series s) (number_taken taken counts s) (last_taken plain series taken counts s)
        (head plain series taken counts s) o (source-in_order plain series s a) refl refl
        (and-both (passed-last (last_taken plain series taken counts s) g o (number_taken taken counts s) (t.ended s).0 (t.ended s).1 p)
        (isnt-passes o (head plain series taken counts s) (least-of (head plain series taken counts) o s least)))

pub same-set : (xs ys : List Series) (i : ℕ) (x y : Series) → xs ≡ ys → y ≡ get_or xs i x → set xs i y ≡ ys
same-set xs ys i x y e p = ap (set xs i) p ∙ set-get_or xs i x ∙ e

pub series-at : (xs ys : List Series) (i : ℕ) (x : Series) → xs ≡ ys → i < length xs → slice_get ys i ≡ Some (get_or xs i x)
series-at xs ys i x e h = ap (λ l. slice_get l i) (sym e) ∙ slice_get-get_or xs i x h

pub none-at_start : (S : List Entry) (k : ℕ) (o : Option Entry) → k ≡ 0 → o ≡ None → o ≡ entry_before S k
none-at_start S zero o h e = e
none-at_start S (suc k) o h e = absurd (omega arith)

pub one-before : (S : List Entry) (k : ℕ) (o : Option Entry) → (k ≢ 0) → o ≡ slice_get S (k - 1) → o ≡ entry_before S k
one-before S zero o h e = absurd (h refl)
one-before S (suc k) o h e = e ∙ ap (slice_get S) (let m : suc k - 1 ≡ k = omega arith in m)
