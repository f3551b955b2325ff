-- The next entry is the least head.
use Rattle.std.proofs.Common.{ℕ, zero, suc, ◌+◌, ◌<◌, ◌≤◌, ◌≡◌, ◌≢◌, Bool, true, false, List, [], ◌∷◌, ◌++◌, Option, Some, None, ltb, eqb}
use Rattle.std.proofs.Common.{length, refl, ap, ◌∙◌, sym, arith, inl, inr, ◌⊎◌, subst, ◌&&◌, ◌||◌, filter, take, drop, get_or, eq-eqb}
use Rattle.std.specs.Prelude.{slice_get, set}
use Rattle.std.specs.List.{sum}
use Rattle.std.proofs.lemmas.Bool.Decides.{nat_tests, eqb_tells}
use Rattle.std.proofs.lemmas.List.{take-append-drop, length-take-le, get_or-set_same, get_or-set_other}
use Rattle.std.proofs.lemmas.List.Elements.{filter-append}
use Rattle.std.proofs.lemmas.List.Sums.{sum_by-cons, sum_by-set}
use Rattle.std.proofs.lemmas.Option.{slice_get_past}
use Rattle.std.proofs.Math.Seq.{drop-append_seam}
use Rattle.feed.specs.declared.entry.Entry.{Entry}
use Rattle.feed.specs.declared.entry.Plain.{Plain}
use Rattle.feed.specs.declared.entry.Series.{Series}
use Rattle.feed.specs.Merged.{is_before, merged}
use Rattle.feed.specs.CountsTaken.{is_source, is_from, number_from, CountsTaken}
use Rattle.feed.specs.Heads.{source, entries_at, AreSources, number_taken, head, IsntBefore, IsLeast}
use Rattle.feed.specs.Order.{NoneBefore, IsInOrder, IsAmong}
use Rattle.feed.proofs.Sorting.{either_way, is_in_order}
use Rattle.feed.proofs.SourceLaws.{source-merged}

-- the counts of a list add up to its entries that are from a series
sum-zero : (counts : List ℕ) → ((j : ℕ) → get_or counts j 0 ≡ 0) → sum counts ≡ 0
sum-zero [] h = refl
sum-zero (c ∷ counts) h = let here : c ≡ 0 = h 0 in omega (arith, here, sum_by-cons (λ n. n) c counts, sum-zero counts (λ j. h (suc j)))

sum-set : (counts : List ℕ) (j v : ℕ) → j < length counts → sum (set counts j v) + get_or counts j 0 ≡ sum counts + v
sum-set counts j v h = sum_by-set (λ n. n) counts j v 0 h

beyond : (counts : List ℕ) (j : ℕ) → 0 < get_or counts j 0 → j < length counts
beyond [] j h = absurd (omega arith)
beyond (c ∷ counts) zero h = omega arith
beyond (c ∷ counts) (suc j) h = omega (arith, beyond counts j h)

number_from-own : (j : ℕ) (e : Entry) (list : List Entry) → e.series ≡ Some j
    → number_from (Some j) (e ∷ list) ≡ suc (number_from (Some j) list)
number_from-own j e list h = rw (h, eq-eqb j j refl) refl

pub number_from-other : (s : Option ℕ) (e : Entry) (list : List Entry) → is_from s e ≡ false → number_from s (e ∷ list) ≡ number_from s list
number_from-other s e list h = rw h refl

pub series_or_none : (o : Option ℕ) → (o ≡ None) ⊎ ((j : ℕ) × (o ≡ Some j))
series_or_none None = inl refl
series_or_none (Some j) = inr (j, refl)

pub eqb-no : (a b : ℕ) → (a ≢ b) → eqb a b ≡ false
eqb-no a b h = grind (arith, nat_tests)

other-of : (e : Entry) (j k : ℕ) → e.series ≡ Some k → (j ≢ k) → is_from (Some j) e ≡ false
other-of e j k h n = rw h (eqb-no j k n)

pub total-counts : (counts : List ℕ) (list : List Entry) → ((j : ℕ) → get_or counts j 0 ≡ number_from (Some j) list)
    → number_from None list + sum counts ≡ length list
total-counts counts [] h = omega (arith, sum-zero counts h)
total-counts counts (e ∷ list) h = elim (series_or_none e.series) [
  | inl plain ↦
      let more : number_from None (e ∷ list) ≡ suc (number_from None list) = rw plain refl in
      omega (arith, more, total-counts counts list (λ j. h j ∙ number_from-other (Some j) e list (rw plain refl)))
  | inr k ↦
      let same : number_from None (e ∷ list) ≡ number_from None list = number_from-other None e list (rw k.1 refl) in
      let here : get_or counts k.0 0 ≡ suc (number_from (Some k.0) list) = h k.0 ∙ number_from-own k.0 e list k.1 in
      let within = beyond counts k.0 (omega (arith, here)) in
      let fewer = set counts k.0 (number_from (Some k.0) list) in
      let tell : (j : ℕ) → get_or fewer j 0 ≡ number_from (Some j) list = λ j. elim (eqb_tells j k.0) [
        | inl is ↦ ap (λ n. get_or fewer n 0) is.1 ∙ get_or-set_same counts k.0 (number_from (Some k.0) list) 0 within
            ∙ ap (λ n. number_from (Some n) list) (sym is.1)
        | inr isnt ↦ get_or-set_other counts k.0 j (number_from (Some k.0) list) 0 isnt.1 ∙ h j
            ∙ number_from-other (Some j) e list (other-of e j k.0 k.1 isnt.1)
      ] in
      omega (arith, same, here, sum-set counts k.0 (number_from (Some k.0) list) within, total-counts fewer list tell)
]

-- of the first entries no more are from a source than of all
pub fewer-taken : (s : Option ℕ) (k : ℕ) (list : List Entry) → number_from s (take k list) ≤ number_from s list
fewer-taken s zero list = omega arith
fewer-taken s (suc k) [] = omega arith
fewer-taken s (suc k) (e ∷ list) = elim (either_way (is_from s e)) [
  | inl is ↦ rw is (let f = fewer-taken s k list in omega (arith, f))
  | inr isnt ↦ rw isnt (fewer-taken s k list)
]

pub past-counts : (counts : List ℕ) (j : ℕ) → length counts ≤ j → get_or counts j 0 ≡ 0
past-counts [] j h = refl
past-counts (c ∷ counts) zero h = absurd (omega arith)
past-counts (c ∷ counts) (suc j) h = past-counts counts j (omega arith)

-- counts that tell of every number, also of those that no series has
abbrev pub TellsAll : List Entry → ℕ → List ℕ → Type 0
TellsAll list taken counts = (j : ℕ) → get_or counts j 0 ≡ number_from (Some j) (take taken list)

pub tells-all : (list : List Entry) (taken : ℕ) (counts : List ℕ) → ((j : ℕ) → length counts ≤ j → number_from (Some j) list ≡ 0)
    → CountsTaken list taken counts → TellsAll list taken counts
tells-all list taken counts none f = λ j. elim (below_or_past j (length counts)) [
  | inl within ↦ f.tell j within
  | inr past ↦ let few = fewer-taken (Some j) taken list in past-counts counts j past ∙ omega (arith, none j past, few)
]
  where
    below_or_past : (j n : ℕ) → (j < n) ⊎ (n ≤ j)
    below_or_past j n = grind arith

-- how many of a source's entries are among those taken
taken-from : (list : List Entry) (taken : ℕ) (counts : List ℕ) (s : Option ℕ) → taken ≤ length list → TellsAll list taken counts
    → number_from s (take taken list) ≡ number_taken taken counts s
taken-from list taken counts None stand tell =
    let t = total-counts counts (take taken list) tell in
    omega (arith, t, length-take-le taken list stand)
taken-from list taken counts (Some j) stand tell = sym (tell j)

first-drop : {X : Type 0} (k : ℕ) (xs : List X) → slice_get (drop k xs) 0 ≡ slice_get xs k
first-drop zero xs = refl
first-drop (suc k) [] = refl
first-drop (suc k) (x ∷ xs) = first-drop k xs

-- what is left of a source is what is left of it in the whole list
rest-source : (plain : List Plain) (series : List Series) (taken : ℕ) (counts : List ℕ) (s : Option ℕ) → AreSources plain series
    → taken ≤ length (merged plain series) → TellsAll (merged plain series) taken counts
    → drop (number_taken taken counts s) (source plain series s) ≡ filter (is_from s) (drop taken (merged plain series))
rest-source plain series taken counts s a stand tell =
    let all = merged plain series in
    let parts : source plain series s ≡ filter (is_from s) (take taken all) ++ filter (is_from s) (drop taken all) =
    sym (source-merged plain series s a) ∙ ap (filter (is_from s)) (sym (take-append-drop taken all))
    ∙ filter-append (is_from s) (take taken all) (drop taken all) in
    ap (λ n. drop n (source plain series s)) (sym (taken-from all taken counts s stand tell))
    ∙ ap (drop (number_from s (take taken all))) parts
    ∙ drop-append_seam (filter (is_from s) (take taken all)) (filter (is_from s) (drop taken all))

head-rest : (plain : List Plain) (series : List Series) (taken : ℕ) (counts : List ℕ) (s : Option ℕ) → AreSources plain series
    → taken ≤ length (merged plain series) → TellsAll (merged plain series) taken counts
    → head plain series taken counts s ≡ slice_get (filter (is_from s) (drop taken (merged plain series))) 0
head-rest plain series taken counts s a stand tell =
    sym (first-drop (number_taken taken counts s) (source plain series s))
    ∙ ap (λ l. slice_get l 0) (rest-source plain series taken counts s a stand tell)

first-among : (p : Entry → Bool) (xs : List Entry) (e : Entry) → slice_get (filter p xs) 0 ≡ Some e → IsAmong e xs
first-among p [] e h = cc
first-among p (x ∷ xs) e h = elim (either_way (p x)) [
  | inl is ↦ inl (let g : slice_get (filter p (x ∷ xs)) 0 ≡ Some x = rw is refl in cc)
  | inr isnt ↦ inr (first-among p xs e (let g : slice_get (filter p (x ∷ xs)) 0 ≡ slice_get (filter p xs) 0 = rw isnt refl in sym g ∙ h))
]

among-drop : (k : ℕ) (xs : List Entry) (e : Entry) → IsAmong e (drop k xs) → IsAmong e xs
among-drop zero xs e h = h
among-drop (suc k) [] e h = h
among-drop (suc k) (x ∷ xs) e h = inr (among-drop k xs e h)

not_before-among : (x e : Entry) (xs : List Entry) → NoneBefore x xs → IsAmong e xs → is_before e x ≡ false
not_before-among x e [] n h = absurd h
not_before-among x e (y ∷ ys) n (inl is) = subst (λ (z : Entry). is_before z x ≡ false) is n.0
not_before-among x e (y ∷ ys) n (inr more) = not_before-among x e ys n.1 more

in_order-drop : (k : ℕ) (xs : List Entry) → IsInOrder xs → IsInOrder (drop k xs)
in_order-drop zero xs o = o
in_order-drop (suc k) [] o = o
in_order-drop (suc k) (x ∷ xs) o = in_order-drop k xs o.1

own_source : (s : Option ℕ) → is_source s s ≡ true
own_source None = refl
own_source (Some j) = eq-eqb j j refl

same-numbers : (a b c d e f : ℕ) → (ltb a b || (eqb a b && (ltb c d || (eqb c d && ltb e f)))) ≡ false
    → (ltb b a || (eqb b a && (ltb d c || (eqb d c && ltb f e)))) ≡ false → c ≡ d
same-numbers a b c d e f p q = grind (arith, nat_tests)

-- of two entries none of which is before the other the lines are the same
same-line : (x y : Entry) → is_before x y ≡ false → is_before y x ≡ false → x.line ≡ y.line
unfolding is_before
same-line x y p q = same-numbers x.cycle y.cycle x.line y.line x.number y.number p q

-- the first of a list in order is the least of its heads
least-first : (rest : List Entry) (heads : Option ℕ → Option Entry) (o : Option Entry) → IsInOrder rest
    → ((x y : Entry) → IsAmong x rest → IsAmong y rest → x.line ≡ y.line → x.series ≡ y.series)
    → ((s : Option ℕ) → heads s ≡ slice_get (filter (is_from s) rest) 0) → IsLeast heads o → slice_get rest 0 ≡ o
least-first [] heads None order tell are least = refl
least-first [] heads (Some e) order tell are least = let h = are e.series in let g = least.0 in cc
least-first (x ∷ rest) heads None order tell are least =
    let first : heads x.series ≡ Some x = are x.series ∙ rw (own_source x.series) refl in
    let h = least x.series in
    cc
least-first (x ∷ rest) heads (Some e) order tell are least =
    let first : heads x.series ≡ Some x = are x.series ∙ rw (own_source x.series) refl in
    elim (first-among (is_from e.series) (x ∷ rest) e (sym (are e.series) ∙ least.0)) [
      | inl is ↦ ap Some is
      | inr later ↦
          let p : is_before e x ≡ false = not_before-among x e rest order.0 later in
          let q : is_before x e ≡ false = subst (IsntBefore e) first (least.1 x.series) in
          let same : x.series ≡ e.series = tell x e (inl refl) (inr later) (same-line x e q p) in
          sym first ∙ ap heads same ∙ least.0
    ]

-- The next entry is the least of the heads.
pub next_entry : (plain : List Plain) (series : List Series) (taken : ℕ) (counts : List ℕ) (o : Option Entry) → AreSources plain series
    → length series ≤ length counts → CountsTaken (merged plain series) taken counts
    → IsLeast (head plain series taken counts) o → slice_get (merged plain series) taken ≡ o
unfolding merged
next_entry plain series taken counts o a few f least =
    let all = merged plain series in
    let none : (j : ℕ) → length counts ≤ j → number_from (Some j) all
    ≡ 0 = λ j past. ap length (source-merged plain series (Some j) a
    ∙ ap (entries_at j) (slice_get_past series j (omega (arith, few, past)))) in
    sym (first-drop taken all) ∙ least-first (drop taken all) (head plain series taken counts) o
    (in_order-drop taken all (is_in_order _))
    (λ x y p q. a.lines_tell x y (among-drop taken all x p) (among-drop taken all y q))
    (λ s. head-rest plain series taken counts s a f.stand (tells-all all taken counts none f)) least
