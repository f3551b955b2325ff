-- What fits a list still fits after a step and after an addition.
use Rattle.std.proofs.Common.{ℕ, zero, suc, ◌+◌, ◌*◌, ◌^◌, ◌<◌, ◌≤◌, ◌≡◌, true, false, ◌⊎◌, List, [], ◌∷◌, Option, Some, None, cond, ltb}
use Rattle.std.proofs.Common.{length, refl, ap, ◌∙◌, sym, arith, inl, inr, subst, take, get_or, leb}
use Rattle.std.specs.Prelude.{slice_get, slice_index, IfSome, set, sum}
use Rattle.std.proofs.lemmas.Bool.Decides.{nat_tests, eqb_tells}
use Rattle.std.proofs.lemmas.List.{get_or-set_same, get_or-set_other, length-set}
use Rattle.std.proofs.lemmas.List.Filters.{length-filter_more}
use Rattle.std.proofs.lemmas.Option.{slice_get_within, get_or_from_slice_get}
use Rattle.feed.specs.declared.entry.Entry.{Entry}
use Rattle.feed.specs.declared.input.Input.{Input}
use Rattle.feed.specs.Merged.{is_before, inserted, when_come, due}
use Rattle.feed.specs.Added.{AddsLast, TakenBelow, plain_on}
use Rattle.feed.specs.CountsTaken.{is_source, is_from, number_from, CountsTaken, counts_after, AreOfSixteen, AreInputs}
use Rattle.feed.specs.Order.{IsAmong}
use Rattle.feed.proofs.Sorting.{either_way}
use Rattle.feed.proofs.Merging.{total-counts, tells-all, past-counts, fewer-taken, number_from-other, eqb-no}
use Rattle.std.proofs.lemmas.List.{length-take-le}
use Rattle.std.proofs.lemmas.List.Sums.{sum_by-cons}

-- nothing was taken yet
pub fits-start : (list : List Entry) (counts : List ℕ) → ((j : ℕ) → j < length counts → slice_index counts j ≡ 0)
    → CountsTaken list 0 counts
fits-start list counts h = record { stand = omega arith; tell = h }

-- one for an entry of a source
abbrev one_from : Option ℕ → Entry → ℕ
one_from s e = cond (is_from s e) 1 0

one-more : (list : List Entry) (taken : ℕ) (e : Entry) (s : Option ℕ) → slice_get list taken ≡ Some e
    → number_from s (take (taken + 1) list) ≡ number_from s (take taken list) + one_from s e
one-more list taken e s h =
    let within = slice_get_within list taken e h in
    let at = get_or_from_slice_get list taken e e h in
    length-filter_more (is_from s) list taken e within ∙ ap (λ x. number_from s (take taken list) + one_from s x) at

tell-more : (list : List Entry) (taken : ℕ) (counts : List ℕ) (e : Entry) (o : Option ℕ) → e.series ≡ o → slice_get list taken ≡ Some e
    → CountsTaken list taken counts
    → (j : ℕ) → j < length (counts_after counts o) → slice_index (counts_after counts o) j ≡ number_from (Some j) (take (taken + 1) list)
tell-more list taken counts e None is h f j b =
    let more = one-more list taken e (Some j) h in
    let same : one_from (Some j) e ≡ 0 = rw is refl in
    omega (arith, f.tell j b, more, same)
tell-more list taken counts e (Some k) is h f j b =
    let more = one-more list taken e (Some j) h in
    let within : j < length counts = let l = length-set counts k (get_or counts k 0 + 1) in omega (arith, b, l) in
    elim (eqb_tells j k) [
      | inl at ↦
          let w : k < length counts = let s = at.1 in omega (arith, within, s) in
          let one : one_from (Some j) e ≡ 1 = rw (is, at.0) refl in
          let here : get_or (set counts k (get_or counts k 0 + 1)) j 0
          ≡ get_or counts k 0 + 1 = ap (λ n. get_or (set counts k (get_or counts k 0 + 1)) n 0) at.1
          ∙ get_or-set_same counts k _ 0 w in
          let was : get_or counts k 0 ≡ number_from (Some j) (take taken list) = f.tell k w
          ∙ ap (λ n. number_from (Some n) (take taken list)) (sym at.1) in
          omega (arith, more, one, here, was)
      | inr other ↦
          let same : one_from (Some j) e ≡ 0 = rw (is, other.0) refl in
          let there : get_or (set counts k (get_or counts k 0 + 1)) j 0 ≡ get_or counts j 0 = get_or-set_other counts k j _ 0 other.1 in
          omega (arith, f.tell j within, more, same, there)
    ]

-- the next entry is taken
pub fits-more : (list : List Entry) (taken : ℕ) (counts : List ℕ) (e : Entry) → slice_get list taken ≡ Some e
    → CountsTaken list taken counts → CountsTaken list (taken + 1) (counts_after counts e.series)
fits-more list taken counts e h f = record {
  stand = let within = slice_get_within list taken e h in omega arith;
  tell = tell-more list taken counts e e.series refl h f;
}

is_below : (a b : ℕ) → a < b → ltb a b ≡ true
is_below a b h = grind (arith, nat_tests)

before-later : (x e : Entry) → x.cycle < e.cycle → is_before x e ≡ true
unfolding is_before
before-later x e h = rw (is_below x.cycle e.cycle h) refl

-- an entry after some leaves these where they are
pub take-inserted : (k : ℕ) (e : Entry) (list : List Entry) → k ≤ length list → ((x : Entry) → IsAmong x (take k list) → x.cycle < e.cycle)
    → take k (inserted e list) ≡ take k list
unfolding inserted
take-inserted zero e list h later = refl
take-inserted (suc k) e [] h later = absurd (omega arith)
take-inserted (suc k) e (x ∷ list) h later =
    rw (before-later x e (later x (inl refl))) (ap (λ l. x ∷ l) (take-inserted k e list (omega arith) (λ y m. later y (inr m))))

pub length-inserted : (e : Entry) (list : List Entry) → length (inserted e list) ≡ suc (length list)
unfolding inserted
length-inserted e [] = refl
length-inserted e (x ∷ list) = elim (either_way (is_before x e)) [
  | inl is ↦ rw is (ap suc (length-inserted e list))
  | inr isnt ↦ rw isnt refl
]

-- an entry above the cycles of all that were taken
pub fits-added : (list : List Entry) (taken : ℕ) (counts : List ℕ) (e : Entry)
    → ((x : Entry) → IsAmong x (take taken list) → x.cycle < e.cycle) → CountsTaken list taken counts
    → CountsTaken (inserted e list) taken counts
fits-added list taken counts e later f = record {
  stand = let l = length-inserted e list in let s = f.stand in omega arith;
  tell = λ j b. f.tell j b ∙ ap (number_from (Some j)) (sym (take-inserted taken e list f.stand later));
}

fits-given : (list : List Entry) (taken cycles : ℕ) (counts : List ℕ) (o : Option Entry) → slice_get list taken ≡ o
    → CountsTaken list taken counts
    → IfSome (when_come cycles o) (λ given. CountsTaken list (taken + 1) (counts_after counts given.1))
fits-given list taken cycles counts None is f = tt
fits-given list taken cycles counts (Some e) is f = elim (either_way (leb e.cycle cycles)) [
  | inl le ↦ rw le (fits-more list taken counts e is f)
  | inr later ↦ rw later tt
]

-- what is due is counted when it is taken
pub fits-due : (list : List Entry) (taken cycles : ℕ) (counts : List ℕ) → CountsTaken list taken counts
    → IfSome (due list taken cycles) (λ given. CountsTaken list (taken + 1) (counts_after counts given.1))
unfolding due
fits-due list taken cycles counts f = fits-given list taken cycles counts (slice_get list taken) refl f

-- an input that was added above the cycles of all that were taken keeps the fit
pub fits-adds : (old new : List Entry) (cycle taken : ℕ) (input : Input) (counts : List ℕ) → AddsLast old cycle input new
    → TakenBelow old taken cycle → CountsTaken old taken counts → CountsTaken new taken counts
fits-adds old new cycle taken input counts a below f =
    subst (λ (l : List Entry). CountsTaken l taken counts) (sym a.new_is)
    (fits-added old taken counts (plain_on a.line cycle input) below f)

-- the counts of a machine that fits a feed are small
pub counts-small : (list : List Entry) (taken : ℕ) (counts : List ℕ) → AreInputs list → CountsTaken list taken counts → (j : ℕ)
    → slice_index counts j < 10 ^ 9
counts-small list taken counts a f j = elim (below_or_past j (length counts)) [
  | inl within ↦ omega (arith, f.tell j within, fewer-taken (Some j) taken list, a.serially j)
  | inr past ↦ let none = past-counts counts j past in omega (arith, none)
]
  where
    below_or_past : (j n : ℕ) → (j < n) ⊎ (n ≤ j)
    below_or_past j n = grind arith

of-none : (j : ℕ) (list : List Entry) → AreOfSixteen list → 16 ≤ j → number_from (Some j) list ≡ 0
of-none j [] few past = refl
of-none j (e ∷ list) few past = number_from-other (Some j) e list (not_from j e.series (few 0 e refl) past)
    ∙ of-none j list (λ k x h. few (suc k) x h) past
  where
    not_from : (j : ℕ) (o : Option ℕ) → IfSome o (λ k. k < 16) → 16 ≤ j → is_source (Some j) o ≡ false
    not_from j None w past = refl
    not_from j (Some k) w past = eqb-no j k (λ same. absurd (omega (arith, w, past, same)))

sum-small : (counts : List ℕ) (most : ℕ) → ((j : ℕ) → get_or counts j 0 < most) → sum counts ≤ length counts * most
sum-small [] most h = omega arith
sum-small (c ∷ counts) most h =
    let here : c < most = h 0 in
    let rest = sum-small counts most (λ j. h (suc j)) in
    let product : (length counts + 1) * most ≡ length counts * most + most = grind arith in
    omega (arith, here, rest, product, sum_by-cons (λ n. n) c counts)

-- and so is the number of what it took
pub taken-small : (list : List Entry) (taken : ℕ) (counts : List ℕ) → length counts ≡ 16 → AreInputs list → CountsTaken list taken counts
    → taken < 2 ^ 63
taken-small list taken counts long a f =
    let t = total-counts counts (take taken list)
    (tells-all list taken counts (λ j past. of-none j list a.sixteen (omega (arith, past, long))) f) in
    let s = sum-small counts (10 ^ 9) (counts-small list taken counts a f) in
    let p = fewer-taken None taken list in
    let few = a.plainly in
    let all = length-take-le taken list f.stand in
    let most : length counts * 10 ^ 9 ≡ 16000000000 = ap (λ n. n * 10 ^ 9) long in
    omega (arith, t, s, p, few, all, most)

pub given-room : {T : Type 0} (list : List Entry) (taken : ℕ) (counts : List ℕ) (o : Option T) → length counts ≡ 16 → AreInputs list
    → CountsTaken list taken counts → IfSome o (λ given. taken < 2 ^ 63)
given-room list taken counts None long a f = tt
given-room list taken counts (Some given) long a f = taken-small list taken counts long a f

-- what is given is of the series of its entry
pub given-series : (cycles : ℕ) (o : Option Entry) → IfSome o (λ e. IfSome e.series (λ j. j < 16))
    → IfSome (when_come cycles o) (λ given. IfSome given.1 (λ j. j < 16))
given-series cycles None w = tt
given-series cycles (Some e) w = elim (either_way (leb e.cycle cycles)) [
  | inl le ↦ rw le w
  | inr later ↦ rw later tt
]
