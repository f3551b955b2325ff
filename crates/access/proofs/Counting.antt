-- The counts of a run, step by step.
use Rattle.std.proofs.Common.{◌≡◌, ℕ, zero, suc, ◌+◌, ◌*◌, ◌<◌, ◌≤◌, ◌^◌, List, [], ◌∷◌, ◌++◌, length, replicate, get_or, set}
use Rattle.std.proofs.Common.{true, ◌-◌, refl, sym, ap, ◌∙◌, inl, inr, arith, add-one, subst, take}
use Rattle.std.proofs.Math.Nat.{add-mul, mul-add}
use Rattle.std.proofs.lemmas.Bool.{cases_lt}
use Rattle.std.proofs.lemmas.Bool.Decides.{eqb_tells}
use Rattle.std.specs.List.{flat_map}
use Rattle.std.proofs.lemmas.List.Concat.{flat_map-append}
use Rattle.std.proofs.lemmas.List.{append-nil, get_or-set_same, get_or-set_other, length-replicate, length-set}
use Rattle.words.proofs.Replicated.{get_replicated}
use Rattle.cover.specs.Tallies.{account_count, account_number, is_account}
use Rattle.cpu.specs.Profiles.{account_of}
use Rattle.cpu.specs.declared.spot.Spot.{Spot}
use Rattle.cpu.specs.NextStep.{next_step}
use Rattle.cpu.specs.Run.{run}
use Rattle.cpu.specs.State.{State, Scenario}
use Rattle.rope.specs.Places.{Words}
use Rattle.access.specs.declared.view.View.{View}
use Rattle.access.specs.Accesses.{cell_in, slot_count, slots, slots_after, slots_at, times, times_in}
use Rattle.access.specs.Below.{AreBelow}
use Rattle.access.specs.Levels.{entered_by, last_entered, levels}
use Rattle.access.specs.Repeats.{AreFewKept, AreKept, IsKept, Kept, kind_of, no_kept, owed, owed_by, repeats, slots_of_kind}
use Rattle.access.specs.Tallies.{Counts, CountsMore, CountsStep, Keeps, sum_in, Tallied}
use Rattle.access.proofs.Repeating.{last_stays, level_within, slots_same}

abbrev pub no_count : ℕ
no_count = 0

none_held : (n k : ℕ) → get_or (replicate n no_count) k no_count ≡ no_count
none_held n k = get_replicated no_count n k

none_kept : (n k : ℕ) → get_or (replicate n no_kept) k no_kept ≡ no_kept
none_kept n k = get_replicated no_kept n k

none_owed : (n i : ℕ) → owed (replicate n no_kept) i ≡ 0
none_owed zero i = refl
none_owed (suc n) i = let rest = none_owed n i in omega (arith, rest)

is_kept_none : (view : View) (rope : Words) (j : ℕ) → IsKept view rope j no_kept
is_kept_none view rope j = record { below = tt; short = omega arith; same = λ lt. absurd (omega (arith, lt)) }

-- what is kept with no steps, and what is owed then
settled_owed : (ks : List Kept) (i : ℕ) → AreFewKept ks 0 → owed ks i ≡ 0
settled_owed [] i few = refl
settled_owed (k ∷ ks) i few =
    let here : k.count ≡ 0 = (let le = few 0 in omega (arith, le)) in
    let rest = settled_owed ks i (λ j. few (suc j)) in
    rw (here, rest) (omega arith)

-- before the first step
pub none_counted : (view : View) (scenario : Scenario) (t : Tallied) → t.view ≡ view → t.counts ≡ replicate (slot_count view) 0
    → t.kept ≡ replicate account_count no_kept → t.last ≡ 0 → Counts view scenario 0 t
unfolding times last_entered
none_counted view scenario t same e k last =
    let few : AreFewKept t.kept 0 = λ j. rw (k, none_kept account_count j) (omega arith) in
    record {
      keeps = record {
        same = same;
        each = ap length e ∙ length-replicate (slot_count view) no_count;
        all = ap length k ∙ length-replicate account_count no_kept;
        last = last;
        sums = λ i. rw (e, k, none_held (slot_count view) i, none_owed account_count i) refl;
        known = λ n lt. absurd (omega (arith, lt));
        small = λ i. omega arith;
        kept = λ j. rw (k, none_kept account_count j) (is_kept_none view scenario.rope j);
        few = few;
      };
      settled = few;
      times = λ i. rw (e, none_held (slot_count view) i) refl;
      known = λ n lt. absurd (omega (arith, lt));
    }

-- one list after another
pub below_append : (most : ℕ) (xs ys : List ℕ) → AreBelow most xs → AreBelow most ys → AreBelow most (xs ++ ys)
below_append most [] ys a b = b
below_append most (x ∷ xs) ys a b = (a.0, below_append most xs ys a.1 b)

times_append : (i : ℕ) (xs ys : List ℕ) → times_in i (xs ++ ys) ≡ times_in i xs + times_in i ys
times_append i [] ys = omega arith
times_append i (x ∷ xs) ys = let rest = times_append i xs ys in omega (arith, rest)

-- a list of few numbers raises no count by more
pub few_times : (i : ℕ) (is : List ℕ) → times_in i is ≤ length is
few_times i [] = omega arith
few_times i (j ∷ is) =
    let rest = few_times i is in
    elim (eqb_tells i j) [
      | inl same ↦ rw same.0 (omega (arith, rest))
      | inr apart ↦ rw apart.0 (omega (arith, rest))
    ]

one_times : (x : ℕ) → 1 * x ≡ x
one_times x = omega arith

one_more_of : (n x : ℕ) → (n + 1) * x ≡ n * x + x
one_more_of n x = add-mul n 1 x ∙ ap (λ k. n * x + k) (one_times x)

-- a beginning of a list has no number more often
times_take : (i k : ℕ) (xs : List ℕ) → times_in i (take k xs) ≤ times_in i xs
times_take i zero xs = omega arith
times_take i (suc k) [] = omega arith
times_take i (suc k) (x ∷ xs) = let rest = times_take i k xs in omega (arith, rest)

times_of_one : (s : ℕ) → times_in s (s ∷ []) ≡ 1
times_of_one s =
    elim (eqb_tells s s) [
      | inl same ↦ rw same.0 refl
      | inr apart ↦ absurd (apart.1 refl)
    ]

-- a number is counted so many times more, and the count fits
pub pay_fits : (slots : List ℕ) (k s n was now : ℕ) → take (k + 1) slots ≡ take k slots ++ s ∷ []
    → now ≡ was + n * times_in s (take k slots) → was + n * times_in s slots ≤ 2 ^ 63 → now + n ≤ 2 ^ 63
pay_fits slots k s n was now more is fits =
    let before = times_in s (take k slots) in
    let all = times_in s slots in
    let next : times_in s (take (k + 1) slots) ≡ before + 1 = ap (times_in s) more ∙ times_append s (take k slots) (s ∷ [])
    ∙ ap (λ x. before + x) (times_of_one s) in
    let le = times_take s (k + 1) slots in
    let rest = all - (before + 1) in
    let whole : all ≡ before + (1 + rest) = omega (arith, next, le) in
    let product : n * all ≡ n * before + (n * 1 + n * rest) = ap (λ x. n * x) whole ∙ mul-add n before (1 + rest)
    ∙ ap (λ x. n * before + x) (mul-add n 1 rest) in
    let one : n * 1 ≡ n = omega arith in
    omega (arith, is, fits, product, one)

pub below_at : (most : ℕ) (xs : List ℕ) (k d : ℕ) → AreBelow most xs → k < length xs → get_or xs k d < most
below_at most [] k d below lt = absurd (omega (arith, lt))
below_at most (x ∷ xs) zero d below lt = below.0
below_at most (x ∷ xs) (suc k) d below lt = below_at most xs k d below.1 (omega (arith, lt))

-- a number is counted so many times more
pub paid_more : (start now new : List ℕ) (before : List ℕ) (j n : ℕ) → j < length now
    → ((i : ℕ) → get_or now i 0 ≡ get_or start i 0 + n * times_in i before)
    → new ≡ set now j (get_or now j 0 + n)
    → (i : ℕ) → get_or new i 0 ≡ get_or start i 0 + n * times_in i (before ++ j ∷ [])
paid_more start now new before j n lt is to i =
    let so = is i in
    let all : n * times_in i (before ++ j ∷ []) ≡ n * times_in i before + n * times_in i (j ∷ []) =
    ap (λ k. n * k) (times_append i before (j ∷ [])) ∙ mul-add n (times_in i before) (times_in i (j ∷ [])) in
    elim (eqb_tells i j) [
      | inl same ↦
          let at : get_or new i 0 ≡ get_or now j 0 + n =
          ap (λ l. get_or l i 0) to ∙ ap (λ k. get_or (set now j (get_or now j 0 + n)) k 0) same.1
          ∙ get_or-set_same now j (get_or now j 0 + n) 0 lt in
          let one : n * times_in i (j ∷ []) ≡ n = rw same.0 (omega arith) in
          let there : get_or now i 0 ≡ get_or now j 0 = ap (λ k. get_or now k 0) same.1 in
          omega (arith, so, all, at, one, there)
      | inr apart ↦
          let at : get_or new i 0 ≡ get_or now i 0 =
          ap (λ l. get_or l i 0) to ∙ get_or-set_other now j i (get_or now j 0 + n) 0 apart.1 in
          let none : n * times_in i (j ∷ []) ≡ 0 = rw apart.0 (omega arith) in
          omega (arith, so, all, at, none)
    ]

-- what is owed where one is replaced
pub owed_set : (ks : List Kept) (j : ℕ) (k : Kept) (i : ℕ) → j < length ks
    → owed (set ks j k) i + owed_by (get_or ks j no_kept) i ≡ owed ks i + owed_by k i
owed_set [] j k i lt = absurd (omega (arith, lt))
owed_set (k0 ∷ ks) zero k i lt = omega arith
owed_set (k0 ∷ ks) (suc j) k i lt = let rest = owed_set ks j k i (omega (arith, lt)) in omega (arith, rest)

-- what is kept where one is replaced
pub kept_set : (view : View) (rope : Words) (ks : List Kept) (number : ℕ) (k : Kept) → number < length ks → AreKept view rope ks
    → IsKept view rope number k → AreKept view rope (set ks number k)
kept_set view rope ks number k lt kept it j =
    elim (eqb_tells j number) [
      | inl same ↦
          subst (λ (n : ℕ). IsKept view rope n (get_or (set ks number k) n no_kept)) (sym same.1)
          (subst (IsKept view rope number) (sym (get_or-set_same ks number k no_kept lt)) it)
      | inr apart ↦ subst (IsKept view rope j) (sym (get_or-set_other ks number j k no_kept apart.1)) (kept j)
    ]

pub few_set : (ks : List Kept) (number : ℕ) (k : Kept) (most : ℕ) → number < length ks → AreFewKept ks most → k.count ≤ most + 1
    → AreFewKept (set ks number k) (most + 1)
few_set ks number k most lt few it j =
    elim (eqb_tells j number) [
      | inl same ↦
          subst (λ (n : ℕ). (get_or (set ks number k) n no_kept).count ≤ most + 1) (sym same.1)
          (subst (λ (x : Kept). x.count ≤ most + 1) (sym (get_or-set_same ks number k no_kept lt)) it)
      | inr apart ↦
          let le = few j in
          subst (λ (x : Kept). x.count ≤ most + 1) (sym (get_or-set_other ks number j k no_kept apart.1)) (omega (arith, le))
    ]

-- the same step once more
pub counts_again : (found : List ℕ) (old new : Tallied) (number : ℕ) → number < length old.kept
    → new ≡ record old { kept = set old.kept number (record (get_or old.kept number no_kept) { count = (get_or old.kept number no_kept).count + 1 }) }
    → (get_or old.kept number no_kept).slots ≡ found → CountsMore found old new
counts_again found old new number lt e same =
    let k = get_or old.kept number no_kept in
    let k2 = record k { count = k.count + 1 } in
    rw e (record {
      view = refl;
      each = refl;
      all = length-set old.kept number k2;
      sums = λ i.
          let moved = owed_set old.kept number k2 i lt in
          let more = one_more_of k.count (times_in i k.slots) in
          let is : times_in i k.slots ≡ times_in i found = ap (times_in i) same in
          omega (arith, moved, more, is);
      few = λ most few. let le = few number in few_set old.kept number k2 most lt few (omega (arith, le));
    })

-- a step that is counted at once
pub counts_once : (found : List ℕ) (old new : Tallied) → new.view ≡ old.view → length new.counts ≡ length old.counts
    → new.kept ≡ old.kept → ((i : ℕ) → get_or new.counts i 0 ≡ get_or old.counts i 0 + 1 * times_in i found) → CountsMore found old new
counts_once found old new view each kept paid = record {
  view = view;
  each = each;
  all = ap length kept;
  sums = λ i.
      let now = paid i in
      let same : owed new.kept i ≡ owed old.kept i = ap (λ ks. owed ks i) kept in
      omega (arith, now, same);
  few = λ most few j. let le = few j in let is : get_or new.kept j no_kept ≡ get_or old.kept j no_kept = ap (λ ks. get_or ks j no_kept) kept
      in rw is (omega (arith, le));
}

-- what was kept is counted
pub settle_sums : (old new : Tallied) (number : ℕ) → number < length old.kept
    → ((i : ℕ) → get_or new.counts i 0 ≡ get_or old.counts i 0 + owed_by (get_or old.kept number no_kept) i)
    → new.kept ≡ set old.kept number (record (get_or old.kept number no_kept) { count = 0 })
    → (i : ℕ) → sum_in new i ≡ sum_in old i
settle_sums old new number lt counts kept i =
    let k = get_or old.kept number no_kept in
    let now = counts i in
    let moved = owed_set old.kept number (record k { count = 0 }) i lt in
    let is : owed new.kept i ≡ owed (set old.kept number (record k { count = 0 })) i = ap (λ ks. owed ks i) kept in
    let none : owed_by (record k { count = 0 }) i ≡ 0 = omega arith in
    omega (arith, now, moved, is, none)

-- one account more is settled
pub settled_more : (old new : List Kept) (number : ℕ) → number < length old
    → new ≡ set old number (record (get_or old number no_kept) { count = 0 })
    → ((j : ℕ) → j < number → (get_or old j no_kept).count ≤ 0) → (j : ℕ) → j < number + 1 → (get_or new j no_kept).count ≤ 0
settled_more old new number lt e before j le =
    let was = record (get_or old number no_kept) { count = 0 } in
    elim (eqb_tells j number) [
      | inl same ↦ rw (same.1, e, get_or-set_same old number was no_kept lt) (omega arith)
      | inr apart ↦
          let earlier = before j (omega (arith, le, apart.1)) in
          rw (e, get_or-set_other old number j was no_kept apart.1) earlier
    ]

settled : {A : Type 0} (f : Kept → A) (old new : List Kept) (number : ℕ) → number < length old
    → new ≡ set old number (record (get_or old number no_kept) { count = 0 })
    → f (record (get_or old number no_kept) { count = 0 }) ≡ f (get_or old number no_kept)
    → (j : ℕ) → f (get_or new j no_kept) ≡ f (get_or old j no_kept)
settled f old new number lt e alike j =
    let was = record (get_or old number no_kept) { count = 0 } in
    elim (eqb_tells j number) [
      | inl same ↦ rw (same.1, e, get_or-set_same old number was no_kept lt) alike
      | inr apart ↦ rw (e, get_or-set_other old number j was no_kept apart.1) refl
    ]

pub slots_settled : (old new : List Kept) (number : ℕ) → number < length old
    → new ≡ set old number (record (get_or old number no_kept) { count = 0 })
    → (j : ℕ) → (get_or new j no_kept).slots ≡ (get_or old j no_kept).slots
slots_settled old new number lt e j = settled (λ k. k.slots) old new number lt e refl j

pub kinds_settled : (old new : List Kept) (number : ℕ) → number < length old
    → new ≡ set old number (record (get_or old number no_kept) { count = 0 })
    → (j : ℕ) → (get_or new j no_kept).kind ≡ (get_or old j no_kept).kind
kinds_settled old new number lt e j = settled (λ k. k.kind) old new number lt e refl j

kept_past : (ks : List Kept) (j : ℕ) → length ks ≤ j → get_or ks j no_kept ≡ no_kept
kept_past [] j le = refl
kept_past (k ∷ ks) zero le = absurd (omega (arith, le))
kept_past (k ∷ ks) (suc j) le = kept_past ks j (omega (arith, le))

pub all_settled : (ks : List Kept) (n : ℕ) → length ks ≤ n → ((j : ℕ) → j < n → (get_or ks j no_kept).count ≤ 0) → AreFewKept ks 0
all_settled ks n le each j =
    elim (cases_lt j n) [
      | inl below ↦ each j below
      | inr past ↦ rw (kept_past ks j (omega (arith, le, past))) (omega arith)
    ]

-- a step is kept in place of what was
pub counts_kept : (found : List ℕ) (old mid new : Tallied) (number : ℕ) (k : Kept) → number < length old.kept → mid.view ≡ old.view
    → length mid.counts ≡ length old.counts → ((i : ℕ) → sum_in mid i ≡ sum_in old i)
    → mid.kept ≡ set old.kept number (record (get_or old.kept number no_kept) { count = 0 })
    → new ≡ record mid { kept = set mid.kept number k } → k.slots ≡ found → k.count ≡ 1 → CountsMore found old new
counts_kept found old mid new number k lt view each sums kept e same one =
    let was = record (get_or old.kept number no_kept) { count = 0 } in
    let long : length mid.kept ≡ length old.kept = ap length kept ∙ length-set old.kept number was in
    let here : number < length mid.kept = omega (arith, lt, long) in
    let there : get_or mid.kept number no_kept ≡ was = ap (λ ks. get_or ks number no_kept) kept
    ∙ get_or-set_same old.kept number was no_kept lt in
    rw e (record {
      view = view;
      each = each;
      all = length-set mid.kept number k ∙ long;
      sums = λ i.
          let before = sums i in
          let moved = owed_set mid.kept number k i here in
          let zero_times : owed_by was i ≡ 0 = omega arith in
          let none : owed_by (get_or mid.kept number no_kept) i ≡ 0 = ap (λ x. owed_by x i) there ∙ zero_times in
          let is : owed_by k i ≡ times_in i found = ap (λ n. n * times_in i k.slots) one ∙ one_times (times_in i k.slots)
          ∙ ap (times_in i) same in
          omega (arith, before, moved, none, is);
      few = λ most few.
          let earlier : AreFewKept mid.kept most = λ j.
          (let le = few j in
          elim (eqb_tells j number) [
            | inl at ↦ subst (λ (n : ℕ). (get_or mid.kept n no_kept).count ≤ most) (sym at.1)
                (subst (λ (x : Kept). x.count ≤ most) (sym there) (omega arith))
            | inr apart ↦
                subst (λ (x : Kept). x.count ≤ most)
                (sym (ap (λ ks. get_or ks j no_kept) kept ∙ get_or-set_other old.kept number j was no_kept apart.1)) le
          ]) in
          few_set mid.kept number k most here earlier (omega (arith, one));
    })

-- a step is counted
pub step_once : (scenario : Scenario) (s : State) (old new : Tallied) → new.last ≡ entered_by (next_step scenario s) old.last
    → AreBelow (slot_count old.view) (slots_after old.view scenario s old.last) → length (slots_after old.view scenario s old.last) ≤ 18
    → new.view ≡ old.view → length new.counts ≡ length old.counts → new.kept ≡ old.kept
    → ((i : ℕ) → get_or new.counts i 0 ≡ get_or old.counts i 0 + 1 * times_in i (slots_after old.view scenario s old.last))
    → AreKept old.view scenario.rope old.kept → CountsStep scenario s old new
step_once scenario s old new last known short view each kept paid are = record {
  last = last;
  known = known;
  short = short;
  counts = counts_once (slots_after old.view scenario s old.last) old new view each kept paid;
  kept = subst (AreKept old.view scenario.rope) (sym kept) are;
}

pub step_again : (scenario : Scenario) (s : State) (old new : Tallied) (number : ℕ) → number < length old.kept
    → is_account (account_of scenario s) ≡ true → number ≡ account_number (account_of scenario s)
    → (get_or old.kept number no_kept).kind ≡ kind_of s old.last → old.last ≤ 10 → repeats scenario s ≡ true
    → AreKept old.view scenario.rope old.kept
    → new ≡ record old { kept = set old.kept number (record (get_or old.kept number no_kept) { count = (get_or old.kept number no_kept).count + 1 }) }
    → CountsStep scenario s old new
step_again scenario s old new number lt known at kind few repeating are e =
    let k = get_or old.kept number no_kept in
    let it = are number in
    let level : k.kind.level < levels = rw kind (level_within s old.last few) in
    let same : k.slots ≡ slots_after old.view scenario s old.last =
    it.same level ∙ ap (slots_of_kind old.view scenario.rope number) kind
    ∙ ap (λ n. slots_of_kind old.view scenario.rope n (kind_of s old.last)) at
    ∙ sym (slots_same old.view scenario s old.last repeating known) in
    record {
      last = ap (λ t. t.last) e ∙ sym (last_stays scenario s old.last repeating);
      known = subst (AreBelow (slot_count old.view)) same it.below;
      short = subst (λ (l : List ℕ). length l ≤ 18) same it.short;
      counts = counts_again (slots_after old.view scenario s old.last) old new number lt e same;
      kept = rw e (kept_set old.view scenario.rope old.kept number (record k { count = k.count + 1 }) lt are
          (record { below = it.below; short = it.short; same = it.same }));
    }

pub step_kept : (scenario : Scenario) (s : State) (old mid new : Tallied) (number : ℕ) (k : Kept) → number < length old.kept
    → is_account (account_of scenario s) ≡ true → number ≡ account_number (account_of scenario s)
    → repeats scenario s ≡ true → AreKept old.view scenario.rope old.kept → AreBelow (slot_count old.view) (slots_after old.view scenario s old.last)
    → length (slots_after old.view scenario s old.last) ≤ 18 → mid.view ≡ old.view → mid.last ≡ old.last
    → length mid.counts ≡ length old.counts
    → ((i : ℕ) → get_or mid.counts i 0 ≡ get_or old.counts i 0 + owed_by (get_or old.kept number no_kept) i)
    → mid.kept ≡ set old.kept number (record (get_or old.kept number no_kept) { count = 0 })
    → k.slots ≡ slots_after old.view scenario s old.last → k.kind ≡ kind_of s old.last → k.count ≡ 1
    → new ≡ record mid { kept = set mid.kept number k } → CountsStep scenario s old new
step_kept scenario s old mid new number k lt known at repeating are below short view last each counts kept same kind one e =
    let was = record (get_or old.kept number no_kept) { count = 0 } in
    let slots = slots_after old.view scenario s old.last in
    let before = are number in
    let mid_are : AreKept old.view scenario.rope mid.kept =
    subst (AreKept old.view scenario.rope) (sym kept) (kept_set old.view scenario.rope old.kept number was lt are
    (record { below = before.below; short = before.short; same = before.same })) in
    let here : number < length mid.kept = rw (kept, length-set old.kept number was) lt in
    let is : k.slots ≡ slots_of_kind old.view scenario.rope number k.kind =
    same ∙ slots_same old.view scenario s old.last repeating known
    ∙ sym (ap (λ n. slots_of_kind old.view scenario.rope n (kind_of s old.last)) at)
    ∙ sym (ap (slots_of_kind old.view scenario.rope number) kind) in
    record {
      last = ap (λ t. t.last) e ∙ last ∙ sym (last_stays scenario s old.last repeating);
      known = below;
      short = short;
      counts = counts_kept slots old mid new number k lt view each (settle_sums old mid number lt counts kept) kept e same one;
      kept = rw e (kept_set old.view scenario.rope mid.kept number k here mid_are
          (record {
            below = subst (AreBelow (slot_count old.view)) (sym same) below;
            short = subst (λ (l : List ℕ). length l ≤ 18) (sym same) short;
            same = λ level. is;
          }));
    }

known_more : (view : View) (scenario : Scenario) (n : ℕ) → ((t : ℕ) → t < n → AreBelow (slot_count view) (slots_at view scenario t))
    → AreBelow (slot_count view) (slots_at view scenario n)
    → (t : ℕ) → t < n + 1 → AreBelow (slot_count view) (slots_at view scenario t)
known_more view scenario n before here t lt =
    elim (eqb_tells t n) [
      | inl last ↦ rw last.1 here
      | inr apart ↦ before t (omega (arith, lt, apart.1))
    ]

times_more : (view : View) (scenario : Scenario) (n i : ℕ)
    → times view scenario (n + 1) i ≡ times view scenario n i + times_in i (slots_at view scenario n)
unfolding times
times_more view scenario n i = rw (add-one n) refl

last_more : (scenario : Scenario) (n : ℕ) → last_entered scenario (n + 1)
    ≡ entered_by (next_step scenario (run scenario n)) (last_entered scenario n)
unfolding last_entered
last_more scenario n = rw (add-one n) refl

-- a step more
pub keeps_more : (view : View) (scenario now : Scenario) (n : ℕ) (s : State) (old new : Tallied) → now ≡ scenario → s ≡ run scenario n
    → Keeps view scenario n old → CountsStep now s old new → Keeps view scenario (n + 1) new
keeps_more view scenario now n s old new same at before it =
    let same_slots : slots_after old.view now s old.last ≡ slots_at view scenario n =
    ap (λ v. slots_after v now s old.last) before.same ∙ ap (λ c. slots_after view c s old.last) same
    ∙ ap (λ x. slots_after view scenario x old.last) at ∙ ap (slots_after view scenario (run scenario n)) before.last in
    let here : AreBelow (slot_count view) (slots_at view scenario n) =
    subst (λ (v : View). AreBelow (slot_count v) (slots_at view scenario n)) before.same
    (subst (AreBelow (slot_count old.view)) same_slots it.known) in
    let more : CountsMore (slots_at view scenario n) old new = subst (λ (l : List ℕ). CountsMore l old new) same_slots it.counts in
    let short : length (slots_at view scenario n) ≤ 18 = subst (λ (l : List ℕ). length l ≤ 18) same_slots it.short in
    let entered : new.last ≡ entered_by (next_step scenario (run scenario n)) (last_entered scenario n) =
    it.last ∙ ap (λ c. entered_by (next_step c s) old.last) same ∙ ap (λ x. entered_by (next_step scenario x) old.last) at
    ∙ ap (entered_by (next_step scenario (run scenario n))) before.last in
    record {
      same = more.view ∙ before.same;
      each = more.each ∙ before.each;
      all = more.all ∙ before.all;
      last = entered ∙ sym (last_more scenario n);
      sums = λ i.
          more.sums i ∙ ap (λ k. k + times_in i (slots_at view scenario n)) (before.sums i) ∙ sym (times_more view scenario n i);
      known = known_more view scenario n before.known here;
      small = λ i.
          (let le = before.small i in
          let step = times_more view scenario n i in
          let most = few_times i (slots_at view scenario n) in
          omega (arith, le, step, most, short));
      kept = subst (λ (v : View). AreKept v scenario.rope new.kept) before.same
          (subst (λ (c : Scenario). AreKept old.view c.rope new.kept) same it.kept);
      few = more.few n before.few;
    }

-- each count may grow
pub small : (view : View) (scenario : Scenario) (n : ℕ) (t : Tallied) → n ≤ 2 ^ 40 → Keeps view scenario n t → (i : ℕ) → sum_in t i ≤ 2 ^ 62
small view scenario n t few keeps i =
    let is = keeps.sums i in
    let le = keeps.small i in
    omega (arith, is, le, few)

-- what is paid fits
pub once_fits : (slots : List ℕ) (t : Tallied) → length slots ≤ 18 → ((i : ℕ) → sum_in t i ≤ 2 ^ 62)
    → (i : ℕ) → get_or t.counts i 0 + 1 * times_in i slots ≤ 2 ^ 63
once_fits slots t short small i =
    let le = small i in
    let few = few_times i slots in
    let one = one_times (times_in i slots) in
    omega (arith, le, few, one, short)

pub owed_at : (ks : List Kept) (j i : ℕ) → owed_by (get_or ks j no_kept) i ≤ owed ks i
owed_at [] j i = omega arith
owed_at (k ∷ ks) zero i = omega arith
owed_at (k ∷ ks) (suc j) i = let rest = owed_at ks j i in omega (arith, rest)

pub settling_fits : (t : Tallied) (j : ℕ) → ((i : ℕ) → sum_in t i ≤ 2 ^ 62)
    → (i : ℕ) → get_or t.counts i 0 + owed_by (get_or t.kept j no_kept) i ≤ 2 ^ 63
settling_fits t j small i = let le = small i in let part = owed_at t.kept j i in omega (arith, le, part)

pub few_longer : (ks : List Kept) (most more : ℕ) → most ≤ more → AreFewKept ks most → AreFewKept ks more
few_longer ks most more le few j = let before = few j in omega (arith, before, le)

-- all that is kept is counted
pub counts_settled : (view : View) (scenario : Scenario) (n : ℕ) (old new : Tallied) → Keeps view scenario n old → new.view ≡ old.view
    → new.last ≡ old.last → length new.counts ≡ slot_count new.view → length new.kept ≡ account_count
    → ((i : ℕ) → sum_in new i ≡ sum_in old i) → AreFewKept new.kept 0
    → ((j : ℕ) → (get_or new.kept j no_kept).slots ≡ (get_or old.kept j no_kept).slots)
    → ((j : ℕ) → (get_or new.kept j no_kept).kind ≡ (get_or old.kept j no_kept).kind) → Counts view scenario n new
counts_settled view scenario n old new keeps same last each all sums settled slots kinds =
    let kept : AreKept view scenario.rope new.kept = λ j.
    (let it = keeps.kept j in
    record {
      below = subst (AreBelow (slot_count view)) (sym (slots j)) it.below;
      short = (let long : length (get_or new.kept j no_kept).slots ≡ length (get_or old.kept j no_kept).slots = ap length (slots j) in
          let le = it.short in omega (arith, long, le));
      same = λ lt.
          slots j
          ∙ it.same (rw (kinds j) at lt)
          ∙ ap (slots_of_kind view scenario.rope j) (sym (kinds j));
    }) in
    record {
      keeps = record {
        same = same ∙ keeps.same;
        each = each ∙ ap slot_count (same ∙ keeps.same);
        all = all;
        last = last ∙ keeps.last;
        sums = λ i. sums i ∙ keeps.sums i;
        known = keeps.known;
        small = keeps.small;
        kept = kept;
        few = few_longer new.kept 0 n (omega arith) settled;
      };
      settled = settled;
      times = λ i.
          (let is = sums i in
          let was = keeps.sums i in
          let none = settled_owed new.kept i settled in
          omega (arith, is, was, none));
      known = keeps.known;
    }

-- what is read of one spot more, and what is written of one cell more
pub reads_more : (view : View) (number level : ℕ) (spots before : List Spot) (spot : Spot) → spots ≡ before ++ spot ∷ []
    → flat_map (slots view number level 0) (flat_map cell_in spots)
    ≡ flat_map (slots view number level 0) (flat_map cell_in before) ++ flat_map (slots view number level 0) (cell_in spot)
reads_more view number level spots before spot e =
    ap (λ xs. flat_map (slots view number level 0) (flat_map cell_in xs)) e
    ∙ ap (flat_map (slots view number level 0)) (flat_map-append cell_in before (spot ∷ [])
    ∙ ap (λ ys. flat_map cell_in before ++ ys) (append-nil (cell_in spot)))
    ∙ flat_map-append (slots view number level 0) (flat_map cell_in before) (cell_in spot)

pub writes_more : (view : View) (number level : ℕ) (cells before : List ℕ) (c : ℕ) → cells ≡ before ++ c ∷ []
    → flat_map (slots view number level 1) cells ≡ flat_map (slots view number level 1) before ++ slots view number level 1 c
writes_more view number level cells before c e =
    ap (flat_map (slots view number level 1)) e ∙ flat_map-append (slots view number level 1) before (c ∷ [])
    ∙ ap (λ ys. flat_map (slots view number level 1) before ++ ys) (append-nil (slots view number level 1 c))

-- the counts are the run's
pub times_are : (view : View) (scenario : Scenario) (n : ℕ) (t : Tallied) → Counts view scenario n t
    → (λ i. get_or t.counts i 0) ≡ times view scenario n
times_are view scenario n t counts = λ p i. counts.times i p
