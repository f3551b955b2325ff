use Rattle.std.proofs.Common.{◌≡◌, ℕ, ◌+◌, ◌<◌, ◌≤◌, List, length, map, get_or, ap, sym, ◌∙◌, inl, inr, Bool, true, false, cond, [], ◌∷◌}
use Rattle.std.proofs.Common.{suc, zero, refl, arith, not, ◌==◌}
use Rattle.std.proofs.lemmas.Bool.Decides.{nat_tests}
use Rattle.std.specs.List.{AllWithin}
use Rattle.std.proofs.lemmas.List.{get_or_read, get_or-map, length-map}
use Rattle.std.proofs.lemmas.List.Kept.{AllPairs-filter}
use Rattle.std.specs.List.{filter, remove, All, Any, Contains}
use Rattle.std.proofs.lemmas.List.Elements.{All-contains, All-contains_itself, All-filter, All-head, All-map, All-tail, Contains-get_or}
use Rattle.std.proofs.lemmas.Bool.{cases_lt}
use Rattle.replay.specs.Images.{Image, IsLatest, IsRising, steps, without}
use Rattle.replay.specs.Spacing.{IsPrevious}
use Rattle.replay.proofs.StepLemmas.{other, contains_cases, contains_none}

-- the image at place k is the latest up to t, where all after it are later
pub latest_at : (images : List Image) (t k m : ℕ) (c : Image) → m ≤ k + 1 → k < length images → c ≡ get_or images k c → c.0 ≤ t
    → AllWithin (λ i. t < i.0) images m (length images) → IsRising images → IsLatest images t c
latest_at images t k m c next in_range is within later rising = record {
  kept = (k, in_range, sym is);
  within = within;
  greatest = λ j d j_in h.
      let same = ap (λ (i : Image). i.0) (get_or_read images k c in_range is d) in
      elim (cases_lt j k) [
        | inl before ↦ omega (arith, rising j k d before in_range, same)
        | inr after ↦ elim (cases_lt k j) [
          | inl past ↦ absurd (omega (arith, later j d (omega arith) j_in, h))
          | inr not_past ↦ let e : j ≡ k = omega arith in
              rw e (omega (arith, same))
        ]
      ];
}

pub IsRising-without : (images : List Image) (step : ℕ) → IsRising images → IsRising (without images step)
IsRising-without images step h = AllPairs-filter (λ (i j : Image). i.0 < j.0) _ images h

without-later : (images : List Image) (step : ℕ) → All (λ i. step < i.0) images → without images step ≡ images
without-later [] step h = refl
without-later (i ∷ images) step h =
    let later = All-head (λ (i : Image). step < i.0) i images h in
    let t : not (i.0 == step) ≡ true = grind (arith, nat_tests) in
    rw (t, without-later images step (All-tail (λ (i : Image). step < i.0) i images h)) refl

-- the one image of a step is taken out by its place
pub without-place : (images : List Image) (k step : ℕ) (d : Image) → IsRising images → k < length images → (get_or images k d).0 ≡ step
    → remove images k ≡ without images step
without-place [] k step d rising in_range is = absurd (omega arith)
without-place (i ∷ images) zero step d rising in_range is =
    let f : not (i.0 == step) ≡ false = grind (arith, nat_tests) in
    rw f (sym (without-later images step (λ j e below. let r = rising 0 (suc j) e (omega arith) (omega arith) in omega (arith, is))))
without-place (i ∷ images) (suc k) step d rising in_range is =
    let r : i.0 < (get_or images k d).0 = rising 0 (suc k) d (omega arith) (omega arith) in
    let t : not (i.0 == step) ≡ true = grind (arith, nat_tests) in
    rw t (ap (λ (rest : List Image). i ∷ rest) (without-place images k step d
    (λ a b e ab below. rising (suc a) (suc b) e (omega arith) (omega arith)) (omega arith) is))

-- an image is of one of the steps
pub contains_step : (images : List Image) (c : Image) → Contains images c → Contains (steps images) c.0
contains_step images c (k, below, is) = (
  k,
  rw length-map below,
  get_or-map (λ (i : Image). i.0) images k c c.0 below
      ∙ ap (λ (i : Image). i.0) is,
)

pub All-step : (P : ℕ → Type 0) (images : List Image) → All (λ i. P i.0) images → (x : ℕ) → Contains (steps images) x → P x
All-step P images all x h = All-contains P (steps images) x (All-map P (λ (i : Image). i.0) images all) h

pub All-from_steps : (P : ℕ → Type 0) (images : List Image) → ((x : ℕ) → Contains (steps images) x → P x) → All (λ i. P i.0) images
All-from_steps P images h k d below = h _ (contains_step images (get_or images k d) (Contains-get_or images k d below))

-- something is kept with one of the steps
pub Any-kept : {T : Type 0} (kept : List (ℕ × T)) (step : ℕ) → Contains (map (λ (k : ℕ × T). k.0) kept) step
    → Any (λ (k : ℕ × T). k.0 ≡ step) kept
Any-kept [] step h = absurd (contains_none step h)
Any-kept (k ∷ kept) step h = elim (contains_cases k.0 (map (λ (q : ℕ × _). q.0) kept) step h) [
  | inl is ↦ (0, k, omega arith, refl, is)
  | inr late ↦ let rest = Any-kept kept step late in (suc rest.0, rest.1, omega (arith, rest.2), rest.3, rest.4)
]

steps-cond : (b : Bool) (i : Image) (images : List Image) → steps (cond b (i ∷ images) images) ≡ cond b (i.0 ∷ steps images) (steps images)
steps-cond true i images = refl
steps-cond false i images = refl

pub steps-without : (images : List Image) (step : ℕ) → steps (without images step) ≡ filter (other step) (steps images)
steps-without [] step = refl
steps-without (i ∷ images) step = rw (steps-cond (other step i.0) i (without images step), steps-without images step) refl

pub IsPrevious-latest : (images : List Image) (t : ℕ) (c : Image) → IsLatest images t c → IsPrevious (steps images) (t + 1) c.0
IsPrevious-latest images t c latest = record {
  kept_too = contains_step images c latest.kept;
  before = omega (arith, latest.within);
  greatest = λ x h below. All-step (λ s. s ≤ t → s ≤ c.0) images latest.greatest x h (omega arith);
}

pub Contains-without : (images : List Image) (step : ℕ) (i : Image) → Contains (without images step) i → Contains images i
Contains-without images step i h =
    All-contains (Contains images) (without images step) i (All-filter _ (Contains images) images (All-contains_itself images)) h
