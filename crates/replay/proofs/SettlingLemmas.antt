-- Which images stay at a step that was reached by many steps at once.
use Rattle.std.specs.Int.{◌∣◌}
use Rattle.std.proofs.Common.{◌≡◌, ℕ, zero, suc, ◌+◌, ◌-◌, ◌*◌, ◌/◌, ◌^◌, ◌<◌, ◌≤◌, ◌↔◌, ◌⊎◌, List, inl, inr, refl, arith}
use Rattle.std.proofs.Math.Nat.{pow-succ', one-dvd}
use Rattle.std.proofs.lemmas.Nat.Gcd.{dvd-zero}
use Rattle.std.proofs.lemmas.Bool.{cases_lt}
use Rattle.std.proofs.lemmas.Nat.{pow_pos}
use Rattle.std.specs.List.{filter, Contains}
use Rattle.replay.specs.Spacing.{Stays, AreStaying, IsNeeded, IsPrevious}
use Rattle.replay.proofs.StepLemmas.{other, is_other, not_other, contains_filter, contains_filter_back}
use Rattle.replay.proofs.StayingLemmas.{divides, doubles}
use Rattle.std.proofs.Common.{[], ◌∷◌, ◌++◌, length, get_or}
use Rattle.std.proofs.lemmas.List.{length-map, map-append}
use Rattle.std.proofs.lemmas.List.Elements.{All-contains, Contains-append_left, Contains-get_or, Contains-push}
use Rattle.cpu.specs.State.{State, Scenario}
use Rattle.cpu.specs.Run.{run}
use Rattle.replay.specs.Images.{Image, IsRising, steps}
use Rattle.replay.specs.Memory.{Fits, most_images}
use Rattle.replay.specs.View.{AreOfRun}
use Rattle.replay.proofs.FewImages.{Fits-part, Fits-room}
use Rattle.replay.proofs.StepLemmas.{contains_push_cases}
use Rattle.replay.proofs.SessionLemmas.{of_run_after, Rises-steps}

-- what stays at a later step stays before
pub stays_before : (n m c : ℕ) → m ≤ n → Stays n c → Stays m c
stays_before n m c early (v, d, near) = (v, d, omega arith)

-- half of a gap that is enough
half_needed : (n c gap v : ℕ) → gap ≡ 2 ^ v → 1 < gap → n + 2 ≤ c + 3 * (gap / 2) → IsNeeded n c (gap / 2)
half_needed n c gap zero is more fits = absurd (omega arith)
half_needed n c gap (suc v) is more fits = record { power = (v, omega (arith, is, pow-succ' 2 v)); enough = fits }

pub needed_half : (n c gap : ℕ) → 1 < gap → n + 2 ≤ c + 3 * (gap / 2) → IsNeeded n c gap → IsNeeded n c (gap / 2)
needed_half n c gap more fits needed = half_needed n c gap needed.power.0 needed.power.1 more fits

-- the least gap decides
pub needed_decides : (n c gap : ℕ) → IsNeeded n c gap → (1 < gap → c + 3 * (gap / 2) < n + 2) → Stays n c ↔ (gap ∣ c)
needed_decides n c gap needed least =
    let v = needed.power.0 in
    let is : gap ≡ 2 ^ v = needed.power.1 in (
      λ stays. let u = stays.0 in elim (cases_lt u v) [
        | inl low ↦
            let twice : 2 * 2 ^ u ≤ 2 ^ v = doubles u v low in
            let some : 1 ≤ 2 ^ u = pow_pos u in
            absurd (omega (arith, least (omega arith), stays.2))
        | inr high ↦ rw is (divides v u c high stays.1)
      ],
      λ d. (v, rw is at d, omega (arith, needed.enough)),
    )

-- of what was kept, from step at on those are left that stay and are not after step last; below it all are left
pub record IsThinnedTo (n last at : ℕ) (old kept : List ℕ) : Type 0 where
  pub part : (c : ℕ) → Contains kept c → Contains old c
  pub left : (c : ℕ) → Contains kept c → at ≤ c → (c ≤ last) × Stays n c
  pub full : (c : ℕ) → Contains old c → (c < at) ⊎ ((c ≤ last) × Stays n c) → Contains kept c

-- none is taken out yet
pub thinned_to_starts : (n last : ℕ) (kept : List ℕ) → ((c : ℕ) → Contains kept c → c < n) → IsThinnedTo n last n kept kept
thinned_to_starts n last kept below = record {
  part = λ c h. h;
  left = λ c h late. absurd (omega (arith, below c h));
  full = λ c h either. h;
}

-- the next one stays
pub thinned_to_stays : (n last at step : ℕ) (old kept : List ℕ) → IsThinnedTo n last at old kept → IsPrevious kept at step → step ≤ last
    → Stays n step → IsThinnedTo n last step old kept
thinned_to_stays n last at step old kept thinned previous early stays = record {
  part = thinned.part;
  left = λ c h late. elim (cases_lt c at) [
    | inl below ↦ let e : step ≡ c = omega (arith, previous.greatest c h below) in let both : (step ≤ last)
        × Stays n step = (early, stays) in rw e at both
    | inr above ↦ thinned.left c h above
  ];
  full = λ c h either. elim either [
    | inl below ↦ thinned.full c h (inl (omega (arith, previous.before)))
    | inr is ↦ thinned.full c h (inr is)
  ];
}

-- the next one is taken out
pub thinned_to_goes : (n last at step : ℕ) (old kept : List ℕ) → IsThinnedTo n last at old kept → IsPrevious kept at step
    → ((step ≤ last) → Stays n step → ⊥) → IsThinnedTo n last step old (filter (other step) kept)
thinned_to_goes n last at step old kept thinned previous goes =
    let back = contains_filter (other step) kept in
    let on = contains_filter_back (other step) kept in
    record {
      part = λ c h. thinned.part c (back c h).0;
      left = λ c h late. elim (cases_lt c at) [
        | inl below ↦ absurd (not_other step c (back c h).1 (omega (arith, previous.greatest c (back c h).0 below)))
        | inr above ↦ thinned.left c (back c h).0 above
      ];
      full = λ c h either. elim either [
        | inl below ↦ on c (thinned.full c h (inl (omega (arith, previous.before)))) (is_other step c (omega arith))
        | inr is ↦ on c (thinned.full c h (inr is)) (is_other step c (λ e. goes (rw e at is.0) (rw e at is.1)))
      ];
    }

-- all were looked at
pub thinned_to_ends : (n last : ℕ) (old kept : List ℕ) → IsThinnedTo n last 0 old kept → (c : ℕ)
    → Contains kept c ↔ (Contains old c × (c ≤ last) × Stays n c)
thinned_to_ends n last old kept thinned c = (
  λ h. let is = thinned.left c h (omega arith) in (thinned.part c h, is.0, is.1),
  λ is. thinned.full c is.0 (inr (is.1, is.2)),
)

-- a power of two that is great enough for every step
pub needed_starts : (n c : ℕ) → n < 2 ^ 40 → IsNeeded n c (2 ^ 40)
needed_starts n c low = record { power = (40, refl); enough = omega arith }

pub needed_on : (n c gap : ℕ) → IsNeeded n c gap → IsNeeded n (c + 1) gap
needed_on n c gap needed = record { power = needed.power; enough = omega (arith, needed.enough) }

-- what is thinned up to step base is what stays of the steps up to there
pub staying_thinned : (n base : ℕ) (old kept : List ℕ) → ((c : ℕ) → Contains kept c ↔ (Contains old c × (c ≤ base) × Stays n c))
    → ((c : ℕ) → c ≤ base → Stays n c → Contains old c) → AreStaying (base + 1) n kept
staying_thinned n base old kept thinned full c = (
  λ h. let is = (thinned c).0 h in (omega (arith, is.1), is.2),
  λ is. let early : c ≤ base = omega (arith, is.0) in (thinned c).1 (full c early is.1, early, is.1),
)

-- a step more of which no image is to stay
pub staying_on : (n at : ℕ) (kept : List ℕ) → AreStaying at n kept → (Stays n at → ⊥) → AreStaying (at + 1) n kept
staying_on n at kept staying goes c = (
  λ h. let is = (staying c).0 h in (omega (arith, is.0), is.1),
  λ is. elim (cases_lt c at) [
    | inl early ↦ (staying c).1 (early, is.1)
    | inr late ↦ let e : c ≡ at = omega (arith, is.0) in absurd (goes (rw e at is.1))
  ],
)

-- a step more whose image stays
pub staying_kept : (n at : ℕ) (images kept : List Image) (s : State) → AreStaying at n (steps images) → Stays n at
    → kept ≡ images ++ (at, s) ∷ [] → AreStaying (at + 1) n (steps kept)
staying_kept n at images kept s staying stays e c =
    rw (e, map-append) (
      λ h. elim (contains_push_cases (steps images) at c h) [
        | inl old ↦ let is = (staying c).0 old in (omega (arith, is.0), is.1)
        | inr now ↦ let both : (at < at + 1) × Stays n at = (omega arith, stays) in rw (← now) both
      ],
      λ is. elim (cases_lt c at) [
        | inl early ↦ Contains-append_left (steps images) (at ∷ []) c ((staying c).1 (early, is.1))
        | inr late ↦ let now : at ≡ c = omega (arith, is.0) in rw (← now) (Contains-push (steps images) at)
      ],
    )

-- there is room for an image more
pub room_of_staying : (n at : ℕ) (images : List Image) → at ≤ n → n < 2 ^ 40 - 1 → IsRising images → AreStaying at n (steps images)
    → length images < most_images
room_of_staying n at images early low rising staying =
    let fits : Fits (length (steps images) + 2) n = Fits-part n (steps images) (Rises-steps images rising)
    (λ c h. let is = (staying c).0 h in (omega (arith, is.0), is.1)) in
    omega (arith, Fits-room n (length images + 2) (omega arith) (rw length-map at fits))

-- images of a run with one image more
pub of_run_kept : (scenario : Scenario) (at : ℕ) (images kept : List Image) (s : State) → AreOfRun scenario images → s ≡ run scenario at
    → kept ≡ images ++ (at, s) ∷ [] → AreOfRun scenario kept
of_run_kept scenario at images kept s of_run is e = of_run_after scenario at images kept kept s of_run is e (λ i h. h)

-- images of a run, fewer of them
pub of_run_part : (scenario : Scenario) (images kept : List Image) → AreOfRun scenario images
    → ((i : Image) → Contains kept i → Contains images i) → AreOfRun scenario kept
of_run_part scenario images kept of_run part k d below = All-contains (λ (i : Image). i.1 ≡ run scenario i.0) images (get_or kept k d)
    of_run (part (get_or kept k d) (Contains-get_or kept k d below))

-- the first image stays for ever
pub zero_stays : (n : ℕ) → n < 2 ^ 40 → Stays n 0
zero_stays n low = (40, dvd-zero (2 ^ 40), omega arith)

-- with the image of step low, all is kept that may stay later, up to there
pub kept_up_to : (low end : ℕ) (kept : List ℕ) → AreStaying (low + 1) low kept → low < end → (c : ℕ) → c ≤ low → Stays end c
    → Contains kept c
kept_up_to low end kept staying later c early stays = (staying c).1 (omega (arith, early), stays_before end low c (omega arith) stays)

-- among it the image of step low itself, and the first one
pub kept_now : (low : ℕ) (kept : List ℕ) → AreStaying (low + 1) low kept → Contains kept low
kept_now low kept staying = (staying low).1 (omega arith, (0, one-dvd low, omega arith))

pub kept_first : (low : ℕ) (kept : List ℕ) → low < 2 ^ 40 → AreStaying (low + 1) low kept → Contains kept 0
kept_first low kept small staying = (staying 0).1 (omega arith, zero_stays low small)

-- what is kept with the image of step low
pub staying_with : (low : ℕ) (images kept : List Image) (s : State) → AreStaying low low (steps images) → kept ≡ images ++ (low, s) ∷ []
    → AreStaying (low + 1) low (steps kept)
staying_with low images kept s staying e = staying_kept low low images kept s staying (0, one-dvd low, omega arith) e
