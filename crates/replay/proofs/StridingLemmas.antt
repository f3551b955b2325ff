-- Images that are kept on a long way, at multiples of a stride alone.
use Rattle.std.specs.Int.{◌∣◌}
use Rattle.std.specs.List.{Contains}
use Rattle.std.proofs.Common.{◌≡◌, ℕ, ◌+◌, ◌-◌, ◌*◌, ◌/◌, ◌%◌, ◌^◌, ◌<◌, ◌≤◌, ◌↔◌, ◌⊎◌, List, [], ◌∷◌, ◌++◌, length, inl, inr, arith}
use Rattle.std.proofs.Math.Nat.{div-add-mod, dvd-mul_left, dvd-add_iff_left}
use Rattle.std.proofs.lemmas.Nat.{mod_below}
use Rattle.std.proofs.lemmas.Nat.Gcd.{dvd-zero, dvd_refl}
use Rattle.std.proofs.lemmas.Bool.{cases_lt}
use Rattle.std.proofs.lemmas.List.{length-map, map-append}
use Rattle.std.proofs.lemmas.List.Elements.{Contains-append_left, Contains-push}
use Rattle.std.specs.Prelude.{max}
use Rattle.cpu.specs.State.{State}
use Rattle.replay.specs.Images.{Image, IsRising, steps}
use Rattle.replay.specs.Memory.{Fits, most_images}
use Rattle.replay.specs.Spacing.{Stays, AreStaying}
use Rattle.replay.proofs.FewImages.{Fits-part, Fits-room}
use Rattle.replay.proofs.StepLemmas.{contains_push_cases}
use Rattle.replay.proofs.StayingLemmas.{apart, divides, doubles}
use Rattle.replay.proofs.SessionLemmas.{Rises-steps}
use Rattle.replay.proofs.SettlingLemmas.{stays_before, zero_stays}

-- the kept steps stay at step n, and are all of those that are before step low or multiples of the stride
pub record AreOnGrid (low n : ℕ) (kept : List ℕ) : Type 0 where
  pub below : (c : ℕ) → Contains kept c → c < n
  pub stays : (c : ℕ) → Contains kept c → Stays n c
  pub full : (c : ℕ) → c < n → Stays n c → (c < low) ⊎ (2 ^ 14 ∣ c) → Contains kept c

pub grid_starts : (low : ℕ) (kept : List ℕ) → AreStaying low low kept → AreOnGrid low low kept
grid_starts low kept staying = record {
  below = λ c h. ((staying c).0 h).0;
  stays = λ c h. ((staying c).0 h).1;
  full = λ c early stays either. (staying c).1 (early, stays);
}

-- there is room for an image more
pub room_on_grid : (low n : ℕ) (images : List Image) → n < 2 ^ 40 - 1 → IsRising images → AreOnGrid low n (steps images)
    → length images < most_images
room_on_grid low n images small rising grid =
    let fits : Fits (length (steps images) + 2) n = Fits-part n (steps images) (Rises-steps images rising)
    (λ c h. (grid.below c h, grid.stays c h)) in
    omega (arith, Fits-room n (length images + 2) (omega arith) (rw length-map at fits))

-- the steps that are kept with one more
pub steps_with : (images kept : List Image) (at : ℕ) (s : State) → kept ≡ images ++ (at, s) ∷ [] → (c : ℕ)
    → Contains (steps kept) c ↔ (Contains (steps images) c ⊎ (at ≡ c))
steps_with images kept at s e c = rw (e, map-append) (
  λ h. contains_push_cases (steps images) at c h,
  λ is. elim is [
    | inl old ↦ Contains-append_left (steps images) (at ∷ []) c old
    | inr now ↦ rw (← now) (Contains-push (steps images) at)
  ],
)

-- the first one is kept
pub first_on_grid : (low n : ℕ) (kept : List ℕ) → n < 2 ^ 40 → 0 < n → AreOnGrid low n kept → Contains kept 0
first_on_grid low n kept small past grid = grid.full 0 past (zero_stays n small) (inr (dvd-zero (2 ^ 14)))

pub first_with : (low at : ℕ) (old kept : List ℕ) → at < 2 ^ 40 → AreOnGrid low at old
    → ((c : ℕ) → Contains kept c ↔ (Contains old c ⊎ (at ≡ c))) → Contains kept 0
first_with low at old kept small grid with = elim (cases_lt 0 at) [
  | inl past ↦ (with 0).1 (inl (first_on_grid low at old small past grid))
  | inr none ↦ (with 0).1 (inr (omega arith))
]

-- a stride further, with its first image
pub grid_on : (low at end : ℕ) (old with thinned : List ℕ) → low ≤ at → at < end → end ≤ at + 2 ^ 14 → 2 ^ 14 ∣ at → AreOnGrid low at old
    → ((c : ℕ) → Contains with c ↔ (Contains old c ⊎ (at ≡ c)))
    → ((c : ℕ) → Contains thinned c ↔ (Contains with c × (c ≤ at) × Stays end c)) → AreOnGrid low end thinned
grid_on low at end old with thinned from past near on_grid grid is_with is_thinned = record {
  below = λ c h. omega (arith, ((is_thinned c).0 h).1);
  stays = λ c h. ((is_thinned c).0 h).2;
  full = λ c early stays either.
      let not_late : c ≤ at = elim (cases_lt at c) [
        | inr fine ↦ fine
        | inl late ↦ elim either [
          | inl before ↦ omega arith
          | inr multiple ↦ let far : at + 2 ^ 14 ≤ c = apart (2 ^ 14) at c on_grid multiple late in omega arith
        ]
      ] in
      let kept : Contains with c = elim (cases_lt c at) [
        | inl less ↦ (is_with c).1 (inl (grid.full c less (stays_before end at c (omega arith) stays) either))
        | inr same ↦ (is_with c).1 (inr (omega arith))
      ] in
      (is_thinned c).1 (kept, not_late, stays);
}

-- the base from which the last strides are gone once more: a multiple of the stride, two to three of them back, or the start
pub record IsBase (low at base : ℕ) : Type 0 where
  pub from : low ≤ base
  pub before : base < at
  pub grid : 2 ^ 14 ∣ base
  pub near : at + 2 ≤ base + 3 * 2 ^ 14
  pub far : (base ≡ low) ⊎ (base + 2 * 2 ^ 14 ≤ at + 1)

-- the base is kept
pub base_kept : (low at base : ℕ) (kept : List ℕ) → IsBase low at base → AreOnGrid low at kept → Contains kept base
base_kept low at base kept is grid = grid.full base is.before (14, is.grid, is.near) (inr is.grid)

-- up to the base all are kept that stay
pub base_full : (low at base : ℕ) (kept : List ℕ) → IsBase low at base → AreOnGrid low at kept → (c : ℕ) → c ≤ base → Stays at c
    → Contains kept c
base_full low at base kept is grid c early (v, d, near) =
    let below : c < at = omega (arith, is.before) in
    elim (cases_lt v 14) [
      | inr high ↦ grid.full c below (v, d, near) (inr (divides 14 v c high d))
      | inl small ↦ elim is.far [
        | inr far ↦ absurd (omega (arith, doubles v 14 small))
        | inl start ↦ elim (cases_lt c low) [
          | inl before ↦ grid.full c below (v, d, near) (inl before)
          | inr not_before ↦ let e : c ≡ base = omega arith in grid.full c below (v, d, near) (inr (rw e is.grid))
        ]
      ]
    ]

-- the next multiple of the stride
pub next_on_grid : (at end : ℕ) → 2 ^ 14 ∣ at → end ≡ at + 2 ^ 14 → 2 ^ 14 ∣ end
next_on_grid at end grid is = rw is ((dvd-add_iff_left (2 ^ 14) (dvd_refl (2 ^ 14))).0 grid)

-- the base that is taken
pub is_base : (low at base : ℕ) → 2 ^ 14 ∣ low → low < at → base ≡ max low (((at + 1) / 16384 - 2) * 16384) → IsBase low at base
is_base low at base grid past is =
    let q = (at + 1) / 16384 in
    let whole : 16384 * q + (at + 1) % 16384 ≡ at + 1 = div-add-mod (at + 1) 16384 in
    let rest : (at + 1) % 16384 < 16384 = mod_below (at + 1) 16384 (omega arith) in
    elim (cases_lt low ((q - 2) * 16384)) [
      | inl later ↦
          let e : base ≡ (q - 2) * 16384 = omega (arith, is) in
          record {
            from = omega arith;
            before = omega arith;
            grid = rw e (dvd-mul_left 16384 (q - 2));
            near = omega arith;
            far = inr (omega arith);
          }
      | inr not_later ↦
          let e : base ≡ low = omega (arith, is) in
          record {
            from = omega arith;
            before = omega arith;
            grid = rw e grid;
            near = omega arith;
            far = inl e;
          }
    ]
