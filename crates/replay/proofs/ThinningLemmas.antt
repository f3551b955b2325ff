-- Which images fall out at a step, and that those are left which stay.
use Rattle.std.specs.Int.{◌∣◌}
use Rattle.std.specs.List.{filter, Contains}
use Rattle.std.proofs.Common.{◌≡◌, ℕ, zero, suc, ◌+◌, ◌-◌, ◌*◌, ◌/◌, ◌%◌, ◌^◌, ◌<◌, ◌≤◌, ◌≢◌, ◌⊎◌, List, inl, inr, refl, sym, ◌∙◌, ap}
use Rattle.std.proofs.Common.{subst, arith}
use Rattle.std.proofs.Math.Pow.{pow_mono}
use Rattle.std.proofs.lemmas.Bool.{cases_lt}
use Rattle.std.proofs.lemmas.Nat.{pow_pos, mod_below}
use Rattle.std.proofs.lemmas.Nat.Gcd.{dvd_refl, dvd-zero, dvd_of_mod-eq-zero, mod-eq-zero_of_dvd}
use Rattle.std.proofs.Math.Nat.{pow-succ', dvd-sub, dvd-mod_iff, dvd-add_iff_left, div-add-mod, mul-suc, dvd-mul_right, dvd-mul_left}
use Rattle.std.proofs.Math.Nat.{dvd_of_mul-dvd-mul_right, div-mul_cancel, mul_comm, mul_assoc}
use Rattle.replay.specs.Spacing.{Stays, AreStaying, FallOut}
use Rattle.replay.proofs.StepLemmas.{other, is_other, not_other, contains_filter, contains_filter_back}
use Rattle.replay.proofs.StayingLemmas.{apart, grows, divides, doubles}

-- a multiple of a power of two is one of the next power, or it is half of that more
halves : (v c : ℕ) → 2 ^ v ∣ c → (2 ^ suc v ∣ c) ⊎ (2 ^ suc v ∣ c + 2 ^ v)
halves v c d =
    let m = 2 ^ v in
    let big = 2 ^ suc v in
    let twice : big ≡ 2 * m = pow-succ' 2 v in
    let x = c % big in
    let q = c / big in
    let below : x < big = mod_below c big (pow_pos (suc v)) in
    let whole : big * q + x ≡ c = div-add-mod c big in
    let dx : m ∣ x = (dvd-mod_iff m (grows v (suc v) (omega arith))).1 d in
    elim (cases_lt 0 x) [
      | inr none ↦ inl (dvd_of_mod-eq-zero big (omega arith))
      | inl some ↦
          let least : 0 + m ≤ x = apart m 0 x (dvd-zero m) dx some in
          let most : x ≤ m = elim (cases_lt m x) [
            | inl more ↦ let far : m + m ≤ x = apart m m x (dvd_refl m) dx more in absurd (omega (arith, twice))
            | inr fine ↦ fine
          ] in
          let e : c + m ≡ big * suc q = omega (arith, mul-suc big q, twice) in
          inr (rw e (dvd-mul_right big (suc q)))
    ]

-- what is kept once, of the images that fall out at step n, those with i from low up to high are taken out
pub record IsThinned (n low high : ℕ) (kept : List ℕ) : Type 0 where
  pub stays : (c : ℕ) → Contains kept c → (c < n) × Stays (n - 1) c
  pub gone : (c i : ℕ) → Contains kept c → low ≤ i → i < high → n + 1 ≢ c + 3 * 2 ^ i
  pub full : (c : ℕ) → c < n → Stays (n - 1) c → ((i : ℕ) → low ≤ i → i < high → n + 1 ≢ c + 3 * 2 ^ i) → Contains kept c

-- none is taken out yet
pub thinning_starts : (n high : ℕ) (kept : List ℕ) → AreStaying n (n - 1) kept → IsThinned n high high kept
thinning_starts n high kept staying = record {
  stays = λ c h. (staying c).0 h;
  gone = λ c i h above below. absurd (omega arith);
  full = λ c below stays none. (staying c).1 (below, stays);
}

-- the next one is kept still
pub next_is_kept : (n i high : ℕ) (kept : List ℕ) → FallOut n high → i < high → IsThinned n (suc i) high kept
    → Contains kept (n + 1 - 3 * 2 ^ i)
next_is_kept n i high kept out below thinned =
    let fits = out.each i below in
    let some = pow_pos i in
    let dc : 2 ^ i ∣ n + 1 - 3 * 2 ^ i = dvd-sub (2 ^ i) (divides i (suc i) (n + 1) (omega arith) fits.0) (dvd-mul_left (2 ^ i) 3) in
    thinned.full (n + 1 - 3 * 2 ^ i) (omega (arith, some, fits.1)) (i, dc, omega (arith, some, fits.1))
    (λ j above less e. omega (arith, doubles i j above, some, fits.1, e))

-- and is taken out
pub thinned_next : (n i high : ℕ) (kept : List ℕ) → FallOut n high → i < high → IsThinned n (suc i) high kept
    → IsThinned n i high (filter (other (n + 1 - 3 * 2 ^ i)) kept)
thinned_next n i high kept out less thinned =
    let fits = out.each i less in
    let step = n + 1 - 3 * 2 ^ i in
    let back = contains_filter (other step) kept in
    let on = contains_filter_back (other step) kept in
    record {
      stays = λ c h. thinned.stays c (back c h).0;
      gone = λ c j h above below. elim (cases_lt i j) [
        | inl later ↦ thinned.gone c j (back c h).0 later below
        | inr same ↦ λ e. let p : 2 ^ j ≡ 2 ^ i = ap (λ (k : ℕ). 2 ^ k) (omega arith) in not_other step c (back c h).1 (omega (arith, p, e))
      ];
      full = λ c below stays none. on c (thinned.full c below stays (λ j above high_too. none j (omega arith) high_too))
          (is_other step c (λ e. none i (omega arith) less (omega (arith, fits.1, e))));
    }

-- no image falls out that stays
none_falls : (n c i : ℕ) → Stays n c → 2 ^ suc i ∣ n + 1 → n + 1 ≢ c + 3 * 2 ^ i
none_falls n c i (v, d, near) even e =
    let m = 2 ^ suc i in
    let power = pow-succ' 2 i in
    elim (cases_lt i v) [
      | inr far ↦ let p : 2 ^ v ≤ 2 ^ i = pow_mono far in omega (arith, near, e)
      | inl less ↦
          let dc : m ∣ c = divides (suc i) v c (omega arith) d in
          let dm : m ∣ c + m = (dvd-add_iff_left m (dvd_refl m)).0 dc in
          let gap : c + m + m ≤ n + 1 = apart m (c + m) (n + 1) dm even (omega (arith, power, pow_pos i, e)) in
          omega (arith, power, pow_pos i, e)
    ]

-- once all that fall out are taken out, those are kept that stay
pub thinned_ends : (n high : ℕ) (kept : List ℕ) → 0 < n → FallOut n high → IsThinned n 0 high kept → AreStaying n n kept
thinned_ends n high kept some out thinned =
    let stays : (c : ℕ) → Contains kept c → Stays n c = λ c h.
    let s = (thinned.stays c h).1 in
    let v = s.0 in
    let power = pow-succ' 2 v in
    elim (cases_lt (n + 1) (c + 3 * 2 ^ v)) [
      | inl more ↦ (v, s.1, omega arith)
      | inr exact ↦
          let is : n + 1 ≡ c + 3 * 2 ^ v = omega (arith, s.2) in
          elim (halves v c s.1) [
            | inl twice ↦ (suc v, twice, omega (arith, power, pow_pos v))
            | inr odd ↦
                let e : n + 1 ≡ c + 2 ^ v + 2 ^ suc v = omega (arith, power, is) in
                let even : 2 ^ suc v ∣ n + 1 = rw e ((dvd-add_iff_left (2 ^ suc v) (dvd_refl (2 ^ suc v))).0 odd) in
                elim (cases_lt v high) [
                  | inl early ↦ absurd (thinned.gone c v h (omega arith) early is)
                  | inr late ↦
                      let p : 2 ^ high ≤ 2 ^ v = pow_mono late in
                      let zero_is : c ≡ 0 = omega (arith, out.no_other (divides (suc high) (suc v) (n + 1) (omega arith) even), is) in
                      (suc v, subst (λ (x : ℕ). 2 ^ suc v ∣ x) (sym zero_is) (dvd-zero (2 ^ suc v)), omega (arith, power, pow_pos v, is))
                ]
          ]
    ] in
    λ c. (
      λ h. ((thinned.stays c h).0, stays c h),
      λ is. let s = is.1 in
          thinned.full c is.0 (s.0, s.1, omega (arith, s.2)) (λ i above below e. none_falls n c i s (out.each i below).0 e),
    )

-- what is known of a gap up to which all fall out: it is a power of two, and so many times goes into n + 1
pub record IsGap (n gap rest : ℕ) : Type 0 where
  pub power : ℕ
  pub is : gap ≡ 2 ^ power
  pub whole : rest * gap ≡ n + 1
  pub some : 1 ≤ rest
  pub few : gap ≤ n + 1
  pub each : (i : ℕ) → i < power → (2 ^ suc i ∣ n + 1) × (3 * 2 ^ i ≤ n)

pub next_gap : (n gap rest : ℕ) → IsGap n gap rest → rest % 2 ≡ 0 → 3 * gap ≤ n → IsGap n (gap * 2) (rest / 2)
next_gap n gap rest h even fits =
    let twice : rest / 2 * 2 ≡ rest = div-mul_cancel 2 (dvd_of_mod-eq-zero 2 even) in
    let whole : rest / 2 * (gap * 2) ≡ n + 1 = rw (mul_comm gap 2)
    (sym (mul_assoc (rest / 2) 2 gap) ∙ ap (λ (r : ℕ). r * gap) twice ∙ h.whole) in
    let bigger : gap * 2 ≡ 2 ^ suc h.power = omega (arith, h.is, pow-succ' 2 h.power) in
    let some : 1 ≤ rest / 2 = omega (arith, h.some, twice) in
    record {
      power = suc h.power;
      is = bigger;
      whole = whole;
      some = some;
      few = omega arith;
      each = λ i low. elim (cases_lt i h.power) [
        | inl early ↦ h.each i early
        | inr now ↦
            let e : h.power ≡ i = omega arith in
            let even_too : 2 ^ suc h.power ∣ n + 1 = rw (← whole, bigger) (dvd-mul_left (2 ^ suc h.power) (rest / 2)) in
            rw (← e) (even_too, omega (arith, h.is))
      ];
    }

pub last_gap : (n gap rest : ℕ) (h : IsGap n gap rest) → (rest % 2 ≡ 0 → n < 3 * gap) → FallOut n h.power
last_gap n gap rest h ends = record {
  each = h.each;
  no_other = λ d.
      let twice : 2 ^ suc h.power ≡ 2 * gap = omega (arith, h.is, pow-succ' 2 h.power) in
      let d' : 2 * gap ∣ rest * gap = rw (← twice, h.whole) d in
      let even : rest % 2 ≡ 0 = mod-eq-zero_of_dvd 2 (dvd_of_mul-dvd-mul_right 2 (omega (arith, h.is, pow_pos h.power)) d') in
      omega (arith, ends even, h.is);
}

-- half of a power of two
pub half_power : (gap low : ℕ) → gap ≡ 2 ^ low → 1 < gap → (i : ℕ) × (low ≡ suc i) × (gap / 2 ≡ 2 ^ i)
half_power gap zero is more = absurd (omega arith)
half_power gap (suc i) is more = (i, refl, omega (arith, pow-succ' 2 i))

-- the least power of two
pub all_out : (n low high : ℕ) (kept : List ℕ) → 2 ^ low ≤ 1 → IsThinned n low high kept → IsThinned n 0 high kept
all_out n zero high kept small thinned = thinned
all_out n (suc i) high kept small thinned = absurd (omega (arith, pow-succ' 2 i, pow_pos i))
