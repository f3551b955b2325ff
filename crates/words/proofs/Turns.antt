-- The bits of edited words.
use Rattle.std.proofs.Common.{◌≡◌, ℕ, suc, ◌+◌, ◌-◌, ◌*◌, ◌/◌, ◌%◌, ◌^◌, ◌<◌, ◌≤◌, min, nat_lt, if◌then◌else◌, sym, ap, ◌∙◌, arith, add-one}
use Rattle.std.proofs.Common.{inl, inr}
use Rattle.std.specs.Int.{bit_at}
use Rattle.std.proofs.Math.Nat.{eq-zero-or-pos}
use Rattle.std.proofs.lemmas.Bool.Decides.{nat_tests}
use Rattle.std.proofs.lemmas.Nat.Bits.{bit_at-suc, bit_at_cat_low, bit_at_above}
use Rattle.words.specs.Edits.{cyr, cyl, sr, edop}
use Rattle.words.specs.Laws.{CyclesRight, CyclesLeft, ShiftsRight, TakesUpperBits}

pub bit_of_half : (n i : ℕ) → bit_at (n / 2) i ≡ bit_at n (i + 1)
bit_of_half n i = rw add-one (sym (bit_at-suc n i))

-- the bits below k are those of the remainder
pub bit_of_low : (n k i : ℕ) → i < k → bit_at (n % 2 ^ k) i ≡ bit_at n i
bit_of_low n k i h =
    let split : n ≡ n / 2 ^ k * 2 ^ k + n % 2 ^ k = omega arith in
    sym (ap (λ (m : ℕ). bit_at m i) split ∙ bit_at_cat_low (n / 2 ^ k) k (n % 2 ^ k) i h)

-- what is added from bit 14 on leaves the bits below
bit_of_half_below : (w top i : ℕ) → i < 14 → bit_at (w / 2 + 16384 * top) i ≡ bit_at w (i + 1)
bit_of_half_below w top i h =
    let order : w / 2 + 16384 * top ≡ top * 2 ^ 14 + w / 2 = omega arith in
    rw order (bit_at_cat_low top 14 (w / 2) i h) ∙ bit_of_half w i

cyr_last : (w i : ℕ) → w < 32768 → i < 15 → 14 - i ≡ 0 → bit_at (cyr w) i ≡ bit_at w ((i + 1) % 15)
cyr_last w i p q e =
    let last : i ≡ 14 = omega arith in
    rw last (omega arith)

cyr_below : (w i : ℕ) → 0 < 14 - i → bit_at (cyr w) i ≡ bit_at w ((i + 1) % 15)
cyr_below w i h =
    let next : (i + 1) % 15 ≡ i + 1 = omega arith in
    rw next (bit_of_half_below w (w % 2) i (omega arith))

pub cyr_turns : (w : ℕ) → w < 32768 → CyclesRight w
cyr_turns w p i q = elim (eq-zero-or-pos (14 - i)) [ inl e ↦ cyr_last w i p q e | inr h ↦ cyr_below w i h ]

cyl_last : (w i : ℕ) → w < 32768 → i < 15 → 14 - i ≡ 0 → bit_at (cyl w) ((i + 1) % 15) ≡ bit_at w i
cyl_last w i p q e =
    let last : i ≡ 14 = omega arith in
    rw last (omega arith)

cyl_below : (w i : ℕ) → w < 32768 → 0 < 14 - i → bit_at (cyl w) ((i + 1) % 15) ≡ bit_at w i
cyl_below w i p h =
    let next : (i + 1) % 15 ≡ i + 1 = omega arith in
    let half : cyl w / 2 ≡ w % 2 ^ 14 = omega arith in
    rw next (sym (bit_of_half (cyl w) i) ∙ ap (λ (m : ℕ). bit_at m i) half ∙ bit_of_low w 14 i (omega arith))

pub cyl_turns : (w : ℕ) → w < 32768 → CyclesLeft w
cyl_turns w p i q = elim (eq-zero-or-pos (14 - i)) [ inl e ↦ cyl_last w i p q e | inr h ↦ cyl_below w i p h ]

sr_last : (w i : ℕ) → w < 32768 → i < 15 → 14 - i ≡ 0 → bit_at (sr w) i ≡ bit_at w (min (i + 1) 14)
sr_last w i p q e =
    let last : i ≡ 14 = omega arith in
    rw last (omega arith)

sr_below : (w i : ℕ) → 0 < 14 - i → bit_at (sr w) i ≡ bit_at w (min (i + 1) 14)
sr_below w i h =
    let next : min (i + 1) 14 ≡ i + 1 = omega arith in
    rw next (bit_of_half_below w (w / 16384) i (omega arith))

pub sr_shifts : (w : ℕ) → w < 32768 → ShiftsRight w
sr_shifts w p i q = elim (eq-zero-or-pos (14 - i)) [ inl e ↦ sr_last w i p q e | inr h ↦ sr_below w i h ]

bit_of_128th : (n i : ℕ) → bit_at (n / 128) i ≡ bit_at n (i + 7)
bit_of_128th n i =
    let sevenfold : i + 7 ≡ suc (suc (suc (suc (suc (suc (suc i)))))) = omega arith in
    let shift : n / 128 ≡ n / 2 / 2 / 2 / 2 / 2 / 2 / 2 = omega arith in
    rw (sevenfold, shift) (sym (bit_at-suc n _ ∙ bit_at-suc (n / 2) _ ∙ bit_at-suc (n / 2 / 2) _ ∙ bit_at-suc (n / 2 / 2 / 2) _
    ∙ bit_at-suc (n / 2 / 2 / 2 / 2) _ ∙ bit_at-suc (n / 2 / 2 / 2 / 2 / 2) _ ∙ bit_at-suc (n / 2 / 2 / 2 / 2 / 2 / 2) i))

edop_above : (w i : ℕ) → 7 - i ≡ 0 → bit_at (edop w) i ≡ (if nat_lt i 7 then bit_at w (i + 7) else 0)
edop_above w i e =
    let above : bit_at (edop w) i ≡ 0 = bit_at_above (edop w) 7 i (omega arith) (omega arith) in
    let far : 7 ≤ i = omega arith in
    grind (arith, nat_tests, above, far)

edop_below : (w i : ℕ) → 0 < 7 - i → bit_at (edop w) i ≡ (if nat_lt i 7 then bit_at w (i + 7) else 0)
edop_below w i h =
    let here : bit_at (edop w) i ≡ bit_at w (i + 7) = bit_of_low (w / 128) 7 i (omega arith) ∙ bit_of_128th w i in
    let near : i < 7 = omega arith in
    grind (arith, nat_tests, here, near)

pub edop_takes : (w : ℕ) → TakesUpperBits w
edop_takes w i = elim (eq-zero-or-pos (7 - i)) [ inl e ↦ edop_above w i e | inr h ↦ edop_below w i h ]
