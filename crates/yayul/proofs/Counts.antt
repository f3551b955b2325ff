-- A line from which no byte is taken as a count has none.
use Rattle.std.proofs.Common.{◌≡◌, ◌-◌, ℕ, zero, suc, Bool, true, false, List, [], ◌∷◌, Option, None, Some, drop, length, refl, arith}
use Rattle.std.proofs.lemmas.List.{length-drop}
use Rattle.std.specs.Prelude.{if◌then◌else◌}
use Rattle.agc_text.specs.Fields.{Piece}
use Rattle.yayul.specs.Flight.{after_field, first_field, is_count, uncounted, without_count}

dropped_none : (n : ℕ) (text : List ℕ) → length (drop n text) ≡ length text → drop n text ≡ text
dropped_none zero text same = refl
dropped_none (suc n) [] same = refl
dropped_none (suc n) (byte ∷ bytes) same =
    let left : length (drop (suc n) (byte ∷ bytes)) ≡ length (byte ∷ bytes) - suc n = length-drop (suc n) (byte ∷ bytes) in
    absurd (omega (arith, left, same))

pub uncounted_same : (text : List ℕ) → length (uncounted text) ≡ length text → uncounted text ≡ text
uncounted_same text same = by_first (first_field text) same
  where
    by_count : (first : Piece) (b : Bool) → length (if b then after_field text first else text) ≡ length text
        → (if b then after_field text first else text) ≡ text
    by_count first true same = dropped_none _ text same
    by_count first false same = refl

    by_first : (first : Option Piece) → length (without_count text first) ≡ length text → without_count text first ≡ text
    by_first None same = refl
    by_first (Some first) same = by_count first (is_count first.text) same
