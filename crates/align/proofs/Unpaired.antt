-- Where nothing is paired all is right.
use Rattle.std.proofs.Common.{◌≡◌, ℕ, zero, suc, true, None, replicate, refl}
use Rattle.rope.specs.Places.{fixed_places}
use Rattle.align.specs.Pairings.{Entries, at, is_right, is_right_at, is_right_before, pairing}

-- no place of no pairs has one
at_none : (n place : ℕ) → at (replicate n None) place ≡ None
at_none zero place = refl
at_none (suc n) zero = refl
at_none (suc n) (suc place) = at_none n place

right_before : (least m n : ℕ) (own old new : Entries)
    → is_right_before least (pairing own old new (replicate m None) (replicate m None)) n ≡ true
unfolding is_right_before is_right_at
right_before least m zero own old new = refl
right_before least m (suc n) own old new = rw (at_none m n, right_before least m n own old new) refl

pub nothing_is_right : (least m : ℕ) (own old new to_old to_new : Entries) → to_old ≡ replicate m None → to_new ≡ replicate m None
    → is_right least (pairing own old new to_old to_new) ≡ true
nothing_is_right least m own old new to_old to_new e f = rw (e, f) (right_before least m fixed_places own old new)
