-- Roots that a program names, worked out by hand.
use Rattle.std.proofs.Common.{◌≡◌, [], ◌∷◌, refl}
use Rattle.space.specs.Places.{window}
use Rattle.reach.specs.Named.{named_spot, with_named}
use Rattle.reach.specs.Ways.{plain, spot}

-- a place of a switched bank, and places of banks 2 and 3, at the addresses at which a program reaches them
in_bank : named_spot (0o43, 0o5) ≡ spot 0o43 0o2005 plain
unfolding window
in_bank = refl

in_bank_two : named_spot (2, 0o111) ≡ spot 2 0o4111 plain
unfolding window
in_bank_two = refl

in_bank_three : named_spot (3, 0) ≡ spot 3 0o6000 plain
unfolding window
in_bank_three = refl

-- they stand before the other roots
before_roots : with_named ((7, 1) ∷ []) (spot 2 0o4000 plain ∷ []) ≡ spot 7 0o2001 plain ∷ spot 2 0o4000 plain ∷ []
unfolding window
before_roots = refl
