-- Roots, and their column, worked out by hand.
use Rattle.std.proofs.Common.{◌≡◌, [], ◌∷◌, None, Some, codes, map, refl}
use Rattle.std.specs.Fmt.{digits}
use Rattle.words.specs.Numerals.{octal_text}
use Rattle.space.specs.Places.{window}
use Rattle.yayul.specs.Listing.{place_text}
use Rattle.reach.specs.Named.{named_spot}
use Rattle.reach.specs.Roots.{place_column, place_root, spots_before, vector_places}
use Rattle.reach.specs.Ways.{plain, spot, vectors}

-- the first roots are the vectors
first_roots : map named_spot vector_places ≡ vectors
unfolding vector_places vectors window
first_roots = refl

-- the first root alone leads from its place
before_one : spots_before 1 (place_root (7, 6) ∷ place_root (2, 4) ∷ []) ≡ spot 7 0o2006 plain ∷ []
unfolding spots_before window
before_one = refl

before_two : spots_before 2 (place_root (7, 6) ∷ place_root (2, 4) ∷ []) ≡ spot 7 0o2006 plain ∷ spot 2 0o4004 plain ∷ []
unfolding spots_before window
before_two = refl

-- the column
switched : place_column (Some (7, 6)) ≡ codes "07,2006 "
unfolding place_text octal_text window digits
switched = refl

entry : place_column (Some (2, 4)) ≡ codes "02,4004 "
unfolding place_text octal_text window digits
entry = refl

no_place : place_column None ≡ codes "        "
no_place = refl
