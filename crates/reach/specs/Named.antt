-- What is reached from places that a program names as addresses, beside other roots.
use Rattle.std.specs.Prelude.{ℕ, List, ◌++◌, map}
use Rattle.space.specs.Places.{window}
use Rattle.space.specs.declared.place.Linear.TheVariants as linear
use Rattle.reach.specs.declared.spot.Spot.{Spot}
use Rattle.reach.specs.Ways.{plain, spot}

-- the spot of a place of fixed memory, by its bank and its offset: the word there, executed at the address at which a program reaches it
abbrev pub named_spot : ℕ × ℕ → Spot
named_spot p = spot p.0 (window (linear.Fixed p.0 p.1)) plain

-- those of some places, and some roots
abbrev pub with_named : List (ℕ × ℕ) → List Spot → List Spot
with_named places roots = map named_spot places ++ roots
