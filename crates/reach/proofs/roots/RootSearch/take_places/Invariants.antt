use Rattle.std.proofs.Common.{◌++◌, List, map, take}
use Rattle.reach.specs.Inside.Rooted.{AreRooted}
use Rattle.reach.specs.Inside.Seen.{Agree}
use Rattle.reach.specs.Roots.{WayRoot, place_root}
use Rattle.reach.proofs.roots.RootSearch.take_places.Given as goal

abbrev pub invariant-loop-place : goal.invariant-loop-place
invariant-loop-place l = record {
  agree : Agree l.self.marks l.self.order;
  rooted : (roots : List WayRoot) → AreRooted l.rope roots l.initial.self
      → AreRooted l.rope (roots ++ map place_root (take l.place-index l.places)) l.self;
}
