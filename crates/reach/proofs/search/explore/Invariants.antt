use Rattle.std.proofs.Common.{◌≡◌, ℕ, ◌+◌, ◌-◌, ◌*◌, ◌≤◌, List, length, take}
use Rattle.reach.specs.declared.spot.Spot.{Spot}
use Rattle.reach.specs.Inside.Seen.{Agree, Explored, unmarked}
use Rattle.reach.proofs.search.explore.Given as goal

abbrev pub invariant-loop-done : goal.invariant-loop-done
invariant-loop-done l = record {
  agree : Agree l.marks l.order.items;
  longer : length l.initial.order.items ≤ length l.order.items;
  stays : (n : ℕ) → n ≤ length l.initial.order.items → take n l.order.items ≡ take n l.initial.order.items;
  explored : (roots : List Spot) → Explored l.rope roots l.initial.marks l.initial.order.items l.first
      → Explored l.rope roots l.marks l.order.items l.done;
}

abbrev pub decreases-loop-done : goal.decreases-loop-done
decreases-loop-done l = 2 * unmarked l.marks + length l.order.items - l.done
