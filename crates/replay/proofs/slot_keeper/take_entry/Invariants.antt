use Rattle.std.proofs.Common.{◌≡◌, ◌≢◌, ◌+◌, ◌<◌, length, get_or}
use Rattle.std.specs.List.{AllWithin, remove}
use Rattle.replay.proofs.slot_keeper.take_entry.Given as goal

abbrev pub invariant-loop-at : goal.invariant-loop-at
invariant-loop-at l = record {
  low : l.place < length l.fn.entries.items;
  entry : (l.at, l.slot) ≡ get_or l.fn.entries.items l.place (l.at, l.slot);
  items : l.entries.items ≡ remove l.fn.entries.items l.place;
  later : AllWithin (λ m. m.0 ≢ l.step) l.fn.entries.items (l.place + 1) (length l.fn.entries.items);
}

abbrev pub decreases-loop-at : goal.decreases-loop-at
decreases-loop-at l = l.place
