use Rattle.std.proofs.Common.{◌≡◌, drop}
use Rattle.origins.specs.Gathering.{with_words}
use Rattle.origins.proofs.gathered.note_words.Given as goal

abbrev pub invariant-loop-spot : goal.invariant-loop-spot
invariant-loop-spot l = with_words l.number (drop l.spot-index l.spots) l.table ≡ with_words l.number l.spots l.initial.table
