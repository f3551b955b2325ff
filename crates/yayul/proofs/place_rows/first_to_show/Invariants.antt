use Rattle.std.proofs.Common.{◌≡◌, ◌<◌, ℕ, false, get_or}
use Rattle.yayul.specs.PlaceRows.{shows}
use Rattle.yayul.specs.Inside.Representation.{shown_by_mark}
use Rattle.yayul.proofs.place_rows.first_to_show.Given as goal

abbrev pub invariant-loop-index : goal.invariant-loop-index
invariant-loop-index l = (k : ℕ) (d : _) → k < l.index → shows l.place (shown_by_mark (get_or l.marks k d)) ≡ false
