use Rattle.std.proofs.Common.{◌≡◌, ◌++◌, length}
use Rattle.agc_text.specs.Lines.{lines}
use Rattle.included.specs.Located.{located_listing, rows_from}
use Rattle.included.proofs.listings.located_listing.Given as goal

abbrev pub invariant-loop-line : goal.invariant-loop-line
invariant-loop-line l =
    l.out.items ++ rows_from l.joined l.width l.section (lines l.rest) ≡ located_listing l.joined l.listing

abbrev pub decreases-loop-line : goal.decreases-loop-line
decreases-loop-line l = length l.rest
