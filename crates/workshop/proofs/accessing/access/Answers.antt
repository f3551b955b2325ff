use Rattle.std.proofs.Common.{◌≡◌, sym, subst}
use Rattle.access.specs.declared.view.View.{View}
use Rattle.access.specs.Tallies.{Counts}
use Rattle.workshop.proofs.AccessCounts.{counts_some}
use Rattle.workshop.proofs.accessing.access.Goals as goal

pub count-requires-clause-none : goal.count-requires-clause-none
count-requires-clause-none g c =
    let counts = c.in-Ok-new.ensures c.new-processor.result.scenario in
    subst (λ (v : View). Counts v c.new-processor.result.scenario 0 c.in-Ok-new.tally) (sym counts.keeps.same) counts

pub returns-clause-counts : goal.returns-clause-counts
returns-clause-counts g c =
    let counts = c.in-Ok-new.ensures c.new-processor.result.scenario in
    counts_some _ _ _ _ c.in-Some.view _ _ _ (sym c.in-Some.ensures)
    (rw (counts.keeps.same, c.in-Ok.ensures, c.new-processor.ensures.value) at c.count.ensures.counts)
