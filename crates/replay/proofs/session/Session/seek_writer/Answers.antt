use Rattle.std.proofs.Common.{◌≡◌, ◌∙◌}
use Rattle.replay.specs.Found.{found_if}
use Rattle.replay.specs.LastHit.{last_hit}
use Rattle.replay.specs.Whys.{step_writes}
use Rattle.replay.proofs.FoundLemmas.{sought_before}
use Rattle.replay.proofs.WhyLemmas.{writer_is}
use Rattle.replay.proofs.session.Session.seek_writer.Goals as goal

pub returns-clause-last : goal.returns-clause-last
returns-clause-last g c =
    let writes = step_writes c.args.self.now.scenario c.args.cells.now in
    c.step_of.ensures ∙ sought_before writes c.args.p c.search.result
    (c.search.ensures.last (λ t. found_if (writes t)) (λ t r below told. told))

pub returns-clause-writer : goal.returns-clause-writer
returns-clause-writer g c =
    let writes = step_writes c.args.self.now.scenario c.args.cells.now in
    let last : c.step_of.result ≡ last_hit writes c.args.p = c.step_of.ensures ∙ sought_before writes c.args.p c.search.result
    (c.search.ensures.last (λ t. found_if (writes t)) (λ t r below told. told)) in
    writer_is c.args.self.now.scenario c.args.cells.now c.args.p c.step_of.result last

pub returns-clause-after : goal.returns-clause-after
returns-clause-after g c = rw c.step_of.ensures c.search.ensures.after
