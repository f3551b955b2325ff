use Rattle.std.proofs.Common.{◌∙◌, ap}
use Rattle.replay.specs.Found.{found_if}
use Rattle.replay.proofs.FoundLemmas.{sought_before}
use Rattle.replay.proofs.session.Session.seek_back.Goals as goal

pub returns-clause-last : goal.returns-clause-last
returns-clause-last g c = λ is_hit answers. c.step_of.ensures
    ∙ sought_before is_hit c.args.p c.search.result (c.search.ensures.last (λ t. found_if (is_hit t))
    (λ t r below told. told.2 ∙ ap found_if (answers t told.0 below told.1)))

pub returns-clause-after : goal.returns-clause-after
returns-clause-after g c = rw c.step_of.ensures c.search.ensures.after
