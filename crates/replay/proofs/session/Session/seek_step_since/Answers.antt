use Rattle.replay.specs.Found.{found_by}
use Rattle.replay.proofs.session.Session.seek_step_since.Goals as goal

pub returns-clause-last : goal.returns-clause-last
returns-clause-last g c = c.search.ensures.last (found_by (g.T.StepTest.finds c.args.test.now) c.args.self.now.scenario)
    (λ t r below told. told)
