use Rattle.replay.specs.Found.{found_by}
use Rattle.replay.proofs.session.Session.seek_step_on.Goals as goal

pub returns-clause-first : goal.returns-clause-first
returns-clause-first g c = c.search_on.ensures.first (found_by (g.T.StepTest.finds c.args.test.now) c.args.self.now.scenario)
    (λ t r below told. told)
