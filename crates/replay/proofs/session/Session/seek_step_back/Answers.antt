use Rattle.std.proofs.Common.{◌≡◌, ◌-◌, ◌∙◌, ap, arith}
use Rattle.replay.specs.Found.{found_by, last_between}
use Rattle.replay.proofs.FoundLemmas.{from_zero}
use Rattle.replay.proofs.session.Session.seek_step_back.Goals as goal

pub returns-clause-last : goal.returns-clause-last
returns-clause-last g c =
    let find = found_by (g.T.StepTest.finds c.args.test.now) c.args.self.now.scenario in
    let all : c.args.p - 0 ≡ c.args.p = omega arith in
    c.search.ensures.last find (λ t r below told. told) ∙ ap (last_between find 0) all ∙ from_zero find c.args.p
