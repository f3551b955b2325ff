use Rattle.std.proofs.Common.{refl, arith}
use Rattle.debugger.proofs.Surveyed.{surveyed}
use Rattle.debugger.proofs.survey.survey_bucket.Goals as goal

pub returns-clause-bucket : goal.returns-clause-bucket
returns-clause-bucket g c =
    let it = c.retrace_by-end.ensures in
    (surveyed c.args.session.now.scenario c.args.subjects.now c.args.low c.args.more c.retrace_by-end.result.0 c.retrace_by-end.result.1 _
    c.retrace_by-end.new.stepper
    (omega (arith, it.within, c.requires, c.steps-limited.ensures.value, c.steps-limited.ensures.limit)) it.within it.all refl c.of.ensures
    it.walked).1
