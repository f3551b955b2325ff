use Rattle.std.proofs.Common.{◌∙◌}
use Rattle.replay.specs.Whys.{step_writes}
use Rattle.debugger.proofs.SinceFound.{since_is, writer_since_is}
use Rattle.debugger.proofs.why_since.writer_since.Goals as goal

pub returns-clause-writer : goal.returns-clause-writer
returns-clause-writer g c = λ xs is.
    let scenario = c.args.session.now.scenario in
    c.last_since.ensures.last ∙ since_is (step_writes scenario c.args.cells.now) c.args.since c.args.p
    ∙ writer_since_is scenario c.args.cells.now c.args.since c.args.p xs is
