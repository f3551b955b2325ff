use Rattle.yayul.proofs.Sure.{findings_are_sure}
use Rattle.yayul.proofs.laws.findings_are_sure.Goals as goal

pub returns : goal.returns
returns c = findings_are_sure c.args.language c.args.source.now
