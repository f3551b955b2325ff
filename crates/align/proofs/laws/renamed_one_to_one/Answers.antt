use Rattle.align.proofs.Renames.{one_to_one}
use Rattle.align.proofs.laws.renamed_one_to_one.Goals as goal

pub returns : goal.returns
returns c = one_to_one c.args.names.now c.args.back.now
