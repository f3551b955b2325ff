use Rattle.std.proofs.Common.{◌++◌}
use Rattle.std.specs.Prelude.{codes, decimal}
use Rattle.words.proofs.Texts.{append-then}
use Rattle.expect.proofs.verdict.push_counts.Goals as goal

pub returns-clause-items : goal.returns-clause-items
returns-clause-items c = append-then _ _ _ (codes "check: errors " ++ decimal c.args.errors ++ codes ", warnings ")
    (decimal c.args.warnings ++ codes ": ") c.push_number.ensures.items c.push_number-2.ensures.items
