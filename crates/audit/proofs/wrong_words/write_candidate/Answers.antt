use Rattle.std.proofs.Common.{◌∙◌, sym, arith}
use Rattle.audit.specs.BankFacts.{mends}
use Rattle.audit.proofs.Folds.{count_there, count_passed}
use Rattle.audit.proofs.wrong_words.write_candidate.Goals as goal

pub returns-then-not-mends-clause-count : goal.returns-then-not-mends-clause-count
returns-then-not-mends-clause-count g c =
    let same = count_passed (mends c.args.image.now c.args.turned c.args.bank) c.args.bit (sym c.mends.ensures ∙ c.if-not-mends.true) in
    omega (arith, same, c.requires.before)

pub returns-clause-count : goal.returns-clause-count
returns-clause-count g c =
    let more = count_there (mends c.args.image.now c.args.turned c.args.bank) c.args.bit (sym c.mends.ensures ∙ c.if-not-mends.false) in
    omega (arith, more, c.requires.before)
