use Rattle.agc_text.specs.Fields.{runs, texts}
use Rattle.commands.proofs.ExtendedLaws.{first-short, others-short}
use Rattle.commands.proofs.refusal.number_not_octal.Goals as goal

pub first_not_octal-requires : goal.first_not_octal-requires
first_not_octal-requires c = others-short 80 _ c.in_ok-first.first.now (texts (runs c.in_ok-first.more.now)) c.requires
    c.in_ok-first.ensures

pub returns-in-Some-clause-short : goal.returns-in-Some-clause-short
returns-in-Some-clause-short c =
    let after_first = others-short 80 _ c.in_ok-first.first.now (texts (runs c.in_ok-first.more.now)) c.requires c.in_ok-first.ensures in
    first-short 80 _ c.in-Some.next.now (texts (runs c.in-Some.field-0-1.now)) after_first c.in-Some.ensures
