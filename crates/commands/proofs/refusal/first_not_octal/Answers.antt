use Rattle.agc_text.specs.Fields.{runs, texts}
use Rattle.commands.proofs.ExtendedLaws.{first-short, others-short}
use Rattle.commands.proofs.refusal.first_not_octal.Goals as goal

pub returns-then-is_no_octal-2-clause-short : goal.returns-then-is_no_octal-2-clause-short
returns-then-is_no_octal-2-clause-short c =
    let after_first = others-short 80 _ c.in_ok-first.first.now (texts (runs c.in_ok-first.rest.now)) c.requires c.in_ok-first.ensures in
    first-short 80 _ c.in_ok-second.second.now (texts (runs c.in_ok-second.rest.now)) after_first c.in_ok-second.ensures

pub returns-in-Some-clause-short : goal.returns-in-Some-clause-short
returns-in-Some-clause-short c =
    let after_first = others-short 80 _ c.in_ok-first.first.now (texts (runs c.in_ok-first.rest.now)) c.requires c.in_ok-first.ensures in
    let after_second = others-short 80 _ c.in_ok-second.second.now (texts (runs c.in_ok-second.rest.now)) after_first c.in_ok-second.ensures
    in
    first-short 80 _ c.in-Some.third.now (texts (runs c.in-Some.field-0-1.now)) after_second c.in-Some.ensures
