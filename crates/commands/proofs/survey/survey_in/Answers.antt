use Rattle.agc_text.specs.Fields.{runs, texts}
use Rattle.commands.proofs.ExtendedLaws.{others-short}
use Rattle.commands.proofs.survey.survey_in.Goals as goal

pub subjects_in-requires : goal.subjects_in-requires
subjects_in-requires c =
    let after_first = others-short 80 _ c.in_ok-first.first.now (texts (runs c.in_ok-first.rest.now)) c.requires c.in_ok-first.ensures in
    let after_last = others-short 80 _ c.in_ok-last.last.now (texts (runs c.in_ok-last.rest.now)) after_first c.in_ok-last.ensures in
    others-short 80 _ c.in_ok-buckets.buckets.now (texts (runs c.in_ok-buckets.rest.now)) after_last c.in_ok-buckets.ensures
