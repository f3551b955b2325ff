use Rattle.agc_text.specs.Fields.{runs, texts}
use Rattle.commands.proofs.ExtendedLaws.{others-short}
use Rattle.commands.proofs.survey.subject_then.Goals as goal

pub returns-in-Some-channel_subject-clause-short : goal.returns-in-Some-channel_subject-clause-short
returns-in-Some-channel_subject-clause-short c = others-short 80 _ c.in_ok-field.field.now (texts (runs c.in_ok-field.more.now)) c.requires
    c.in_ok-field.ensures
