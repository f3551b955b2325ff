use Rattle.agc_text.specs.Fields.{runs, texts}
use Rattle.commands.proofs.ExtendedLaws.{others-short}
use Rattle.commands.proofs.extended.since_in.Goals as goal

pub count_alone-requires : goal.count_alone-requires
count_alone-requires c = others-short 80 _ c.in_ok-field.field.now (texts (runs c.in_ok-field.more.now)) c.requires c.in_ok-field.ensures
