use Rattle.agc_text.specs.Fields.{runs, texts}
use Rattle.commands.proofs.ExtendedLaws.{others-short}
use Rattle.commands.proofs.extended.stepped_in.Goals as goal

pub is_sole-requires-2 : goal.is_sole-requires-2
is_sole-requires-2 c = others-short 80 _ c.in_ok-field.field.now (texts (runs c.in_ok-field.more.now)) c.requires c.in_ok-field.ensures
