use Rattle.agc_text.specs.Fields.{runs, texts}
use Rattle.commands.proofs.ExtendedLaws.{others-short}
use Rattle.commands.proofs.extended.why_place.Goals as goal

pub why_of-requires-in-None : goal.why_of-requires-in-None
why_of-requires-in-None c = others-short 80 _ c.in_ok-field.field.now (texts (runs c.in_ok-field.more.now)) c.requires c.in_ok-field.ensures
