use Rattle.agc_text.specs.Fields.{runs, texts}
use Rattle.commands.proofs.ExtendedLaws.{others-short}
use Rattle.commands.proofs.extended.lines_in.Goals as goal

pub places_in-requires : goal.places_in-requires
places_in-requires c = others-short 80 _ c.in-Some.field.now (texts (runs c.in-Some.more.now)) c.requires c.in-Some.ensures
