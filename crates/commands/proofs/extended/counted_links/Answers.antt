use Rattle.agc_text.specs.Fields.{runs, texts}
use Rattle.commands.proofs.ExtendedLaws.{others-short}
use Rattle.commands.proofs.extended.counted_links.Goals as goal

pub lines_in-requires : goal.lines_in-requires
lines_in-requires c = others-short 80 _ c.in_ok-field.field.now (texts (runs c.in_ok-field.more.now)) c.requires c.in_ok-field.ensures
