use Rattle.agc_text.specs.Fields.{runs, texts}
use Rattle.commands.proofs.ExtendedLaws.{others-short}
use Rattle.commands.proofs.extended.why_since.Goals as goal

pub since_of-requires-in-None : goal.since_of-requires-in-None
since_of-requires-in-None c = others-short 80 _ c.in_ok-field.field.now (texts (runs c.in_ok-field.more.now)) c.requires
    c.in_ok-field.ensures
