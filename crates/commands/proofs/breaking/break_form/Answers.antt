use Rattle.agc_text.specs.Fields.{runs, texts}
use Rattle.commands.proofs.ExtendedLaws.{others-short}
use Rattle.commands.proofs.breaking.break_form.Goals as goal

pub broken_by-requires : goal.broken_by-requires
broken_by-requires c = others-short 80 _ c.in_ok-kind.kind.now (texts (runs c.in_ok-kind.more.now)) c.requires c.in_ok-kind.ensures
