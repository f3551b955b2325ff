use Rattle.agc_text.specs.Fields.{runs, texts}
use Rattle.commands.proofs.ExtendedLaws.{others-short}
use Rattle.commands.proofs.refusal.place_field.Goals as goal

pub breakpoint_place_field-requires : goal.breakpoint_place_field-requires
breakpoint_place_field-requires c = others-short 80 _ c.in_ok-first.first.now (texts (runs c.in_ok-first.rest.now)) c.requires
    c.in_ok-first.ensures
