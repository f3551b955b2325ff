use Rattle.agc_text.specs.Fields.{runs, texts}
use Rattle.commands.proofs.ExtendedLaws.{others-short}
use Rattle.commands.proofs.refusal.erasable_field.Goals as goal

pub erasable_breakpoint_field-requires : goal.erasable_breakpoint_field-requires
erasable_breakpoint_field-requires c = others-short 80 _ c.in_ok-first.first.now (texts (runs c.in_ok-first.rest.now)) c.requires
    c.in_ok-first.ensures
