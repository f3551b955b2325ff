use Rattle.debugger.proofs.Looking.{fits_at}
use Rattle.debugger.proofs.ways.choice_at.Goals as goal

pub chosen_by-spots-requires : goal.chosen_by-spots-requires
chosen_by-spots-requires g c = fits_at _ c.args.session.now.scenario c.args.step _ c.in-Ok.ensures.processor c.in-Ok.ensures.shown

pub kind_part-requires : goal.kind_part-requires
kind_part-requires g c = fits_at _ c.args.session.now.scenario c.args.step _ c.in-Ok.ensures.processor c.in-Ok.ensures.shown

pub added_by-requires : goal.added_by-requires
added_by-requires g c = fits_at _ c.args.session.now.scenario c.args.step _ c.in-Ok.ensures.processor c.in-Ok.ensures.shown
