use Rattle.debugger.proofs.Looking.{fits_at}
use Rattle.debugger.proofs.why.begun_at.Goals as goal

pub link_of-cells-requires : goal.link_of-cells-requires
link_of-cells-requires g c = fits_at _ c.args.session.now.scenario c.args.step _ c.in-Ok.ensures.processor c.in-Ok.ensures.shown

pub kind_part-requires : goal.kind_part-requires
kind_part-requires g c = fits_at _ c.args.session.now.scenario c.args.step _ c.in-Ok.ensures.processor c.in-Ok.ensures.shown

pub added_by-requires : goal.added_by-requires
added_by-requires g c = fits_at _ c.args.session.now.scenario c.args.step _ c.in-Ok.ensures.processor c.in-Ok.ensures.shown

pub step_place-requires : goal.step_place-requires
step_place-requires g c = fits_at _ c.args.session.now.scenario c.args.step _ c.in-Ok.ensures.processor c.in-Ok.ensures.shown
