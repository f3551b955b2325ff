use Rattle.debugger.proofs.Looking.{fits_at}
use Rattle.debugger.proofs.standing.kind_at.Goals as goal

pub kind_part-requires : goal.kind_part-requires
kind_part-requires g c = fits_at _ c.args.session.now.scenario c.args.step _ c.in-Ok.ensures.processor c.in-Ok.ensures.shown
