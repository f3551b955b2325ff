use Rattle.debugger.proofs.Looking.{fits_at}
use Rattle.debugger.proofs.desk.Desk.over_end.Goals as goal

pub over_end-requires : goal.over_end-requires
over_end-requires g c = fits_at _ c.args.self.now.session.now.scenario c.args.self.now.position _ c.in-Ok.ensures.processor c.in-Ok.ensures.shown
