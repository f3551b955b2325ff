use Rattle.std.proofs.Common.{None}
use Rattle.debugger.proofs.NeverFound.{came_found}
use Rattle.debugger.proofs.never.last_came.Goals as goal

pub returns-in-Some-clause-last : goal.returns-in-Some-clause-last
returns-in-Some-clause-last g c = came_found c.args.session.now.scenario c.args.place.now c.args.position _ c.in-Some.ensures.last

pub returns-in-None-clause-last : goal.returns-in-None-clause-last
returns-in-None-clause-last g c = came_found c.args.session.now.scenario c.args.place.now c.args.position None c.in-None.ensures.last
