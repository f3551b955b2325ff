use Rattle.std.proofs.Common.{Some, None, ap, ◌∙◌, refl}
use Rattle.replay.specs.View.{SessionView}
use Rattle.debugger.proofs.WayFound.{way_found, way_is}
use Rattle.debugger.proofs.ways.tell_way.Goals as goal

pub returns-in-Some-clause-writes : goal.returns-in-Some-clause-writes
returns-in-Some-clause-writes g c = λ told.
    let scenario = c.args.session.now.scenario in
    let seen = c.is_inside-inside.ensures in
    let scene = ap (λ (v : SessionView). v.scenario) c.in-Some.ensures.after.same ∙ seen.looked.scenario in
    let found = way_found scenario _ c.args.position _ _ seen.inside seen.looked.scenario c.in-Some.ensures.last in
    rw (← way_is c.args.symbols.now scenario _ c.args.position (Some c.in-Some.step) scene found) (c.tell_choice.ensures.writes told)

pub returns-in-None-clause-writes : goal.returns-in-None-clause-writes
returns-in-None-clause-writes g c = λ told.
    let scenario = c.args.session.now.scenario in
    let seen = c.is_inside-inside.ensures in
    let found = way_found scenario _ c.args.position _ _ seen.inside seen.looked.scenario c.in-None.ensures.last in
    rw (← way_is c.args.symbols.now scenario scenario c.args.position None refl found) (c.write_all.ensures.written told)
