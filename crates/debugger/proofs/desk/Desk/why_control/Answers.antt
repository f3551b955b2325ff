use Rattle.std.proofs.Common.{Some, None, false, ap, ◌∙◌}
use Rattle.replay.specs.View.{SessionView}
use Rattle.origins.specs.Following.{CellSet, cells_of}
use Rattle.debugger.specs.Whys.{end_text, subject_spots}
use Rattle.debugger.proofs.WayFound.{control_is}
use Rattle.debugger.proofs.desk.Desk.why_control.Goals as goal

pub returns-in-Some-clause-writes : goal.returns-in-Some-clause-writes
returns-in-Some-clause-writes g c = λ told.
    let scenario = c.args.self.now.session.now.scenario in
    let xs = subject_spots c.args.subject in
    let found = c.in-Some.ensures.writer xs c.subject_cells-cells.ensures in
    let scene = ap (λ (v : SessionView). v.scenario) c.in-Some.ensures.after.same in
    rw (← control_is c.args.self.now.symbols.now scenario c.args.self.now.position xs (Some c.in-Some.step) found)
    (rw scene at (c.tell_way.ensures.writes told))

pub returns-in-None-clause-writes : goal.returns-in-None-clause-writes
returns-in-None-clause-writes g c = λ told.
    let scenario = c.args.self.now.session.now.scenario in
    let xs = subject_spots c.args.subject in
    let found = c.in-None.ensures.writer xs c.subject_cells-cells.ensures in
    let ends = c.as_slice.ensures.value ∙ c.end_text.ensures
    ∙ ap (λ (cells : CellSet). end_text c.args.self.now.symbols.now false (cells_of cells)) c.subject_cells-cells.ensures in
    rw (← control_is c.args.self.now.symbols.now scenario c.args.self.now.position xs None found)
    (rw ends at (c.write_all.ensures.written told))
