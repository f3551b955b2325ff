use Rattle.std.proofs.Common.{◌≡◌, ◌∙◌, true, sym, ap}
use Rattle.std.proofs.lemmas.Result.{err_from_is_err_and}
use Rattle.words.proofs.Texts.{Writes-after, beginning-longer}
use Rattle.cpu.specs.Run.{run}
use Rattle.cpu.specs.State.{Scenario}
use Rattle.debugger.specs.Standing.{entered_text, inside_text, where_text}
use Rattle.debugger.specs.Whys.{last_outside}
use Rattle.debugger.proofs.desk.Desk.tell_where.Goals as goal

pub returns-in_err-tell_standing-clause-writes : goal.returns-in_err-tell_standing-clause-writes
unfolding where_text
returns-in_err-tell_standing-clause-writes g c = λ told.
    let failed = err_from_is_err_and c.from_residual.result c.from_residual.ensures.1 in
    rw failed.1 (beginning-longer _ _ _ (inside_text c.args.self.now.symbols.now c.args.self.now.session.now.scenario c.args.self.now.position)
    (c.in_err-tell_standing.ensures.writes told))

pub returns-then-branch-clause-writes : goal.returns-then-branch-clause-writes
unfolding where_text run
returns-then-branch-clause-writes g c = λ told.
    let scenario = c.args.self.now.session.now.scenario in
    let p = c.args.self.now.position in
    let inside : (run scenario p).inside ≡ true = sym c.in_ok-tell_standing.ensures.inside ∙ c.if-branch.true in
    let looks = c.tell_standing.ensures.looked in
    let entered = c.as_slice.ensures.value ∙ rw (looks.position, looks.same.symbols) at c.entered_text.ensures.text
    ∙ ap (λ (q : Scenario). entered_text c.args.self.now.symbols.now q (last_outside q p)) looks.session.scenario in
    rw inside (Writes-after _ _ _ _ _ c.write_all.result (c.in_ok-tell_standing.ensures.writes told)
    (rw entered at (c.write_all.ensures.written told)))
