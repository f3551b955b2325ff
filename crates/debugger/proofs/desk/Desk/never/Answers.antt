use Rattle.std.proofs.Common.{◌++◌, ◌∙◌, List, ℕ, ap, sym}
use Rattle.std.proofs.lemmas.Result.{err_from_is_err_and}
use Rattle.cpu.specs.State.{Scenario}
use Rattle.debugger.specs.Nevers.{away_text, last_away, later}
use Rattle.debugger.proofs.WhyLines.{first_part, two_parts}
use Rattle.debugger.proofs.NeverFound.{never_cost, never_is}
use Rattle.debugger.proofs.desk.Desk.never.Goals as goal

pub tell_away-requires : goal.tell_away-requires
tell_away-requires g c = c.later.ensures.within _ c.last_away-away.ensures.within

pub returns-in_err-write_all-clause-writes : goal.returns-in_err-write_all-clause-writes
returns-in_err-write_all-clause-writes g c = λ told.
    let symbols = c.args.self.now.symbols.now in
    let scenario = c.args.self.now.session.now.scenario in
    let place = c.args.place.now in
    let p = c.args.self.now.position in
    let away = c.last_away-away.ensures.last ∙ ap (λ (q : Scenario). last_away q place p) c.last_came-came.ensures.looked.scenario in
    let whole = never_is symbols scenario place p c.last_came-came.result c.last_away-away.result c.last_came-came.ensures.last away in
    let rest = away_text symbols scenario place p c.last_came-came.result (later c.last_came-came.result c.last_away-away.result) in
    let first = c.as_slice.ensures.value ∙ c.came_text.ensures.items in
    let failed = err_from_is_err_and c.from_residual.result c.from_residual.ensures.1 in
    rw failed.1 (first_part _ _ c.as_slice.result.now rest _ (sym whole ∙ ap (λ (y : List ℕ). y ++ rest) (sym first))
    (c.in_err-write_all.ensures.written told))

pub returns-clause-writes : goal.returns-clause-writes
returns-clause-writes g c = λ told.
    let symbols = c.args.self.now.symbols.now in
    let scenario = c.args.self.now.session.now.scenario in
    let place = c.args.place.now in
    let p = c.args.self.now.position in
    let near = c.last_came-came.ensures.looked.scenario in
    let scene = c.last_away-away.ensures.looked.scenario ∙ near in
    let away = c.last_away-away.ensures.last ∙ ap (λ (q : Scenario). last_away q place p) near in
    let whole = never_is symbols scenario place p c.last_came-came.result c.last_away-away.result c.last_came-came.ensures.last away in
    let rest = away_text symbols scenario place p c.last_came-came.result (later c.last_came-came.result c.last_away-away.result) in
    let first = c.as_slice.ensures.value ∙ c.came_text.ensures.items in
    two_parts _ _ _ c.as_slice.result.now rest _ _ (sym whole ∙ ap (λ (y : List ℕ). y ++ rest) (sym first))
    (c.in_ok-write_all.ensures.written told)
    (rw (scene, c.later.ensures.later) at (c.tell_away.ensures.writes told))

pub returns-clause-looked : goal.returns-clause-looked
returns-clause-looked g c =
    let came = c.last_came-came.ensures.looked in
    let away = c.last_away-away.ensures.looked in
    let looks = c.tell_away.ensures.looked in
    let told = looks.session in
    record {
      session = record {
        scenario = told.scenario ∙ away.scenario ∙ came.scenario;
        steps = told.steps ∙ away.steps ∙ came.steps;
        cost = never_cost c.args.self.now.session.now.meter _ _ _ c.args.self.now.session.now.n _ _ came.cost away.cost told.cost came.steps
            away.steps;
      };
      position = looks.position;
      breakpoints = looks.breakpoints;
      quiet = looks.quiet;
      same = record {
        lent = looks.same.lent;
        symbols = looks.same.symbols;
        rows = looks.same.rows;
        first = looks.same.first;
      };
    }
