use Rattle.std.proofs.Common.{◌-◌, refl, ap, arith}
use Rattle.replay.specs.View.{SessionView}
use Rattle.debugger.proofs.Retraced.{traced}
use Rattle.debugger.proofs.desk.Desk.trace.Goals as goal

pub returns-clause-writes : goal.returns-clause-writes
returns-clause-writes g c = λ told.
    rw (traced c.args.form c.args.self.now.symbols.now c.args.self.now.session.now.scenario c.args.self.now.position c.args.steps c.min-count.result
    (c.args.self.now.position - c.min-count.result) (omega (arith, c.min-count.ensures)) refl) at (c.retrace.ensures.written told)

pub returns-clause-looked : goal.returns-clause-looked
returns-clause-looked g c =
    let after = c.retrace.ensures.after in
    record {
      session = record {
        scenario = ap (λ (v : SessionView). v.scenario) after.same;
        steps = ap (λ (v : SessionView). v.n) after.same;
        cost = omega (arith, after.most, c.min-count.ensures);
      };
      position = refl;
      breakpoints = refl;
      quiet = refl;
      same = record { lent = refl; symbols = refl; rows = refl; first = refl };
    }
