use Rattle.std.proofs.Common.{sym}
use Rattle.replay.specs.Stops.{is_by_watcher}
use Rattle.replay.proofs.WalkedLemmas.{watched_by, if_ok}
use Rattle.replay.proofs.session.Session.advance.Goals as goal

pub returns-clause-watched : goal.returns-clause-watched
returns-clause-watched g c = if_ok c.advance_by.result _ _
    (λ stop walked.
    (let both = watched_by g.W.Watcher.sees c.args.self.now.scenario c.args.self.now.n c.advance_by.new.self.n (is_by_watcher stop) _
    c.advance_by.new.stepper walked in
    rw (c.watcher-1.given.1 (sym both.0)) both.1)) c.advance_by.ensures.walked
