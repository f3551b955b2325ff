use Rattle.std.proofs.Common.{◌≡◌, true, ltb, refl}
use Rattle.commands.specs.declared.command.Command.TheVariants.{Changed}
use Rattle.commands.specs.declared.command.ParsedLine.TheVariants.{Known}
use Rattle.debugger.specs.Replies.{answer, reply}
use Rattle.debugger.proofs.Looking.{brings_text, changed_since, looked_at, is_later}
use Rattle.debugger.proofs.desk.Desk.changed.Goals as goal

pub returns-in-Ok-clause-brings : goal.returns-in-Ok-clause-brings
unfolding answer reply
returns-in-Ok-clause-brings g c =
    λ m. brings_text m c.args.self.now.session.now c.with_present.follows.lender-at-none c.args.self.now.position c.args.self.now.position
    c.args.self.now.breakpoints c.args.self.now.breakpoints c.args.self.now.quiet (Known (Changed c.args.step)) c.changed_text.result.items
    c.with_present.follows.holds-at-none.same
    (changed_since c.args.self.now.session.now c.args.self.now.position c.args.step c.args.self.now.breakpoints c.args.self.now.quiet c.in-Ok.machine.now
    c.in-Ok.present.now c.store.result.now c.store-in-Ok.result.now c.changed_text.result.items
    (c.in-Ok.ensures.ok.0 refl) c.in-Ok.ensures.shown c.in-Ok.ensures.present c.store.ensures c.store-in-Ok.ensures c.changed_text.ensures)

pub returns-in-Ok-clause-looked : goal.returns-in-Ok-clause-looked
returns-in-Ok-clause-looked g c =
    record {
      session = looked_at c.args.self.now.session.now c.with_present.follows.lender-at-none c.args.step
          c.with_present.follows.holds-at-none (c.in-Ok.ensures.ok.0 refl);
      position = refl;
      breakpoints = refl;
      quiet = refl;
      same = record { lent = refl; symbols = refl; rows = refl; first = refl };
    }

pub returns-in-Err-clause-brings : goal.returns-in-Err-clause-brings
unfolding answer reply
returns-in-Err-clause-brings g c =
    let past : ltb c.args.self.now.session.now.n c.args.step
    ≡ true = is_later c.args.step c.args.self.now.session.now.n (λ h. (let e = c.in-Err.ensures.ok.1 h in cc)) in
    λ m. brings_text m c.args.self.now.session.now c.with_present.follows.lender-at-none c.args.self.now.position c.args.self.now.position
    c.args.self.now.breakpoints c.args.self.now.breakpoints c.args.self.now.quiet (Known (Changed c.args.step)) c.not_yet.result.items
    c.with_present.follows.holds-at-none.same
    (λ answers additions. rw (past, c.not_yet.ensures) refl)
