use Rattle.std.proofs.Common.{◌≡◌, ◌≤◌, true, false, ltb, refl}
use Rattle.commands.specs.declared.command.Command.TheVariants.{Goto}
use Rattle.commands.specs.declared.command.ParsedLine.TheVariants.{Known}
use Rattle.debugger.specs.History.{history}
use Rattle.debugger.specs.Replies.{answer, reply}
use Rattle.debugger.proofs.Looking.{brings_text, not_later, is_later}
use Rattle.debugger.proofs.desk.Desk.goto.Goals as goal

pub returns-in-Ok-clause-brings : goal.returns-in-Ok-clause-brings
unfolding answer reply history
returns-in-Ok-clause-brings g c =
    let past : c.args.step ≤ c.args.self.now.session.now.n = c.in-Ok.ensures.ok.0 refl in
    let here : ltb c.args.self.now.session.now.n c.args.step ≡ false = not_later c.args.step c.args.self.now.session.now.n past in
    brings_text c.args.manner c.args.self.now.session.now c.show.follows.lender-at-none c.args.self.now.position c.args.step
    c.args.self.now.breakpoints c.args.self.now.breakpoints c.args.self.now.quiet (Known (Goto c.args.step)) c.at_line.result.items
    c.show.follows.holds-at-none.same
    (λ answers additions. rw (here, c.at_line.ensures, c.in-Ok.ensures.shown) refl)

pub returns-in-Err-clause-brings : goal.returns-in-Err-clause-brings
unfolding answer reply history
returns-in-Err-clause-brings g c =
    let past : ltb c.args.self.now.session.now.n c.args.step
    ≡ true = is_later c.args.step c.args.self.now.session.now.n (λ h. (let e = c.in-Err.ensures.ok.1 h in cc)) in
    brings_text c.args.manner c.args.self.now.session.now c.show.follows.lender-at-none c.args.self.now.position c.args.self.now.position
    c.args.self.now.breakpoints c.args.self.now.breakpoints c.args.self.now.quiet (Known (Goto c.args.step)) c.text_line.result.items
    c.show.follows.holds-at-none.same
    (λ answers additions. rw (past, c.text_line.ensures.items) refl)
