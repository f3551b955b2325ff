use Rattle.std.proofs.Common.{◌≡◌, ◌-◌, refl, rules}
use Rattle.commands.specs.declared.command.Command.TheVariants.{Back}
use Rattle.commands.specs.declared.command.ParsedLine.TheVariants.{Known}
use Rattle.debugger.specs.History.{history}
use Rattle.debugger.specs.Replies.{answer, reply}
use Rattle.debugger.proofs.Looking.{brings_text}
use Rattle.debugger.proofs.desk.Desk.back.Goals as goal

pub returns-clause-brings : goal.returns-clause-brings
unfolding answer reply history
returns-clause-brings g c =
    let p : c.saturating_sub-self.result ≡ c.args.self.now.position - c.args.steps = search rules in
    brings_text c.args.manner c.args.self.now.session.now c.show.follows.lender-at-none c.args.self.now.position c.saturating_sub-self.result
    c.args.self.now.breakpoints c.args.self.now.breakpoints c.args.self.now.quiet (Known (Back c.args.steps)) c.at_line.result.items
    c.show.follows.holds-at-none.same
    (λ answers additions. rw (c.at_line.ensures, c.in-Ok.ensures.shown, p) refl)
