use Rattle.std.proofs.Common.{refl}
use Rattle.commands.specs.declared.command.Command.TheVariants.{Registers}
use Rattle.commands.specs.declared.command.ParsedLine.TheVariants.{Known}
use Rattle.debugger.specs.History.{history}
use Rattle.debugger.specs.Replies.{answer, reply}
use Rattle.debugger.proofs.Looking.{brings_text}
use Rattle.debugger.proofs.desk.Desk.registers.Goals as goal

pub returns-clause-brings : goal.returns-clause-brings
unfolding answer reply history
returns-clause-brings g c =
    λ m. brings_text m c.args.self.now.session.now c.with_present.follows.lender-at-none c.args.self.now.position c.args.self.now.position
    c.args.self.now.breakpoints c.args.self.now.breakpoints c.args.self.now.quiet (Known Registers) c.registers_text.result.items
    c.with_present.follows.holds-at-none.same
    (λ answers additions. rw (c.registers_text.ensures, c.in-Ok.ensures.shown, c.in-Ok.ensures.processor) refl)
