use Rattle.std.proofs.Common.{refl}
use Rattle.commands.specs.declared.extended.ExtendedLine.TheVariants.{AllRegisters}
use Rattle.debugger.specs.ExtendedReplies.{extended_reply}
use Rattle.debugger.proofs.Looking.{asked_text}
use Rattle.debugger.proofs.desk.Desk.all_registers.Goals as goal

pub returns-clause-brings : goal.returns-clause-brings
unfolding extended_reply
returns-clause-brings g c =
    asked_text c.args.self.now.session.now c.show.follows.lender-at-none c.args.self.now.position c.args.self.now.position
    c.args.self.now.breakpoints c.args.self.now.breakpoints c.args.self.now.quiet AllRegisters c.all_registers_text.result.items
    c.show.follows.holds-at-none.same
    (λ symbols answers additions. rw (c.all_registers_text.ensures, c.in-Ok.ensures.shown) refl)
