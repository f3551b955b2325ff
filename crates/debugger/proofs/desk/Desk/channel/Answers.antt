use Rattle.std.proofs.Common.{refl}
use Rattle.commands.specs.declared.command.Command.TheVariants.{Channel}
use Rattle.commands.specs.declared.command.ParsedLine.TheVariants.{Known}
use Rattle.debugger.specs.History.{history}
use Rattle.debugger.specs.Replies.{answer, reply}
use Rattle.debugger.proofs.Looking.{brings_text}
use Rattle.debugger.proofs.desk.Desk.channel.Goals as goal

pub returns-clause-brings : goal.returns-clause-brings
unfolding answer reply history
returns-clause-brings g c =
    λ m. brings_text m c.args.self.now.session.now c.show.follows.lender-at-none c.args.self.now.position c.args.self.now.position
    c.args.self.now.breakpoints c.args.self.now.breakpoints c.args.self.now.quiet (Known (Channel c.args.channel)) c.word_line.result.items
    c.show.follows.holds-at-none.same
    (λ answers additions. rw (c.word_line.ensures, c.correct.ensures, c.channel.ensures, c.in-Ok.ensures.shown) refl)
