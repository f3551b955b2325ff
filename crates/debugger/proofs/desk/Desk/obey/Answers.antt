use Rattle.std.proofs.Common.{ap, refl}
use Rattle.commands.specs.declared.command.ParsedLine.TheVariants.{Known}
use Rattle.debugger.specs.History.{history}
use Rattle.debugger.specs.Replies.{answer, reply}
use Rattle.debugger.proofs.WholeReplies.{executes-text, executes-adding, executes-nothing}
use Rattle.debugger.proofs.desk.Desk.obey.Goals as goal

pub returns-in-Back-clause-executes : goal.returns-in-Back-clause-executes
returns-in-Back-clause-executes g c = λ told.
    executes-text c.args.manner g.K.Keeper.may_refuse _ _ _ _ _ _ _ _ _ (ap Known c.in-Back.is) c.back.ensures.brings
    c.as_slice.ensures.value (c.write_all.ensures.written told)

pub returns-in-Goto-clause-executes : goal.returns-in-Goto-clause-executes
returns-in-Goto-clause-executes g c = λ told.
    executes-text c.args.manner g.K.Keeper.may_refuse _ _ _ _ _ _ _ _ _ (ap Known c.in-Goto.is) c.goto.ensures.brings
    c.as_slice-in-Goto.ensures.value (c.write_all-in-Goto.ensures.written told)

pub returns-in-Seek-clause-executes : goal.returns-in-Seek-clause-executes
returns-in-Seek-clause-executes g c = λ told.
    executes-text c.args.manner g.K.Keeper.may_refuse _ _ _ _ _ _ _ _ _ (ap Known c.in-Seek.is) c.seek.ensures.brings
    c.as_slice-in-Seek.ensures.value (c.write_all-in-Seek.ensures.written told)

pub returns-in-Break-clause-executes : goal.returns-in-Break-clause-executes
returns-in-Break-clause-executes g c = λ told.
    executes-text c.args.manner g.K.Keeper.may_refuse _ _ _ _ _ _ _ _ _ (ap Known c.in-Break.is)
    (c.set_breakpoint.ensures.brings c.args.manner) c.as_slice-in-Break.ensures.value
    (c.write_all-in-Break.ensures.written told)

pub returns-in-Clear-clause-executes : goal.returns-in-Clear-clause-executes
returns-in-Clear-clause-executes g c = λ told.
    executes-text c.args.manner g.K.Keeper.may_refuse _ _ _ _ _ _ _ _ _ (ap Known c.in-Clear.is)
    (c.clear.ensures.brings c.args.manner) c.as_slice-in-Clear.ensures.value
    (c.write_all-in-Clear.ensures.written told)

pub returns-in-Registers-clause-executes : goal.returns-in-Registers-clause-executes
returns-in-Registers-clause-executes g c = λ told.
    executes-text c.args.manner g.K.Keeper.may_refuse _ _ _ _ _ _ _ _ _ (ap Known c.in-Registers.is)
    (c.registers.ensures.brings c.args.manner) c.as_slice-in-Registers.ensures.value (c.write_all-in-Registers.ensures.written told)

pub returns-in-Memory-clause-executes : goal.returns-in-Memory-clause-executes
returns-in-Memory-clause-executes g c = λ told.
    executes-text c.args.manner g.K.Keeper.may_refuse _ _ _ _ _ _ _ _ _ (ap Known c.in-Memory.is) (c.memory.ensures.brings c.args.manner)
    c.as_slice-in-Memory.ensures.value (c.write_all-in-Memory.ensures.written told)

pub returns-in-Channel-clause-executes : goal.returns-in-Channel-clause-executes
returns-in-Channel-clause-executes g c = λ told.
    executes-text c.args.manner g.K.Keeper.may_refuse _ _ _ _ _ _ _ _ _ (ap Known c.in-Channel.is) (c.channel.ensures.brings c.args.manner)
    c.as_slice-in-Channel.ensures.value (c.write_all-in-Channel.ensures.written told)

pub returns-in-Last-clause-executes : goal.returns-in-Last-clause-executes
returns-in-Last-clause-executes g c = λ told.
    executes-text c.args.manner g.K.Keeper.may_refuse _ _ _ _ _ _ _ _ _ (ap Known c.in-Last.is) (c.last.ensures.brings c.args.manner)
    c.as_slice-in-Last.ensures.value (c.write_all-in-Last.ensures.written told)

pub returns-in-Changed-clause-executes : goal.returns-in-Changed-clause-executes
returns-in-Changed-clause-executes g c = λ told.
    executes-text c.args.manner g.K.Keeper.may_refuse _ _ _ _ _ _ _ _ _ (ap Known c.in-Changed.is) (c.changed.ensures.brings c.args.manner)
    c.as_slice-in-Changed.ensures.value (c.write_all-in-Changed.ensures.written told)

pub returns-in-Symbol-clause-executes : goal.returns-in-Symbol-clause-executes
unfolding answer reply
returns-in-Symbol-clause-executes g c = λ told.
    executes-text c.args.manner g.K.Keeper.may_refuse _ _ _ _ _ _ _ _ _ (ap Known c.in-Symbol.is)
    (λ answers additions. rw c.symbol_line.ensures refl) c.as_slice-in-Symbol.ensures.value (c.write_all-in-Symbol.ensures.written told)

pub returns-in-Tail-clause-executes : goal.returns-in-Tail-clause-executes
unfolding answer reply history
returns-in-Tail-clause-executes g c = λ told.
    executes-text c.args.manner g.K.Keeper.may_refuse _ _ _ _ _ _ _ _ _ (ap Known c.in-Tail.is)
    (λ answers additions. rw (c.text.ensures, c.args.self.now.kept) refl) c.as_slice-in-Tail.ensures.value
    (c.write_all-in-Tail.ensures.written told)

pub returns-in-Quit-clause-executes : goal.returns-in-Quit-clause-executes
unfolding answer reply
returns-in-Quit-clause-executes g c = λ told.
    executes-nothing c.args.manner g.K.Keeper.may_refuse _ _ _ _ (ap Known c.in-Quit.is) (λ answers additions. refl)

pub returns-in-Add-clause-executes : goal.returns-in-Add-clause-executes
returns-in-Add-clause-executes g c = λ told.
    executes-adding c.args.manner g.K.Keeper.may_refuse _ _ _ _ _ _ _ _ _ (ap Known c.in-Add.is) c.add.ensures.brings
    c.as_slice-in-Add.ensures.value (c.write_all-in-Add.ensures.written told)
