use Rattle.std.proofs.Common.{refl}
use Rattle.debugger.specs.Replies.{answer}
use Rattle.debugger.proofs.WholeReplies.{executes-text, executes-nothing}
use Rattle.debugger.specs.declared.manner.Manner.TheVariants as manner
use Rattle.debugger.proofs.desk.Desk.answer.Goals as goal

pub returns-in-Nothing-clause-executes : goal.returns-in-Nothing-clause-executes
unfolding answer
returns-in-Nothing-clause-executes g c = λ told. executes-nothing manner.Plain g.K.Keeper.may_refuse _ _ _ _ c.in-Nothing.is
    (λ answers additions. refl)

pub returns-in-TooLong-clause-executes : goal.returns-in-TooLong-clause-executes
unfolding answer
returns-in-TooLong-clause-executes g c = λ told.
    executes-text manner.Plain g.K.Keeper.may_refuse _ _ _ _ _ _ _ _ _ c.in-TooLong.is
    (λ answers additions. rw c.text_line.ensures.items refl) c.as_slice.ensures.value (c.write_all.ensures.written told)

pub returns-in-Unknown-clause-executes : goal.returns-in-Unknown-clause-executes
unfolding answer
returns-in-Unknown-clause-executes g c = λ told.
    executes-text manner.Plain g.K.Keeper.may_refuse _ _ _ _ _ _ _ _ _ c.in-Unknown.is
    (λ answers additions. rw c.text_line-in-Unknown.ensures.items refl) c.as_slice-in-Unknown.ensures.value
    (c.write_all-in-Unknown.ensures.written told)

pub returns-in-WrongCounter-clause-executes : goal.returns-in-WrongCounter-clause-executes
unfolding answer
returns-in-WrongCounter-clause-executes g c = λ told.
    executes-text manner.Plain g.K.Keeper.may_refuse _ _ _ _ _ _ _ _ _ c.in-WrongCounter.is
    (λ answers additions. rw c.text_line-in-WrongCounter.ensures.items refl) c.as_slice-in-WrongCounter.ensures.value
    (c.write_all-in-WrongCounter.ensures.written told)
