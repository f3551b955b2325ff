use Rattle.debugger.specs.Transcript.{command_lines}
use Rattle.debugger.specs.Conversation.{lines_within}
use Rattle.debugger.proofs.PlainTalk.{plain-efforts, debugs}
use Rattle.debugger.proofs.session.debug_session.Goals as goal

pub returns-clause-answer : goal.returns-clause-answer
returns-clause-answer g c = λ rt wt. debugs _ _ _ _ _ _ (rw c.none-rows.ensures at (c.converse.ensures.answer rt wt))

pub returns-clause-cost : goal.returns-clause-cost
unfolding command_lines lines_within
returns-clause-cost g c = λ rt. rw (← plain-efforts c.args.symbols.now (command_lines (g.R.Read.left c.args.commands.now)))
    (c.converse.ensures.cost rt)
