use Rattle.debugger.specs.Conversation.{reading}
use Rattle.debugger.proofs.session.extended_session.Goals as goal

pub returns-clause-answer : goal.returns-clause-answer
unfolding reading
returns-clause-answer g c = λ rt wt. c.converse.ensures.answer rt wt

pub returns-clause-cost : goal.returns-clause-cost
unfolding reading
returns-clause-cost g c = λ rt. c.converse.ensures.cost rt
