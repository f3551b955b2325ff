use Rattle.std.proofs.Common.{refl}
use Rattle.debugger.specs.Replies.{answer, reply}
use Rattle.debugger.proofs.desk.Desk.clear.Goals as goal

pub returns-clause-brings : goal.returns-clause-brings
unfolding answer reply
returns-clause-brings g c = λ m answers additions. rw (c.text_line.ensures.items, c.clear.ensures) refl
