use Rattle.std.proofs.Common.{refl}
use Rattle.debugger.specs.History.{history}
use Rattle.debugger.proofs.desk.Desk.words.Goals as goal

pub returns-clause-text : goal.returns-clause-text
unfolding history
returns-clause-text g c = rw (c.words_text.ensures, c.in-Ok.ensures.shown, c.in-Ok.ensures.processor) refl
