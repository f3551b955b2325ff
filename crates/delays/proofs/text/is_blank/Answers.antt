use Rattle.std.proofs.Common.{arith}
use Rattle.delays.specs.DelayText.{figures_in}
use Rattle.delays.proofs.Texts.{blank_call, blank_span}
use Rattle.delays.proofs.text.is_blank.Goals as goal

pub returns-then-part-lt-FIRST_CALL : goal.returns-then-part-lt-FIRST_CALL
returns-then-part-lt-FIRST_CALL c = λ is symbols words.
    blank_span symbols words (figures_in c.args.delays.now) c.args.part (omega (arith, c.if-part-lt-FIRST_SPAN.false))
    c.if-part-lt-FIRST_CALL.true (c.has_no_span.ensures is)

pub returns-else-part-lt-FIRST_CALL : goal.returns-else-part-lt-FIRST_CALL
returns-else-part-lt-FIRST_CALL c = λ is symbols words.
    blank_call symbols words (figures_in c.args.delays.now) c.args.part (omega (arith, c.if-part-lt-FIRST_CALL.false))
    (c.has_no_call.ensures is)
