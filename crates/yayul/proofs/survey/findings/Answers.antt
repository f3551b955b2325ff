use Rattle.std.proofs.Common.{ap}
use Rattle.yayul.specs.Layout.{Layout}
use Rattle.yayul.specs.Survey.{known_symbols}
use Rattle.yayul.proofs.survey.findings.Goals as goal

pub told_lines-requires : goal.told_lines-requires
told_lines-requires c = (
  c.in_ok-whole.ensures.passed.0,
  c.in_ok-settle.ensures.settled c.in_ok-whole.ensures.passed.0 _
      c.in_ok-whole.ensures.passed.1,
)

pub returns-clause-symbols : goal.returns-clause-symbols
unfolding known_symbols
returns-clause-symbols c =
    ap (λ (s : Layout). s.symbols)
    (c.in_ok-settle.ensures.settled c.in_ok-whole.ensures.passed.0 _ c.in_ok-whole.ensures.passed.1).agrees.same
