use Rattle.std.proofs.Common.{refl}
use Rattle.yayul.proofs.LinesOfWords.{lines-none}
use Rattle.yayul.proofs.survey.Survey.start.Goals as goal

pub returns-clause-start : goal.returns-clause-start
returns-clause-start c = record {
  agrees = record { same = c.start-2.ensures; keeps = c.in-Ok.ensures c.args.language };
  lines = lines-none c.in-Ok-nothing.lines c.in-Ok-nothing.ensures;
  lost = c.new.ensures;
  known = refl;
}
