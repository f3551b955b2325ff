use Rattle.std.proofs.Common.{◌∙◌, arith, refl, sym}
use Rattle.yayul.specs.Survey.{passed_line, passed_lines, unmarked}
use Rattle.yayul.proofs.LanguageKept.{language_kept}
use Rattle.yayul.proofs.LinesRead.{passed_next, said_here, texts_of_lines}
use Rattle.yayul.proofs.survey.passed_lines.Goals as goal

pub loop-text-init : goal.loop-text-init
loop-text-init c = record {
  state = unmarked c.language.result;
  stands = c.in_ok-survey.ensures.start;
  language = c.language.ensures;
  same = λ i. passed_lines 1 (unmarked (c.language.ensures i))
      (texts_of_lines c.args.source.now c.lines-lines.result.now c.lines-lines.ensures.lines i);
  count = refl;
}

pub said_on-said-requires : goal.said_on-said-requires
said_on-said-requires c =
    said_here c.args.source.now c.lines-lines.result.now c.loop-text.text-index c.loop-text.line c.text-item.result
    c.loop-text.invariant.state c.loop-text.survey c.lines-lines.ensures.lines c.loop-text-test.true c.text-item.is
    c.loop-text.invariant.stands c.loop-text.invariant.language

pub pass-requires-clause-language : goal.pass-requires-clause-language
pass-requires-clause-language c =
    said_here c.args.source.now c.lines-lines.result.now c.loop-text.text-index c.loop-text.line c.text-item.result
    c.loop-text.invariant.state c.loop-text.survey c.lines-lines.ensures.lines c.loop-text-test.true c.text-item.is
    c.loop-text.invariant.stands c.loop-text.invariant.language

pub loop-text-preserved : goal.loop-text-preserved
loop-text-preserved c =
    let line = c.loop-text.line in
    let s = c.loop-text.invariant.state in
    let text = c.text-item.result.text in
    record {
      state = passed_line line s text;
      stands = c.in_ok-pass.ensures.leads s c.loop-text.invariant.stands;
      language = language_kept line s text ∙ c.loop-text.invariant.language;
      same = sym (passed_next line s c.lines-lines.result.now c.loop-text.text-index c.text-item.result c.loop-text-test.true c.text-item.is)
          ∙ c.loop-text.invariant.same;
      count = omega (arith, c.loop-text.invariant.count);
    }
