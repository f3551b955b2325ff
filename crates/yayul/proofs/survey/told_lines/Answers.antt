use Rattle.std.proofs.Common.{◌∙◌, ◌++◌, List, ap, arith, map, refl, sym}
use Rattle.yayul.specs.ReadLines.{passed, text_of}
use Rattle.yayul.specs.declared.finding.Finding.{Finding}
use Rattle.yayul.specs.Survey.{passed_line, settled_survey, told_lines, unmarked}
use Rattle.yayul.proofs.LanguageKept.{language_kept}
use Rattle.yayul.proofs.LinesRead.{said_here, texts_of_lines, told_after}
use Rattle.yayul.proofs.survey.told_lines.Goals as goal

pub loop-text-init : goal.loop-text-init
loop-text-init c = record {
  state = unmarked c.language.result;
  stands = c.in_ok-survey.ensures.start;
  language = c.language.ensures;
  same = (λ i. told_lines (settled_survey (passed c.args.source.now)) 1 (unmarked (sym c.language.ensures i))
      (sym (texts_of_lines c.args.source.now c.lines-lines.result.now c.lines-lines.ensures.lines) i))
      ∙ ap (λ (found : List Finding). found ++ told_lines (settled_survey (passed c.args.source.now)) 1 (unmarked c.language.result)
      (map text_of c.lines-lines.result.now)) (sym c.new-told.ensures.items);
  count = refl;
}

pub said_on-said-requires : goal.said_on-said-requires
said_on-said-requires c =
    said_here c.args.source.now c.lines-lines.result.now c.loop-text.text-index c.loop-text.line c.text-item.result
    c.loop-text.invariant.state c.loop-text.survey c.lines-lines.ensures.lines c.loop-text-test.true c.text-item.is
    c.loop-text.invariant.stands c.loop-text.invariant.language

pub tell-requires-clause-language : goal.tell-requires-clause-language
tell-requires-clause-language c =
    said_here c.args.source.now c.lines-lines.result.now c.loop-text.text-index c.loop-text.line c.text-item.result
    c.loop-text.invariant.state c.loop-text.survey c.lines-lines.ensures.lines c.loop-text-test.true c.text-item.is
    c.loop-text.invariant.stands c.loop-text.invariant.language

pub pass-requires-clause-language : goal.pass-requires-clause-language
pass-requires-clause-language c =
    said_here c.args.source.now c.lines-lines.result.now c.loop-text.text-index c.loop-text.line c.text-item.result
    c.loop-text.invariant.state c.loop-text.survey c.lines-lines.ensures.lines c.loop-text-test.true c.text-item.is
    c.loop-text.invariant.stands c.loop-text.invariant.language

pub loop-text-preserved : goal.loop-text-preserved
loop-text-preserved c =
    let line = c.loop-text.line in
    let s = c.loop-text.invariant.state in
    let whole = settled_survey (passed c.args.source.now) in
    let text = c.text-item.result.text in
    record {
      state = passed_line line s text;
      stands = c.in_ok-pass-in-Ok.ensures.leads s c.loop-text.invariant.stands;
      language = language_kept line s text ∙ c.loop-text.invariant.language;
      same = told_after line s whole c.lines-lines.result.now c.loop-text.text-index c.text-item.result _ c.loop-text.told.items
          c.tell.new.told.items c.loop-text-test.true c.text-item.is c.loop-text.invariant.same
          (c.in-Ok.ensures s whole c.requires.0 c.loop-text.invariant.stands c.requires.1);
      count = omega (arith, c.loop-text.invariant.count);
    }
