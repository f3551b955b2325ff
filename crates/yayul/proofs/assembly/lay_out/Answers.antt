use Rattle.std.proofs.Common.{◌≡◌, ◌≢◌, ◌+◌, subst, [], ◌++◌, ◌∙◌, map, refl, arith}
use Rattle.agc_text.specs.Lines.{lines}
use Rattle.yayul.specs.Flight.{most_lines}
use Rattle.yayul.specs.Language.{Language}
use Rattle.yayul.specs.Layout.{Layout, start, layout_faults, line_faults, line_effect}
use Rattle.yayul.specs.Inside.Representation.{shown_by_mark, lines_show}
use Rattle.yayul.proofs.Lines.{few_lines, same_language, faults_passed, layout_passed, shown_passed, told_on}
use Rattle.yayul.proofs.assembly.lay_out.Goals as goal

pub loop-text-preserved : goal.loop-text-preserved
loop-text-preserved c =
    let s : Layout = c.loop-text.invariant.state in
    let t : Layout = (line_effect c.loop-text.line s c.in-Some.text.now).after in
    let leads = c.in-Ok.ensures s c.loop-text.invariant.agrees in
    let none : line_faults c.loop-text.line s c.in-Some.text.now ≡ [] = leads.0 in
    let few : c.loop-text.line ≢ most_lines c.args.language
    + 1 = subst (λ (spoken : Language). c.loop-text.line ≢ most_lines spoken + 1) c.loop-text.invariant.language
    (few_lines c.loop-text.line s c.in-Some.text.now none) in
    record {
      state = t;
      agrees = leads.1.0;
      same_faults = c.loop-text.invariant.same_faults
          ∙ faults_passed c.loop-text.line s t c.in-Some.text.now (lines c.loop-text.rest.now) (lines c.in-Some.after.now)
          c.in-Some.ensures.lines none refl;
      same_layout = c.loop-text.invariant.same_layout
          ∙ layout_passed c.loop-text.line s t c.in-Some.text.now (lines c.loop-text.rest.now) (lines c.in-Some.after.now)
          c.in-Some.ensures.lines refl;
      same_shown = shown_passed c.loop-text.line s t c.in-Some.text.now (lines c.loop-text.rest.now) (lines c.in-Some.after.now)
          c.in-Ok.mark
          (map shown_by_mark c.args.marks.now ++ lines_show 1 (start c.args.language) (lines c.args.source.now)) c.loop-text.marks
          c.push.new.self
          c.in-Some.ensures.lines refl leads.1.1 c.in-Ok-push.ensures c.loop-text.invariant.same_shown;
      language = same_language c.loop-text.line s c.in-Some.text.now ∙ c.loop-text.invariant.language;
      few = omega (arith, few);
    }

pub returns-in-Err-clause-lays_out : goal.returns-in-Err-clause-lays_out
returns-in-Err-clause-lays_out c =
    told_on (layout_faults 1 (start c.args.language) (lines c.args.source.now)) c.loop-text.line c.loop-text.invariant.state
    c.in-Some.text.now
    (lines c.loop-text.rest.now) (lines c.in-Some.after.now) c.in-Err.kind c.fault_on.result
    c.loop-text.invariant.same_faults c.in-Some.ensures.lines (c.in-Err.ensures c.loop-text.invariant.state c.loop-text.invariant.agrees)
    c.fault_on.ensures
