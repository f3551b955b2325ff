use Rattle.agc_text.specs.Lines.{lines}
use Rattle.included.proofs.Turns.{line_passed, lines_end}
use Rattle.included.proofs.reports.located_report.Goals as goal

pub loop-line-preserved : goal.loop-line-preserved
loop-line-preserved c =
    line_passed c.args.path.now c.args.joined.now c.in-Some.line.now (lines c.loop-line.rest.now) (lines c.in-Some.following.now)
    c.loop-line.out.items c.push_line.new.out.items _ c.in-Some.ensures.lines c.in_ok-push_line.ensures c.loop-line.invariant

pub returns : goal.returns
returns c =
    lines_end c.args.path.now c.args.joined.now (lines c.loop-line.rest.now) c.loop-line.out.items _ c.in_default.ensures.lines
    c.loop-line.invariant
