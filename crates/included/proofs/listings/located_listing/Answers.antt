use Rattle.agc_text.specs.Lines.{lines}
use Rattle.included.proofs.Turns.{row_passed, rows_end}
use Rattle.included.proofs.listings.located_listing.Goals as goal

pub loop-line-preserved : goal.loop-line-preserved
loop-line-preserved c =
    row_passed c.args.joined.now c.in_ok-width.width c.loop-line.section c.section_from-section.result c.in-Some.line.now
    (lines c.loop-line.rest.now) (lines c.in-Some.following.now) c.loop-line.out.items c.push_row_in.new.out.items _
    c.in-Some.ensures.lines c.section_from-section.ensures c.in_ok-push_row_in.ensures c.loop-line.invariant

pub returns : goal.returns
returns c =
    rows_end c.args.joined.now c.in_ok-width.width c.loop-line.section (lines c.loop-line.rest.now) c.loop-line.out.items _
    c.in_default.ensures.lines c.loop-line.invariant
