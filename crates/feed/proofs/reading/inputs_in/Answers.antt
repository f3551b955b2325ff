use Rattle.std.proofs.Common.{ap, arith, map}
use Rattle.feed.specs.Feed.{statements}
use Rattle.feed.specs.Statements.{statement_of}
use Rattle.feed.proofs.LineSteps.{left-all, left-next, left-none, none_gathered}
use Rattle.feed.proofs.reading.inputs_in.Goals as goal

pub loop-first-init : goal.loop-first-init
loop-first-init c =
    rw (c.new-gathered.ensures.plain, c.new-gathered.ensures.series, c.new-gathered.ensures.line)
    (record { left = left-all (statements c.args.text.now); gathered = none_gathered 1; lines = omega (arith, c.requires) })

pub loop-first-preserved : goal.loop-first-preserved
loop-first-preserved c =
    let old = c.loop-first.gathered in
    let good = c.in_ok-take_line.ensures.line in
    let same = c.in_ok-take_line.ensures.same_line in
    record {
      left = left-next _ old.plain.items _ old.sources.items _ old.line _ _ _ _ c.loop-first.invariant.left
          (ap (map statement_of) c.in-Some.ensures.lines) good.faultless good.plain good.series (omega (arith, same));
      gathered = rw same c.in_ok-take_line.ensures.gathered;
      lines = let l = c.loop-first.invariant.lines in omega (arith, l, same, c.in-Some.ensures.shorter);
    }

pub returns-clause-plain : goal.returns-clause-plain
returns-clause-plain c =
    let given = c.loop-first.gathered in
    (left-none _ given.plain.items given.sources.items given.line _ c.loop-first.invariant.left
    (ap (map statement_of) c.in_default.ensures.lines)).1

pub returns-clause-series : goal.returns-clause-series
returns-clause-series c =
    let given = c.loop-first.gathered in
    (left-none _ given.plain.items given.sources.items given.line _ c.loop-first.invariant.left
    (ap (map statement_of) c.in_default.ensures.lines)).2
