use Rattle.std.proofs.Common.{sym, ap, ◌∙◌, arith, eqb}
use lib.Count.{count_trailing_zeros}
use Rattle.agc_text.specs.Bytes.{line_feed}
use Rattle.yayul.proofs.Vectors.{run_bound, run_through, run_stops}
use Rattle.yayul.proofs.source_lines.length_before_feed.Goals as goal

pub returns-then-feeds-ne0-clause-value : goal.returns-then-feeds-ne0-clause-value
returns-then-feeds-ne0-clause-value c =
    let feeds = c.feeds_in-feeds in
    let run = run_stops (λ b. eqb b line_feed) c.args.text.now c.loop-start.start 16 (omega arith) (omega arith) (omega (arith, feeds.ensures))
    ∙ ap (count_trailing_zeros 64) (sym feeds.ensures) in
    omega (arith, run, c.loop-start.invariant.0)

pub returns-then-feeds-ne0-clause-within : goal.returns-then-feeds-ne0-clause-within
returns-then-feeds-ne0-clause-within c =
    let feeds = c.feeds_in-feeds in
    let run = run_stops (λ b. eqb b line_feed) c.args.text.now c.loop-start.start 16 (omega arith) (omega arith) (omega (arith, feeds.ensures))
    ∙ ap (count_trailing_zeros 64) (sym feeds.ensures) in
    omega (arith, run, run_bound (λ b. eqb b line_feed) c.args.text.now c.loop-start.start c.loop-start.invariant.1)

pub loop-start-preserved : goal.loop-start-preserved
loop-start-preserved c =
    let run = run_through (λ b. eqb b line_feed) c.args.text.now c.loop-start.start 16 (omega arith) (omega (arith, c.feeds_in-feeds.ensures)) in
    (omega (arith, run, c.loop-start.invariant.0), omega arith)
