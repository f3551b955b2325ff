use Rattle.std.proofs.Common.{sym, ap, ◌∙◌, arith}
use lib.Count.{count_trailing_zeros}
use Rattle.diagnostics.specs.Causes.{is_mark}
use Rattle.yayul.proofs.Vectors.{run_bound, run_through, run_stops}
use Rattle.diagnostics.proofs.caret.length_before_mark.Goals as goal

pub returns-then-marks-ne0-clause-value : goal.returns-then-marks-ne0-clause-value
returns-then-marks-ne0-clause-value c =
    let marks = c.marks_in-marks in
    let run = run_stops is_mark c.args.text.now c.loop-start.start 16 (omega arith) (omega arith) (omega (arith, marks.ensures))
    ∙ ap (count_trailing_zeros 64) (sym marks.ensures) in
    omega (arith, run, c.loop-start.invariant.0)

pub returns-then-marks-ne0-clause-within : goal.returns-then-marks-ne0-clause-within
returns-then-marks-ne0-clause-within c =
    let marks = c.marks_in-marks in
    let run = run_stops is_mark c.args.text.now c.loop-start.start 16 (omega arith) (omega arith) (omega (arith, marks.ensures))
    ∙ ap (count_trailing_zeros 64) (sym marks.ensures) in
    omega (arith, run, run_bound is_mark c.args.text.now c.loop-start.start c.loop-start.invariant.1)

pub loop-start-preserved : goal.loop-start-preserved
loop-start-preserved c =
    let run = run_through is_mark c.args.text.now c.loop-start.start 16 (omega arith) (omega (arith, c.marks_in-marks.ensures)) in
    (omega (arith, run, c.loop-start.invariant.0), omega arith)
