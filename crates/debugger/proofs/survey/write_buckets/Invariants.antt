use Rattle.std.proofs.Common.{◌≡◌, ◌≤◌, ◌+◌, ◌-◌, true}
use Rattle.debugger.specs.LeftToWrite.{LeftToWrite}
use Rattle.debugger.specs.Surveys.{bucket_lines, width_of}
use Rattle.debugger.specs.Surveying.{HasSurveyed}
use Rattle.debugger.proofs.survey.write_buckets.Given as goal

abbrev pub invariant-loop-left : goal.invariant-loop-left
invariant-loop-left g l =
    let from = l.asked.first - 1 in
    let width = width_of (l.asked.last - from) l.asked.buckets in
    record {
      above : from ≤ l.low;
      within : l.low - from ≤ l.asked.last - from;
      done : l.done + l.left ≡ l.asked.buckets;
      surveyed : HasSurveyed l.fn.session from l.low l.session;
      failures : g.W.Write.failures l.out ≡ g.W.Write.failures l.fn.out;
      told : g.W.Write.told ≡ true → LeftToWrite (bucket_lines l.fn.session.scenario l.asked.subjects width l.asked.last l.asked.buckets 0
          from) (g.W.Write.written l.fn.out) (g.W.Write.written l.out)
          (bucket_lines l.fn.session.scenario l.asked.subjects width l.asked.last l.left l.done l.low);
    }

abbrev pub decreases-loop-left : goal.decreases-loop-left
decreases-loop-left g l = l.left
