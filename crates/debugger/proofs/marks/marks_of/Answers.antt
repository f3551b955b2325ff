use Rattle.std.proofs.Common.{ℕ, ◌∙◌, arith}
use Rattle.std.proofs.lemmas.List.{length-set}
use Rattle.std.specs.List.{list_any}
use Rattle.debugger.specs.Marks.{may_hold_at}
use Rattle.debugger.proofs.MarkLemmas.{marked_more}
use Rattle.debugger.proofs.marks.marks_of.Goals as goal

pub loop-low-preserved : goal.loop-low-preserved
loop-low-preserved c =
    let low = c.loop-low.low in
    record {
      len = length-set c.loop-low.marks low c.may_one_hold_at.result ∙ c.loop-low.invariant.len;
      marked = marked_more c.loop-low.marks low c.may_one_hold_at.result (λ (k : ℕ). list_any (may_hold_at k) c.args.breakpoints.now)
          (omega (arith, c.loop-low.invariant.len, c.loop-low-test.true)) c.loop-low.invariant.marked c.may_one_hold_at.ensures;
    }
