use Rattle.std.proofs.Common.{◌++◌, ap, arith}
use Rattle.notes.specs.Waits.{kept_text}
use Rattle.notes.proofs.LongWaits.{kept_more, kept_last}
use Rattle.notes.proofs.lines.end_lines.Goals as goal

pub loop-number-init : goal.loop-number-init
loop-number-init c = record {
  low = omega arith;
  text = ap (λ text. text ++ kept_text c.args.notation c.args.cycles c.args.waits.now) c.end_line-lines.ensures.items;
  short = omega (arith, c.end_line-lines.ensures.short);
}

pub loop-number-preserved : goal.loop-number-preserved
loop-number-preserved c = record {
  low = omega arith;
  text = kept_more c.args.notation c.args.cycles c.args.waits.now c.loop-number.number _ _ _ _ _ (omega arith) c.loop-number.invariant.text
      (c.push_wait.ensures.items) c.new-interrupt.ensures c.since.ensures;
  short = omega (arith, c.loop-number.invariant.short, c.push_wait.ensures.short);
}

pub returns : goal.returns
returns c = kept_last c.args.notation c.args.cycles c.args.waits.now c.loop-number.number _ _ (omega arith) c.loop-number.invariant.text
