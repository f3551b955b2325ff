use Rattle.std.proofs.Common.{◌-◌, arith, length, drop, take_all, length-drop}
use Rattle.agc_text.proofs.Splits.{texts-skip, after-first}
use Rattle.agc_text.proofs.fields.without_blanks.Goals as goal

pub returns-clause-runs : goal.returns-clause-runs
returns-clause-runs c = rw (take_all (length c.args.text.now - c.length_before.result) (drop c.length_before.result c.args.text.now)
    (omega (arith, length-drop c.length_before.result c.args.text.now)))
    (texts-skip c.args.text.now c.length_before.result c.length_before.ensures.value)

pub returns-clause-first : goal.returns-clause-first
returns-clause-first c = rw (take_all (length c.args.text.now - c.length_before.result) (drop c.length_before.result c.args.text.now)
    (omega (arith, length-drop c.length_before.result c.args.text.now)))
    (after-first c.args.text.now c.length_before.result c.length_before.ensures.value)
