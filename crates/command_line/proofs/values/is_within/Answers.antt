use Rattle.std.proofs.Common.{sym, ◌∙◌, arith}
use Rattle.std.specs.Str.Parse.{without_leading_plus}
use Rattle.command_line.proofs.Texts.{within-number, within-no_number}
use Rattle.command_line.proofs.values.is_within.Goals as goal

pub returns-in-Ok : goal.returns-in-Ok
returns-in-Ok c =
    let h = c.in-Ok.ensures.value.0 in
    c.is_between.ensures ∙ sym (within-number c.args.least c.args.most c.in-Ok.number (without_leading_plus c.args.text.now) h.0.0
    (sym h.1))

pub returns-in-Err : goal.returns-in-Err
returns-in-Err c =
    sym (within-no_number c.args.least c.args.most (without_leading_plus c.args.text.now) (omega arith) c.in-Err.ensures.value.0)
