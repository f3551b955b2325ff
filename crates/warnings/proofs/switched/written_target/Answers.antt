use Rattle.std.proofs.Common.{sym, ◌∙◌, ap}
use Rattle.yayul.specs.Readings.{parts_in}
use Rattle.warnings.specs.Warnings.{banks_after, target_in}
use Rattle.warnings.proofs.Written.{written_apart}
use Rattle.warnings.proofs.switched.written_target.Goals as goal

pub returns-then-has : goal.returns-then-has
returns-then-has c = λ banks. ap (λ target. banks_after banks target (parts_in c.args.parts.now)) c.target_in.ensures

pub returns-else-has : goal.returns-else-has
returns-else-has c = written_apart (target_in c.args.language c.args.symbols.now (parts_in c.args.parts.now)) (parts_in c.args.parts.now)
    (sym c.has.ensures ∙ c.if-has.false)
