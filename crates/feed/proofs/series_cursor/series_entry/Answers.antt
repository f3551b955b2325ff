use Rattle.std.proofs.Common.{sym, refl}
use Rattle.feed.proofs.HeadLaws.{entry-told, entry-past}
use Rattle.feed.proofs.series_cursor.series_entry.Goals as goal

pub returns-then-number-rule : goal.returns-then-number-rule
returns-then-number-rule c = entry-told c.args.index c.args.rule.now c.args.number c.args.cycle _ c.requires c.if-number-rule.true refl

pub returns-else-number-rule : goal.returns-else-number-rule
returns-else-number-rule c = sym (entry-past c.args.index c.args.rule.now c.args.number c.if-number-rule.false)
