use Rattle.std.proofs.Common.{refl}
use Rattle.debugger.proofs.Looking.{fits_at}
use Rattle.debugger.proofs.index_lines.index_line.Goals as goal

pub kind_part-kind-requires : goal.kind_part-kind-requires
kind_part-kind-requires g c = fits_at _ c.args.session.now.scenario c.args.step _ c.in-Ok.ensures.processor c.in-Ok.ensures.shown

pub operand_part-reads-requires : goal.operand_part-reads-requires
operand_part-reads-requires g c = fits_at _ c.args.session.now.scenario c.args.step _ c.in-Ok.ensures.processor c.in-Ok.ensures.shown

pub returns-clause-items : goal.returns-clause-items
returns-clause-items g c =
    rw (c.index_by.ensures, c.kind_part-kind.ensures.items, c.operand_part-reads.ensures, c.in-Ok.ensures.processor, c.in-Ok.ensures.shown)
    refl
