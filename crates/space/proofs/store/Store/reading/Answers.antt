use Rattle.std.proofs.Common.{get_or, arith, refl}
use Rattle.space.proofs.CellLemmas.{reading_view, word_here}
use Rattle.space.specs.Stored.{held_at}
use Rattle.space.proofs.store.Store.reading.Goals as goal

pub returns : goal.returns
returns c =
    let r = c.self.inside.registers in
    let b = c.self.inside.erasable in
    let p = c.args.place in
    let view = reading_view (held_at r b) c.self.inside.channels c.args.self.now p c.self.view_is c.self.invariant.numbers (omega arith)
    (omega arith) in
    let here = word_here r b p (get_or b p 0) (omega arith) refl in
    cc (view, here)
