use Rattle.std.proofs.Common.{◌≡◌, ◌+◌, get_or, arith}
use Rattle.space.specs.Cells.{get}
use Rattle.space.proofs.LaneLemmas.{get-erasable}
use Rattle.space.proofs.store.Store.differing.Goals as goal

pub returns : goal.returns
returns c k lt =
    let s = c.self.inside in
    let t = c.other.inside in
    let p = c.args.first + k in
    let one : get c.args.self.now p ≡ get_or s.erasable p 0 = get-erasable s.registers s.erasable s.channels c.args.self.now p
    c.self.view_is c.self.invariant.numbers (omega arith) (omega arith) in
    let other : get c.args.other.now p ≡ get_or t.erasable p 0 = get-erasable t.registers t.erasable t.channels c.args.other.now p
    c.other.view_is c.other.invariant.numbers (omega arith) (omega arith) in
    let same : c.from.result ≡ c.args.first = cc in
    rw (one, other) (rw (← same) (c.differing.ensures k lt))
