use Rattle.std.proofs.Common.{◌≡◌, ap, ◌∙◌, arith}
use Rattle.space.proofs.CellLemmas.{view-place, IsStored-register, number_by-register, register_here, register_others, selects-registers}
use Rattle.space.specs.Stored.{number_by, held_at}
use Rattle.space.proofs.store.Store.hold.Goals as goal

pub invariant_of-self : goal.invariant_of-self
invariant_of-self c =
    let old = c.self.inside.registers in
    let new = c.set.new.numbers in
    let b = c.self.inside.erasable in
    let same : c.from.result ≡ c.args.place = cc in
    let here = register_here new b c.from.result c.args.number (omega (arith, c.requires.register)) c.set.ensures.here in
    let others = register_others old new b c.from.result c.set.ensures.others in
    record {
      numbers = IsStored-register (held_at old b) (held_at new b) c.self.inside.channels c.from.result c.args.number
          c.self.invariant.numbers (omega (arith, c.requires.register)) (rw same c.requires.limit) here others;
      selects = selects-registers old new c.self.inside.channels c.self.inside.selected (c.set.ensures.others 4 (λ e. omega arith))
          c.self.invariant.selects;
    }

pub returns : goal.returns
returns c =
    let old = c.self.inside.registers in
    let new = c.set.new.numbers in
    let b = c.self.inside.erasable in
    let same : c.from.result ≡ c.args.place = cc in
    let lt = c.requires.register in
    let here = register_here new b c.from.result c.args.number (omega arith) c.set.ensures.here in
    let others = register_others old new b c.from.result c.set.ensures.others in
    let view = view-place (held_at old b) (held_at new b) c.self.inside.channels c.from.result c.args.number (omega arith)
    (λ e. omega arith) (λ e. omega arith) (ap (number_by c.from.result) here
    ∙ number_by-register c.from.result c.args.number (omega arith)) others in
    cc (view, c.self.view_is, same)
