use Rattle.std.proofs.Common.{◌≡◌, arith}
use Rattle.space.proofs.CellLemmas.{view-channel, IsStored-channel, selects-channels}
use Rattle.space.specs.Stored.{held_at}
use Rattle.space.proofs.store.Store.hold_on.Goals as goal

pub invariant_of-self : goal.invariant_of-self
invariant_of-self c =
    record {
      numbers = IsStored-channel (held_at c.self.inside.registers c.self.inside.erasable) c.self.inside.channels c.set.new.numbers
          c.from.result c.args.number c.self.invariant.numbers c.requires.limit c.set.ensures.here c.set.ensures.others;
      selects = selects-channels c.self.inside.registers c.self.inside.channels c.set.new.numbers c.self.inside.selected
          (c.set.ensures.others 7 (λ e. omega arith)) c.self.invariant.selects;
    }

pub returns : goal.returns
returns c =
    let same : c.from.result ≡ c.args.channel = cc in
    let view = view-channel (held_at c.self.inside.registers c.self.inside.erasable) c.self.inside.channels c.set.new.numbers c.from.result
    c.args.number (omega arith) (λ e. omega arith) (λ e. omega arith) c.set.ensures.here c.set.ensures.others in
    cc (view, c.self.view_is, same)
