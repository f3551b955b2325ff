use Rattle.std.proofs.Common.{arith}
use Rattle.space.proofs.CellLemmas.{view-channel, IsStored-channel, fixed_bank_below, selects-superbank}
use Rattle.space.specs.Stored.{held_at}
use Rattle.space.proofs.store.Store.hold_superbank.Goals as goal

pub selected_bank-self-inside-requires : goal.selected_bank-self-inside-requires
selected_bank-self-inside-requires c =
    fixed_bank_below c.self.inside.registers c.self.inside.erasable c.self.inside.channels c.self.invariant.numbers

pub invariant_of-self : goal.invariant_of-self
invariant_of-self c =
    record {
      numbers = IsStored-channel (held_at c.self.inside.registers c.self.inside.erasable) c.self.inside.channels c.set.new.numbers
          7 c.args.number c.self.invariant.numbers c.requires c.set.ensures.here c.set.ensures.others;
      selects = selects-superbank c.self.inside.registers c.set.new.numbers c.args.number _ _ c.set.ensures.here c.superbank_in.ensures
          c.selected_bank-self-inside.ensures.bank;
    }

pub returns : goal.returns
returns c =
    let view = view-channel (held_at c.self.inside.registers c.self.inside.erasable) c.self.inside.channels c.set.new.numbers 7
    c.args.number (omega arith) (λ e. omega arith) (λ e. omega arith) c.set.ensures.here c.set.ensures.others in
    cc (view, c.self.view_is)
