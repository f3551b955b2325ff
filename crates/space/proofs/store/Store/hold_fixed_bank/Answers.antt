use Rattle.std.proofs.Common.{ap, ◌∙◌, arith}
use Rattle.space.proofs.CellLemmas.{view-place, IsStored-register, number_by-register, register_here, register_others, fixed_bank_limit}
use Rattle.space.proofs.CellLemmas.{selects-fixed_bank}
use Rattle.space.specs.Stored.{number_by, held_at}
use Rattle.space.proofs.store.Store.hold_fixed_bank.Goals as goal

pub invariant_of-self : goal.invariant_of-self
invariant_of-self c =
    let old = c.self.inside.registers in
    let new = c.set.new.numbers in
    let b = c.self.inside.erasable in
    let here = register_here new b 4 c.args.number (omega arith) c.set.ensures.here in
    let others = register_others old new b 4 c.set.ensures.others in
    record {
      numbers = IsStored-register (held_at old b) (held_at new b) c.self.inside.channels 4 c.args.number
          c.self.invariant.numbers (omega arith) (fixed_bank_limit c.args.number c.requires) here others;
      selects = selects-fixed_bank new c.self.inside.channels c.args.number _ _ c.set.ensures.here c.superbank_in.ensures
          c.selected_bank-self-inside.ensures.bank;
    }

pub returns : goal.returns
returns c =
    let old = c.self.inside.registers in
    let new = c.set.new.numbers in
    let b = c.self.inside.erasable in
    let here = register_here new b 4 c.args.number (omega arith) c.set.ensures.here in
    let others = register_others old new b 4 c.set.ensures.others in
    let view = view-place (held_at old b) (held_at new b) c.self.inside.channels 4 c.args.number (omega arith)
    (λ e. omega arith) (λ e. omega arith) (ap (number_by 4) here
    ∙ number_by-register 4 c.args.number (omega arith)) others in
    cc (view, c.self.view_is)
