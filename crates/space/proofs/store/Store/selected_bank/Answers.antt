use Rattle.space.proofs.CellLemmas.{selected_limit, selected_view}
use Rattle.space.proofs.store.Store.selected_bank.Goals as goal

pub new-requires : goal.new-requires
new-requires c =
    selected_limit c.self.inside.registers c.self.inside.erasable c.self.inside.channels c.self.inside.selected c.self.invariant

pub returns : goal.returns
returns c =
    let view = selected_view c.self.inside.registers c.self.inside.erasable c.self.inside.channels c.self.inside.selected
    c.args.self.now c.self.view_is c.self.invariant in
    cc view
