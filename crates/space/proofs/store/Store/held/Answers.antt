use Rattle.std.proofs.Common.{◌≡◌}
use Rattle.space.proofs.CellLemmas.{held_limit}
use Rattle.space.proofs.store.Store.held.Goals as goal

pub returns-clause-limit : goal.returns-clause-limit
returns-clause-limit c =
    let same : c.from.result ≡ c.args.place = cc in
    rw same (held_limit c.self.inside.registers c.self.inside.erasable c.self.inside.channels c.args.place c.self.invariant.numbers
    c.requires.register)
