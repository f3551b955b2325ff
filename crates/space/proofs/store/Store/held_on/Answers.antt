use Rattle.space.proofs.CellLemmas.{channel_limit}
use Rattle.space.specs.Stored.{held_at}
use Rattle.space.proofs.store.Store.held_on.Goals as goal

pub returns-clause-limit : goal.returns-clause-limit
returns-clause-limit c = channel_limit (held_at c.self.inside.registers c.self.inside.erasable) c.self.inside.channels c.from.result
    c.self.invariant.numbers
