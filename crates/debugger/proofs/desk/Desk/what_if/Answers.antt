use Rattle.std.proofs.Common.{refl}
use Rattle.commands.specs.declared.whatif.Extent.TheVariants.{Here, Each}
use Rattle.debugger.specs.WhatIfs.{program_of, tries, tries_from}
use Rattle.debugger.proofs.WholeReplies.{replies-same}
use Rattle.debugger.proofs.desk.Desk.what_if.Goals as goal

pub returns-in-Here-clause-executes : goal.returns-in-Here-clause-executes
returns-in-Here-clause-executes g c = λ told.
    rw c.in-Here.is (replies-same g.K.Keeper.may_refuse (tries
    (program_of c.args.self.now.symbols.now c.args.self.now.rows.now c.args.self.now.session.now.scenario) c.args.trial (Here c.in-Here.steps))
    (tries_from (program_of c.args.self.now.symbols.now c.args.self.now.rows.now c.args.self.now.session.now.scenario) c.args.trial c.in-Here.steps c.args.self.now.position 0) _ _ _ _ _ (λ answers additions. refl)
    (c.what_if_from.ensures.executes told))

pub returns-in-Each-clause-executes : goal.returns-in-Each-clause-executes
returns-in-Each-clause-executes g c = λ told.
    rw c.in-Each.is (replies-same g.K.Keeper.may_refuse (tries
    (program_of c.args.self.now.symbols.now c.args.self.now.rows.now c.args.self.now.session.now.scenario) c.args.trial (Each c.in-Each.steps c.in-Each.first c.in-Each.more))
    (tries_from (program_of c.args.self.now.symbols.now c.args.self.now.rows.now c.args.self.now.session.now.scenario) c.args.trial c.in-Each.steps c.in-Each.first c.in-Each.more) _ _ _ _ _ (λ answers additions. refl)
    (c.what_if_from-in-Each.ensures.executes told))
