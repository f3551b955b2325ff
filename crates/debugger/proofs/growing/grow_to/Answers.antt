use Rattle.std.proofs.Common.{Err, sym, ap}
use Rattle.debugger.proofs.Tellings.{teller_ended, told_nothing, grows_limited, grows_refused}
use Rattle.debugger.proofs.growing.grow_to.Goals as goal

pub returns-in-Ok-clause-tail : goal.returns-in-Ok-clause-tail
returns-in-Ok-clause-tail g c =
    let s = c.args.session.now in
    let told = c.in-Ok.ensures in
    let e = teller_ended g.W.Write.told g.K.Keeper.may_refuse g.W.Write.written g.W.Write.handed_on g.W.Write.failures
    g.B.Breaks.breakpoints s.scenario c.args.more s.n c.advance_by.new.self.n c.in-Ok.stop _ c.advance_by.new.stepper
    c.ending_of.result told.advanced.stands.within told.stopped c.requires told.walked c.ending_of.ensures in
    rw (c.tail-1.given.1 (sym e.0), told.advanced.scenario) e.2.tail

pub returns-in-Ok-clause-growth : goal.returns-in-Ok-clause-growth
returns-in-Ok-clause-growth g c =
    let s = c.args.session.now in
    let told = c.in-Ok.ensures in
    let e = teller_ended g.W.Write.told g.K.Keeper.may_refuse g.W.Write.written g.W.Write.handed_on g.W.Write.failures
    g.B.Breaks.breakpoints s.scenario c.args.more s.n c.advance_by.new.self.n c.in-Ok.stop _ c.advance_by.new.stepper
    c.ending_of.result told.advanced.stands.within told.stopped c.requires told.walked c.ending_of.ensures in
    rw (c.out-1.given.1 (sym e.1)) e.2.growth

pub returns-in-Ok-clause-failures : goal.returns-in-Ok-clause-failures
returns-in-Ok-clause-failures g c =
    let s = c.args.session.now in
    let told = c.in-Ok.ensures in
    let e = teller_ended g.W.Write.told g.K.Keeper.may_refuse g.W.Write.written g.W.Write.handed_on g.W.Write.failures
    g.B.Breaks.breakpoints s.scenario c.args.more s.n c.advance_by.new.self.n c.in-Ok.stop _ c.advance_by.new.stepper
    c.ending_of.result told.advanced.stands.within told.stopped c.requires told.walked c.ending_of.ensures in
    rw (c.out-1.given.1 (sym e.1)) e.2.failures

pub returns-in-Err-StepLimit-clause-growth : goal.returns-in-Err-StepLimit-clause-growth
returns-in-Err-StepLimit-clause-growth g c = λ _.
    let s = c.args.session.now in
    let told = c.in-Err-StepLimit.ensures in
    let both = told.limit.0 (ap Err c.in-Err-StepLimit.field-0-is) in
    let same = told_nothing _ c.advance_by.new.stepper told.err.1 in
    rw (told.err.0, c.in-Err-StepLimit.out-in-Err-1-own.given.1 same.0, same.1)
    (grows_limited g.K.Keeper.may_refuse c.args.quiet s.scenario (g.B.Breaks.breakpoints c.args.breaks.now) c.args.more s.n
    (g.W.Write.written c.args.out.now) both.0 both.1)

pub returns-in-Err-NoMemory-clause-growth : goal.returns-in-Err-NoMemory-clause-growth
returns-in-Err-NoMemory-clause-growth g c = λ _.
    let s = c.args.session.now in
    let told = c.in-Err-NoMemory.ensures in
    let both = told.memory (ap Err c.in-Err-NoMemory.field-0-is) in
    let same = told_nothing _ c.advance_by.new.stepper told.err.1 in
    rw (told.err.0, c.in-Err-NoMemory.out-in-Err-1-own.given.1 same.0, same.1)
    (grows_refused g.K.Keeper.may_refuse c.args.quiet s.scenario (g.B.Breaks.breakpoints c.args.breaks.now) c.args.more s.n
    (g.W.Write.written c.args.out.now) both.0 both.1 both.2)
