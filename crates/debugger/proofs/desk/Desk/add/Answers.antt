use Rattle.std.proofs.Common.{◌<◌, Err, ap, arith}
use Rattle.cpu.specs.State.{State}
use Rattle.cpu.specs.Run.{run}
use Rattle.debugger.proofs.InputsAdded.{adding-long, adding-early, adding-many, adding-refused, adding-added, not_early, present-before}
use Rattle.debugger.proofs.desk.Desk.add.Goals as goal

pub returns-then-cycle-gt-GREATEST_CYCLE-clause-brings : goal.returns-then-cycle-gt-GREATEST_CYCLE-clause-brings
returns-then-cycle-gt-GREATEST_CYCLE-clause-brings g c = adding-long c.args.self.now.session.now c.args.self.now.position c.args.self.now.breakpoints c.args.self.now.quiet
    c.args.cycle c.args.input c.text_line.result.items (omega arith) c.text_line.ensures.items

pub returns-in-Ok-clause-brings : goal.returns-in-Ok-clause-brings
returns-in-Ok-clause-brings g c =
    let s = c.args.self.now.session.now in
    let added = c.in-Ok.ensures.ok in
    let present = present-before s c.add.new.self c.args.cycle c.args.input added in
    let late : s.present.cycles < c.args.cycle = not_early c.args.cycle s.present.cycles (λ h. (let e = c.in-Ok.ensures.early.1 h in cc)) in
    let future : (run s.scenario s.n).cycles < c.args.cycle = (let q = ap (λ (m : State). m.cycles) present in omega arith) in
    adding-added c.args.self.now.session.now c.args.self.now.position c.args.self.now.breakpoints c.args.self.now.quiet c.args.cycle c.args.input
    c.text_line-in-Ok.result.items c.add.new.self (omega arith) future c.in-Ok.ensures.room added c.text_line-in-Ok.ensures.items

pub returns-in-Err-TooEarly-clause-brings : goal.returns-in-Err-TooEarly-clause-brings
returns-in-Err-TooEarly-clause-brings g c =
    let stays = c.in-Err-TooEarly.ensures.err in
    let stands = rw stays at c.in-Err-TooEarly.ensures.stands in
    rw stays (adding-early c.args.self.now.session.now c.args.self.now.position c.args.self.now.breakpoints c.args.self.now.quiet c.args.cycle c.args.input
    c.text_line-in-Err-TooEarly.result.items (omega arith) stands.present
    (c.in-Err-TooEarly.ensures.early.0 (ap Err c.in-Err-TooEarly.field-0-is)) c.text_line-in-Err-TooEarly.ensures.items)

pub returns-in-Err-TooMany-clause-brings : goal.returns-in-Err-TooMany-clause-brings
returns-in-Err-TooMany-clause-brings g c =
    let s = c.args.self.now.session.now in
    let is = c.in-Err-TooMany.field-0-is in
    let stays = c.in-Err-TooMany.ensures.err in
    let stands = rw stays at c.in-Err-TooMany.ensures.stands in
    let late : s.present.cycles < c.args.cycle = not_early c.args.cycle s.present.cycles
    (λ h. (let e = c.in-Err-TooMany.ensures.early.1 h in cc)) in
    rw stays (adding-many c.args.self.now.session.now c.args.self.now.position c.args.self.now.breakpoints c.args.self.now.quiet c.args.cycle c.args.input
    c.text_line-in-Err-TooMany.result.items (omega arith) stands.present late (c.in-Err-TooMany.ensures.full (ap Err is))
    c.text_line-in-Err-TooMany.ensures.items)

pub returns-in-Err-NoMemory-clause-brings : goal.returns-in-Err-NoMemory-clause-brings
returns-in-Err-NoMemory-clause-brings g c =
    let s = c.args.self.now.session.now in
    let is = c.in-Err-NoMemory.field-0-is in
    let stays = c.in-Err-NoMemory.ensures.err in
    let stands = rw stays at c.in-Err-NoMemory.ensures.stands in
    let late : s.present.cycles < c.args.cycle = not_early c.args.cycle s.present.cycles
    (λ h. (let e = c.in-Err-NoMemory.ensures.early.1 h in cc)) in
    rw stays (adding-refused c.args.self.now.session.now c.args.self.now.position c.args.self.now.breakpoints c.args.self.now.quiet c.args.cycle c.args.input
    c.text_line-in-Err-NoMemory.result.items (omega arith) stands.present late (c.in-Err-NoMemory.ensures.memory (ap Err is))
    c.text_line-in-Err-NoMemory.ensures.items)
