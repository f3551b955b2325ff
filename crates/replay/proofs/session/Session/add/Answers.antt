use Rattle.std.proofs.Common.{arith}
use Rattle.replay.proofs.AddLemmas.{added_sound, has_added}
use Rattle.replay.proofs.session.Session.add.Goals as goal
use Rattle.replay.proofs.session.Session.add.Goals.{in-Ok, in-Err-TooMany, in-Err-NoMemory}

pub invariant_of-self : goal.invariant_of-self
invariant_of-self g c =
    elim c.match-add.branch [
      | in-Ok w ↦ added_sound _ c.add.new.self c.args.cycle c.args.input c.self.invariant
          (omega (arith, c.if-cycle-cycles.false, c.cycles.ensures)) w.in-Ok.ensures.added w.in-Ok.ensures.later
      | in-Err-TooMany w ↦ rw w.in-Err-TooMany.ensures.unchanged c.self.invariant
      | in-Err-NoMemory w ↦ rw w.in-Err-NoMemory.ensures.unchanged c.self.invariant
    ]

pub returns-clause-ok : goal.returns-clause-ok
returns-clause-ok g c =
    elim c.match-add.branch [
      | in-Ok w ↦ rw w.result-is (has_added c.args.self.now _ c.add.new.self c.args.cycle c.args.input c.self.view_is c.self.invariant
          (omega (arith, c.if-cycle-cycles.false, c.cycles.ensures)) w.in-Ok.ensures.added w.in-Ok.ensures.later)
      | in-Err-TooMany w ↦ rw w.result-is tt
      | in-Err-NoMemory w ↦ rw w.result-is tt
    ]
