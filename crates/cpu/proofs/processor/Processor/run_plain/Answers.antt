use Rattle.std.proofs.Common.{◌≡◌, ◌∙◌, ◌+◌, ◌-◌, ◌*◌, ◌<◌, ◌≤◌, ℕ, None, ap, arith, rules, sym}
use Rattle.rope.specs.Places.{Words}
use Rattle.feed.specs.Merged.{due}
use Rattle.cpu.specs.Bursts.{IsStill}
use Rattle.cpu.specs.Next.{execute}
use Rattle.cpu.specs.State.{Scenario, State}
use Rattle.cpu.proofs.Bursts.{HasCome, comes_on}
use Rattle.cpu.proofs.SilentLaws.{few_at}
use Rattle.cpu.proofs.processor.Processor.run_plain.Goals as goal
use Rattle.cpu.proofs.processor.Processor.run_plain.Goals.{then-extra-2+else-left-eq1+else-not-execute_extracode, else-extra-2}

-- an instruction that is executed where some steps are left makes one of them
one_more : (p : Scenario) (r : Words) (from : State) (done most left k silent : ℕ) (m t : State) → HasCome p from done (done + most - left) m
    → 0 < left → left ≤ most → k + left ≡ done + most + 1
    → ((cycles : ℕ) → cycles < silent → due p.inputs from.taken cycles ≡ None) → from.cycles + 6 * most ≤ silent
    → r ≡ p.rope → execute r m ≡ (t, None) → IsStill t → HasCome p from done k t
one_more p r from done most left k silent m t come some high next none room same made still =
    comes_on p from done (done + most - left) k silent m t come (omega (arith, high)) (omega (arith, some, high, next)) none
    (omega (arith, come.cycles, some, high, room)) (ap (λ (q : Words). execute q m) (sym same) ∙ made) still

pub execute_basic-requires-clause-few : goal.execute_basic-requires-clause-few
execute_basic-requires-clause-few c =
    few_at c.args.self.now.scenario (c.args.done + c.min-left.result - c.loop-left.left) c.loop-left.machine c.loop-left.invariant.come.stands (omega arith)

pub execute_extracode-requires-clause-few : goal.execute_extracode-requires-clause-few
execute_extracode-requires-clause-few c =
    let p = c.args.self.now.scenario in
    let come = one_more p c.rope-rope.result.now c.args.machine.now c.args.done c.min-left.result c.loop-left.left (c.args.done + c.min-left.result - (c.loop-left.left - 1)) c.args.silent c.loop-left.machine
    c.execute_basic.new.self c.loop-left.invariant.come (omega arith) (omega (arith, c.loop-left.invariant.low)) (omega (arith, c.loop-left-test.true, c.loop-left.invariant.low))
    c.requires.silent (omega (arith, c.loop-left-test.true, c.min-left.ensures, c.saturating_sub-room.ensures, c.cycles.ensures))
    c.rope-rope.ensures (sym c.in-Some.ensures.made) c.execute_basic.ensures.still in
    few_at p (c.args.done + c.min-left.result - (c.loop-left.left - 1)) c.execute_basic.new.self come.stands (omega arith)

pub returns-then-left-eq1 : goal.returns-then-left-eq1
returns-then-left-eq1 c =
    let p = c.args.self.now.scenario in
    let come = one_more p c.rope-rope.result.now c.args.machine.now c.args.done c.min-left.result c.loop-left.left (c.args.done + c.min-left.result) c.args.silent c.loop-left.machine
    c.execute_basic.new.self c.loop-left.invariant.come (omega arith) (omega (arith, c.loop-left.invariant.low)) (omega (arith, c.if-left-eq1.true))
    c.requires.silent (omega (arith, c.loop-left-test.true, c.min-left.ensures, c.saturating_sub-room.ensures, c.cycles.ensures))
    c.rope-rope.ensures (sym c.in-Some.ensures.made) c.execute_basic.ensures.still in
    record { past = omega arith; within = omega arith; state = come.stands; taken = come.taken; none = come.silent }

pub returns-then-not-execute_extracode : goal.returns-then-not-execute_extracode
returns-then-not-execute_extracode c =
    let p = c.args.self.now.scenario in
    let come = one_more p c.rope-rope.result.now c.args.machine.now c.args.done c.min-left.result c.loop-left.left (c.args.done + c.min-left.result - (c.loop-left.left - 1)) c.args.silent c.loop-left.machine
    c.execute_basic.new.self c.loop-left.invariant.come (omega arith) (omega (arith, c.loop-left.invariant.low)) (omega (arith, c.loop-left-test.true, c.loop-left.invariant.low))
    c.requires.silent (omega (arith, c.loop-left-test.true, c.min-left.ensures, c.saturating_sub-room.ensures, c.cycles.ensures))
    c.rope-rope.ensures (sym c.in-Some.ensures.made) c.execute_basic.ensures.still in
    let same = c.execute_extracode.ensures.left (search rules) in
    record {
      past = omega (arith, c.loop-left.invariant.low);
      within = omega arith;
      state = same ∙ come.stands;
      taken = ap (λ (u : State). u.taken) same ∙ come.taken;
      none = come.silent;
    }

pub loop-left-preserved : goal.loop-left-preserved
loop-left-preserved c =
    let p = c.args.self.now.scenario in
    let come = one_more p c.rope-rope.result.now c.args.machine.now c.args.done c.min-left.result c.loop-left.left (c.args.done + c.min-left.result - (c.loop-left.left - 1)) c.args.silent c.loop-left.machine
    c.execute_basic.new.self c.loop-left.invariant.come (omega arith) (omega (arith, c.loop-left.invariant.low)) (omega (arith, c.loop-left-test.true, c.loop-left.invariant.low))
    c.requires.silent (omega (arith, c.loop-left-test.true, c.min-left.ensures, c.saturating_sub-room.ensures, c.cycles.ensures))
    c.rope-rope.ensures (sym c.in-Some.ensures.made) c.execute_basic.ensures.still in
    elim c.if-extra-2.branch [
      | then-extra-2+else-left-eq1+else-not-execute_extracode w ↦
          let u = w.execute_extracode.new.self in
          let more = one_more p c.rope-rope.result.now c.args.machine.now c.args.done c.min-left.result (c.loop-left.left - 1)
          (c.args.done + c.min-left.result - (c.loop-left.left - 1 - 1)) c.args.silent c.execute_basic.new.self u come
          (omega (arith, c.loop-left-test.true, w.if-left-eq1.false)) (omega (arith, c.loop-left.invariant.low))
          (omega (arith, c.loop-left-test.true, c.loop-left.invariant.low, w.if-left-eq1.false)) c.requires.silent
          (omega (arith, c.loop-left-test.true, c.min-left.ensures, c.saturating_sub-room.ensures, c.cycles.ensures, c.loop-left.invariant.low))
          c.rope-rope.ensures (sym (w.execute_extracode.ensures.made (search rules))) w.execute_extracode.ensures.still in
          record {
            low = omega (arith, c.loop-left.invariant.low, w.left-is);
            come = rw (w.left-is, w.machine-is) more;
            basic = rw w.machine-is (w.execute_extracode.ensures.basic (search rules));
          }
      | else-extra-2 w ↦
          record {
            low = omega (arith, c.loop-left.invariant.low, w.left-is);
            come = rw (w.left-is, w.machine-is) come;
            basic = rw w.machine-is (c.in-Some.ensures.extra ∙ w.if-extra-2.false);
          }
    ]
