use Rattle.std.proofs.Common.{◌≡◌, ◌<◌, List, true, length, set, subst, sym, arith}
use Rattle.delays.specs.declared.call.Call.{Call}
use Rattle.delays.specs.ShortTests.{AreMarked}
use Rattle.delays.proofs.Short.{marked_pushed, marked_rest, marked_taken}
use Rattle.delays.proofs.call.Calls.enter.Goals as goal
use Rattle.delays.proofs.call.Calls.enter.Goals.{then-is_full, else-is_full}

pub invariant_of-self : goal.invariant_of-self
invariant_of-self c =
    let marked = c.self.inside.marked in
    let short : AreMarked marked c.truncate.new.self.items =
    subst (λ (cs : List Call). AreMarked marked cs) (sym c.truncate.ensures.items)
    (marked_taken marked c.self.inside.calls.items c.depth-count.result c.self.invariant) in
    let before : AreMarked c.if-is_full.self-inside.marked c.if-is_full.self-inside.calls.items =
    elim c.if-is_full.branch [
      | then-is_full w ↦
          rw w.self-inside-is
          (subst (λ (cs : List Call). AreMarked marked cs) (sym w.remove.ensures.items)
          (marked_rest marked c.truncate.new.self.items short))
      | else-is_full w ↦ rw w.self-inside-is short
    ] in
    let long : length c.self.inside.marked ≡ 256 = c.self.ranges.1.0.1.0.1 in
    let within : c.low_bits.result < length c.if-is_full.self-inside.marked =
    elim c.if-is_full.branch [
      | then-is_full w ↦ rw w.self-inside-is (omega (arith, c.low_bits.ensures.within, long))
      | else-is_full w ↦ rw w.self-inside-is (omega (arith, c.low_bits.ensures.within, long))
    ] in
    subst (λ (cs : List Call). AreMarked (set c.if-is_full.self-inside.marked c.low_bits.result true) cs) (sym c.push.ensures.items)
    (marked_pushed c.if-is_full.self-inside.marked c.if-is_full.self-inside.calls.items c.args.call c.low_bits.result within
    c.low_bits.ensures.value before)
