use Rattle.std.proofs.Common.{◌≡◌, ◌≤◌, ◌+◌, ◌*◌, ℕ, drop, length, refl, arith}
use Rattle.std.proofs.lemmas.List.{length-take-le}
use Rattle.rope.proofs.ReadSteps.{ready_first}
use Rattle.rope.proofs.memory.Rope.take_ready.Goals as goal

pub returns-then-pass-clause-goes : goal.returns-then-pass-clause-goes
returns-then-pass-clause-goes g c = λ told old before.
    let count : ℕ = c.min-count.result in
    let left = g.R.Read.left c.args.reader.now in
    let ready = c.ready-ready.result.now in
    let room : 2 * count ≤ length ready = omega (arith, c.min-count.ensures) in
    let spell = rw (length-take-le (2 * count) ready room) at (c.if-not-all_spell.ensures refl) in
    rw (c.if-pass.ensures.bytes told) (c.set_spelled.ensures.goes c.args.version (drop (2 * count) left) spell old
    (rw (ready_first ready (drop (length ready) left) left (2 * count) room (c.ready-ready.ensures told)) before))

pub returns-else-pass-clause-goes : goal.returns-else-pass-clause-goes
returns-else-pass-clause-goes g c = λ told old before.
    let same : c.args.position + 0 ≡ c.args.position = omega arith in
    rw (same, c.if-pass.ensures.bytes told) (c.set_spelled.ensures.kept c.args.version (g.R.Read.left c.args.reader.now) old before)
