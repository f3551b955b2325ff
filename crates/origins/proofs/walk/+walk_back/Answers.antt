use Rattle.std.proofs.Common.{◌+◌, ◌-◌, ◌/◌, ◌≤◌, ◌∙◌, arith}
use Rattle.origins.proofs.Halves.{halves_cheap, halves_few}
use Rattle.origins.proofs.Seen.{seen_halves}
use Rattle.origins.proofs.Steps.{fits_after}
use Rattle.origins.proofs.walk.+walk_back.Goals as goal

pub see-requires-clause-fits : goal.see-requires-clause-fits
see-requires-clause-fits t c = fits_after c.args.processor.now.scenario c.args.image.now.step _ c.requires.of_run.machine

pub overflow_add-result : goal.overflow_add-result
overflow_add-result t c =
    let later : c.walk_back-held.result ≤ 40 =
    c.walk_back-held.ensures.images 40 (omega (arith, c.requires.few, c.gone_on-later.ensures.step)) in
    let earlier : c.walk_back-held_before.result ≤ 40 = c.walk_back-held_before.ensures.images 40 (omega (arith, c.requires.few)) in
    omega (arith, later, earlier, c.max.ensures)

pub returns-clause-seen : goal.returns-clause-seen
returns-clause-seen t c =
    let split = c.gone_on-later.ensures.step in
    seen_halves c.args.processor.now.scenario _ _ c.args.image.now.step (c.args.image.now.step + (c.args.high - c.args.image.now.step) / 2)
    c.args.high _ _ _ (omega arith) (omega (arith, c.requires.order)) c.gone_on-later.ensures.scenario
    (c.walk_back-held.ensures.scenario ∙ c.gone_on-later.ensures.scenario)
    (rw split at c.walk_back-held.ensures.seen) c.walk_back-held_before.ensures.seen

pub returns-clause-made : goal.returns-clause-made
returns-clause-made t c =
    let low = c.args.image.now.step in
    let split = c.gone_on-later.ensures.step in
    let once = c.gone_on-later.ensures.once in
    halves_cheap (c.args.high - low) ((low + (c.args.high - low) / 2) - low) (c.args.high - c.gone_on-later.result.step)
    c.args.processor.now.meter _ _ _ (omega (arith, c.if-count-eq0.false, c.if-count-eq1.false)) (omega (arith, split, c.requires.order))
    (omega (arith, split, c.requires.order)) (omega (arith, split, c.requires.order)) (omega (arith, split, once, c.requires.order))
    c.walk_back-held.ensures.made c.walk_back-held_before.ensures.made

pub returns-clause-images : goal.returns-clause-images
returns-clause-images t c =
    let low = c.args.image.now.step in
    let split = c.gone_on-later.ensures.step in
    halves_few (c.args.high - low) ((low + (c.args.high - low) / 2) - low) (c.args.high - c.gone_on-later.result.step)
    c.walk_back-held.result c.walk_back-held_before.result _ (omega (arith, c.if-count-eq0.false, c.if-count-eq1.false))
    (omega (arith, split, c.requires.order)) (omega (arith, split, c.requires.order)) (omega (arith, split, c.requires.order))
    c.walk_back-held.ensures.images c.walk_back-held_before.ensures.images
    (λ n one other. omega (arith, one, other, c.max.ensures))
