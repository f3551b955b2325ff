use Rattle.std.proofs.Common.{ap, ◌∙◌}
use Rattle.access.proofs.Counting.{step_kept}
use Rattle.access.proofs.tally.Tally.keep.Goals as goal

pub returns : goal.returns
returns c = step_kept c.args.processor.now.scenario c.args.machine.now c.args.self.now c.settle_at.new.self c.put_at.new.self c.args.number
    c.first.result (rw c.settle_at.ensures.all c.requires.number) c.requires.known c.requires.account c.requires.repeats c.requires.kept
    c.slots_now-slots.ensures.known c.slots_now-slots.ensures.short c.settle_at.ensures.view c.settle_at.ensures.last
    c.settle_at.ensures.each c.settle_at.ensures.counts c.settle_at.ensures.kept
    (ap (λ k. k.slots) c.first.ensures ∙ c.slots_now-slots.ensures.items) (ap (λ k. k.kind) c.first.ensures ∙ c.requires.kind)
    (ap (λ k. k.count) c.first.ensures) c.put_at.ensures
