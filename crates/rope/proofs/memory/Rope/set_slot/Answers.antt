use Rattle.std.proofs.Common.{ℕ, Option, ◌∙◌, ap, arith}
use Rattle.std.specs.FinMap as map
use Rattle.rope.specs.Places.{with_word}
use Rattle.std.proofs.Math.ListN.{set}
use Rattle.rope.specs.Slots.{words_of}
use Rattle.rope.proofs.SlotWords.{words_of-set}
use Rattle.rope.proofs.memory.Rope.set_slot.Goals as goal

pub returns : goal.returns
unfolding with_word
returns c =
    ap (λ (slot : Option ℕ). words_of (set c.self.inside.slots.items c.slot_number.result slot)) c.of.ensures
    ∙ words_of-set c.self.inside.slots.items c.slot_number.result c.args.word (omega arith)
    ∙ ap (λ words. map.insert words c.slot_number.result c.args.word) c.self.view_is
    ∙ ap (λ at. map.insert c.args.self.now at c.args.word) c.slot_number.ensures
