use Rattle.std.proofs.Common.{◌≡◌, ◌∙◌, ap, is_some, get_or, None, Option, ℕ, List, rules}
use Rattle.rope.specs.Places.{no_words, slot_at}
use Rattle.rope.specs.Slots.{words_of, slot_count}
use Rattle.rope.proofs.PlaceLaws.{slot_at-no_words}
use Rattle.rope.proofs.SlotWords.{nothing, words_of-none}
use Rattle.rope.proofs.memory.Rope.empty.Goals as goal

empty : (c : goal.In-Ok) → words_of c.in-Ok.slots.items ≡ no_words
unfolding no_words
empty c = ap words_of c.in-Ok.ensures ∙ words_of-none slot_count

pub invariant_of-result : goal.invariant_of-result
invariant_of-result c = (
  (search rules),
  (λ n beyond. ap (λ (slots : List (Option ℕ)). get_or slots n None) c.in-Ok.ensures ∙ nothing slot_count n),
)

pub returns-in-Ok-clause-ok : goal.returns-in-Ok-clause-ok
returns-in-Ok-clause-ok c = empty c

pub returns-in-Ok-clause-nothing : goal.returns-in-Ok-clause-nothing
returns-in-Ok-clause-nothing c = λ bank offset. ap (λ words. is_some (slot_at words bank offset)) (empty c)
    ∙ ap is_some (slot_at-no_words bank offset)
