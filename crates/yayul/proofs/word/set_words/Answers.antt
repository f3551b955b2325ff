use Rattle.std.proofs.Common.{◌≡◌, ◌+◌, ◌<◌, length, is_some, inr, ap, ◌∙◌, arith}
use Rattle.rope.specs.Places.{stands}
use Rattle.rope.proofs.PlaceLaws.{slot_at-with_word_other}
use Rattle.yayul.specs.Inside.Representation.{words_in}
use Rattle.yayul.proofs.word.set_words.Goals as goal

pub set-requires-in-Two-2 : goal.set-requires-in-Two-2
set-requires-in-Two-2 c =
    let next : c.in-Some.next ≡ c.args.offset + 1 = omega (arith, c.in-Some.ensures.1, c.number.ensures.value) in
    let two : 1 < length (words_in c.args.words) = rw c.in-Two.is (omega arith) in
    ap (λ words. stands words c.bank-in-Two-2.result c.in-Some.next) c.set-in-Two.ensures
    ∙ ap is_some (slot_at-with_word_other c.args.rope.now c.bank-in-Two.result c.args.offset _ c.bank-in-Two-2.result c.in-Some.next
    (omega (arith, c.number.ensures.value, c.number.ensures.range)) (inr (λ same. omega (arith, same, next))))
    ∙ ap (λ bank. stands c.args.rope.now bank c.in-Some.next) c.bank-in-Two-2.ensures.value
    ∙ ap (λ offset. stands c.args.rope.now c.args.bank offset) next
    ∙ c.requires.next two
