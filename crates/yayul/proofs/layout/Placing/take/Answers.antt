use Rattle.std.proofs.Common.{◌≡◌, ◌+◌, length, replicate, ap, ◌∙◌, arith}
use Rattle.std.specs.Result.{result_unwrap_or}
use Rattle.rope.specs.Places.{stands}
use Rattle.yayul.specs.Layout.{width}
use Rattle.yayul.specs.Inside.Representation.{request_of, words_in}
use Rattle.yayul.proofs.WordsWhileWaiting.{made-width}
use Rattle.yayul.proofs.layout.Placing.take.Goals as goal

-- as many words as the request asks for
wide : (c : goal.After-put_words-arg-1) → length (words_in c.words_or_zeros-standing.result) ≡ width c.args.request.content
wide c =
    ap length c.words_or_zeros-standing.ensures
    ∙ ap (λ words. length (result_unwrap_or words (replicate (width c.args.request.content) 0))) c.content_words-words.ensures
    ∙ made-width c.args.symbols.now (request_of c.args.request)

pub put_words-requires-clause-room : goal.put_words-requires-clause-room
put_words-requires-clause-room c = omega (arith, c.requires.room, wide c)

pub put_words-requires-clause-next_free : goal.put_words-requires-clause-next_free
put_words-requires-clause-next_free c = λ two.
    ap (λ words. stands words c.args.request.bank (c.args.request.offset + 1)) c.settle.ensures.rope
    ∙ c.requires.next_free (omega (arith, two, wide c))
