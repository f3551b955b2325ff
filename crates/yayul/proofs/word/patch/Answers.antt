use Rattle.std.proofs.Common.{◌≡◌, [], ◌∷◌, length, ap, sym, ◌∙◌, arith}
use Rattle.std.specs.Result.{result_err, result_map_both}
use Rattle.yayul.specs.Layout.{width, standing}
use Rattle.yayul.specs.Words.{extracode_of, extracode_fault, request_faults}
use Rattle.yayul.specs.Inside.Answers.{least_kind}
use Rattle.yayul.specs.Inside.Representation.{request_of, words_in}
use Rattle.yayul.proofs.WordsWhileWaiting.{width-words}
use Rattle.yayul.proofs.word.patch.Goals as goal

-- as many words as the request asks for
wide : (c : goal.After-set_words-arg-in-Ok-2-1) → length (words_in c.in-Ok.words) ≡ width c.args.request.now.content
wide c =
    width-words c.args.symbols.now (request_of c.args.request.now) (words_in c.in-Ok.words)
    (sym c.content_words-words.ensures ∙ ap (result_map_both words_in (λ kind. kind)) c.in-Ok.is)

pub set_words-requires-clause-room : goal.set_words-requires-clause-room
set_words-requires-clause-room c = omega (arith, c.requires.room, wide c)

pub set_words-requires-clause-next : goal.set_words-requires-clause-next
set_words-requires-clause-next c = λ two. c.requires.next (omega (arith, two, wide c))

pub returns-in-Ok-clause-fault : goal.returns-in-Ok-clause-fault
unfolding request_faults
returns-in-Ok-clause-fault c =
    c.request_fault-fault.ensures
    ∙ ap (λ words. least_kind (standing (result_err words
    ∷ extracode_fault (extracode_of c.args.request.now.content) c.args.request.now.extracode ∷ []))) c.content_words-words.ensures

pub returns-in_default-clause-fault : goal.returns-in_default-clause-fault
unfolding request_faults
returns-in_default-clause-fault c =
    c.request_fault-fault.ensures
    ∙ ap (λ words. least_kind (standing (result_err words
    ∷ extracode_fault (extracode_of c.args.request.now.content) c.args.request.now.extracode ∷ []))) c.content_words-words.ensures
