use Rattle.std.specs.Prelude.{◌==◌}
use Rattle.std.specs.List.{slice_split}
use Rattle.agc_text.specs.Bytes.{space}
use Rattle.included.proofs.Turns.{on_ok, word_last, word_passed}
use Rattle.included.proofs.mentions.push_located.Goals as goal

pub loop-word-preserved : goal.loop-word-preserved
loop-word-preserved c =
    word_passed c.args.path.now c.args.joined.now c.loop-word.told c.tells_line-told.result c.in-Some.word.now c.in-Some.following.now
    (slice_split (λ byte. byte == space) c.loop-word.rest.now) c.loop-word.out.items c.push_spaced.new.out.items _
    c.in-Some.ensures.words c.tells_line-told.ensures c.in_ok-push_spaced.ensures c.loop-word.invariant

pub returns : goal.returns
returns c =
    on_ok c.push_word.result
    (λ appended. word_last c.args.path.now c.args.joined.now c.loop-word.told c.loop-word.rest.now
    (slice_split (λ byte. byte == space) c.loop-word.rest.now) c.loop-word.out.items c.push_word.new.out.items _
    c.in_default.ensures.words appended c.loop-word.invariant)
    c.push_word.ensures
