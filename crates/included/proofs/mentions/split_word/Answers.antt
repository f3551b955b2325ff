use Rattle.included.proofs.Turns.{split_first}
use Rattle.included.proofs.mentions.split_word.Goals as goal

pub returns-then-end-text-clause-words : goal.returns-then-end-text-clause-words
returns-then-end-text-clause-words c =
    split_first c.args.text.now c.length_before_byte-end.result c.length_before_byte-end.ensures.value c.if-end-text.true
