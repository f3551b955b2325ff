use Rattle.agc_text.specs.Fields.{runs, texts}
use Rattle.commands.proofs.ExtendedLaws.{fields-short, first-short, others-short, before_comment-short}
use Rattle.commands.proofs.extended.extended_in.Goals as goal

pub command_in-requires : goal.command_in-requires
command_in-requires c =
    others-short 80 _ c.in-Some.name.now (texts (runs c.in-Some.rest.now))
    (fields-short c.before_comment.result.now 80 (rw c.before_comment.ensures (before_comment-short c.args.line.now 80 c.requires)))
    c.in-Some.ensures

pub in_words-requires-clause-name : goal.in_words-requires-clause-name
in_words-requires-clause-name c =
    first-short 80 _ c.in-Some.name.now (texts (runs c.in-Some.rest.now))
    (fields-short c.before_comment.result.now 80 (rw c.before_comment.ensures (before_comment-short c.args.line.now 80 c.requires)))
    c.in-Some.ensures

pub in_words-requires-clause-fields : goal.in_words-requires-clause-fields
in_words-requires-clause-fields c =
    others-short 80 _ c.in-Some.name.now (texts (runs c.in-Some.rest.now))
    (fields-short c.before_comment.result.now 80 (rw c.before_comment.ensures (before_comment-short c.args.line.now 80 c.requires)))
    c.in-Some.ensures
