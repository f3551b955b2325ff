use Rattle.std.proofs.Common.{◌∙◌, sym}
use Rattle.agc_text.specs.Fields.{runs, texts}
use Rattle.expect.proofs.Steps.{words_add, words_end, words_refuse, words_then}
use Rattle.expect.proofs.reading.+add_words.Goals as goal

pub returns-in_default : goal.returns-in_default
returns-in_default t c =
    words_end c.args.words.now.channel c.args.words.now.within c.args.words.now.at c.args.before c.args.place.test c.args.place.line
    (texts (runs c.args.fields.now)) c.args.claims.now.items c.in_default.ensures

pub returns-then-is_then : goal.returns-then-is_then
returns-then-is_then t c =
    rw (words_then c.args.words.now.channel c.args.words.now.within c.args.words.now.at c.args.before (texts (runs c.args.fields.now))
    c.in-Some.field.now (texts (runs c.in-Some.rest.now)) c.in-Some.ensures (sym c.is_then.ensures ∙ c.if-is_then.true))
    (rw (c.nothing_at-claim.ensures, c.from.ensures) at c.add_read.ensures)

pub returns-in_ok-add-in-Ok : goal.returns-in_ok-add-in-Ok
returns-in_ok-add-in-Ok t c =
    words_add c.args.words.now.channel c.args.words.now.within c.args.words.now.at c.args.before (texts (runs c.args.fields.now))
    c.in-Some.field.now (texts (runs c.in-Some.rest.now)) c.in-Ok.claim
    c.args.place.test c.args.place.line c.args.claims.now.items _ _ _ c.in-Some.ensures (sym c.is_then.ensures ∙ c.if-is_then.false)
    c.in-Ok.ensures.value c.in_ok-add-in-Ok.ensures.ok c.add_words.ensures

pub returns-in-Err : goal.returns-in-Err
returns-in-Err t c =
    words_refuse c.args.words.now.channel c.args.words.now.within c.args.words.now.at c.args.before (texts (runs c.args.fields.now))
    c.in-Some.field.now (texts (runs c.in-Some.rest.now)) c.in-Err.wrong
    c.args.place.test c.args.place.line c.args.claims.now.items _ c.in-Some.ensures (sym c.is_then.ensures ∙ c.if-is_then.false)
    c.in-Err.ensures.value c.refused.ensures
