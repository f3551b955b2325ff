use Rattle.std.proofs.Common.{◌∙◌, ◌+◌, Err, ap, sym}
use Rattle.std.proofs.lemmas.Bool.{le-ltb, lt-ltb}
use Rattle.agc_text.specs.Fields.{runs, texts}
use Rattle.expect.specs.Lines.{claiming_notes, going_on, kinds_at}
use Rattle.expect.proofs.Noted.{kinds_end, kinds_many, kinds_more}
use Rattle.expect.proofs.notes.+kinds_at.Goals as goal

pub returns-in-Ok : goal.returns-in-Ok
returns-in-Ok t c =
    ap claiming_notes c.in-Ok.ensures
    ∙ sym (kinds_end c.args.symbols.now c.args.at c.args.listed (texts (runs c.args.fields.now)) c.in_default.ensures)

pub returns-in-Err : goal.returns-in-Err
returns-in-Err t c =
    ap claiming_notes c.in-Err.ensures
    ∙ sym (kinds_end c.args.symbols.now c.args.at c.args.listed (texts (runs c.args.fields.now)) c.in_default.ensures)

pub returns-then-at-gt-LAST_KIND : goal.returns-then-at-gt-LAST_KIND
returns-then-at-gt-LAST_KIND t c =
    ap Err c.wrong.ensures
    ∙ sym (kinds_many c.args.symbols.now c.args.at c.args.listed (texts (runs c.args.fields.now))
    _ _ c.in-Some.ensures (lt-ltb 60 c.args.at c.if-at-gt-LAST_KIND.true))

pub returns-in-Ok-listed_next : goal.returns-in-Ok-listed_next
returns-in-Ok-listed_next t c =
    c.kinds_at.ensures
    ∙ ap (λ r. going_on r (λ next. kinds_at c.args.symbols.now (c.args.at + 1) next (texts (runs c.in-Some.rest.now))))
    c.in-Ok-listed_next.ensures.next
    ∙ sym (kinds_more c.args.symbols.now c.args.at c.args.listed (texts (runs c.args.fields.now))
    _ _ c.in-Some.ensures (le-ltb 60 c.args.at c.if-at-gt-LAST_KIND.false))

pub returns-in-Err-listed_next : goal.returns-in-Err-listed_next
returns-in-Err-listed_next t c =
    ap (λ r. going_on r (λ next. kinds_at c.args.symbols.now (c.args.at + 1) next (texts (runs c.in-Some.rest.now))))
    c.in-Err-listed_next.ensures.next
    ∙ sym (kinds_more c.args.symbols.now c.args.at c.args.listed (texts (runs c.args.fields.now))
    _ _ c.in-Some.ensures (le-ltb 60 c.args.at c.if-at-gt-LAST_KIND.false))
