use Rattle.std.proofs.Common.{◌≡◌, ◌<◌, ◌+◌, ◌-◌, ◌∷◌, ◌∙◌, sym, ap, arith, length, take, drop, take_all, length-drop, eqb, [], refl}
use Rattle.agc_text.specs.Bytes.{line_feed}
use Rattle.std.specs.List.{position_or_len}
use Rattle.std.proofs.lemmas.Bool.{eqb-false}
use Rattle.agc_text.proofs.LineLaws.{first_line, last_line, lines-none}
use Rattle.yayul.proofs.source_lines.line_and_rest.Goals as goal

pub returns-then-is_empty-clause-lines : goal.returns-then-is_empty-clause-lines
returns-then-is_empty-clause-lines c = lines-none c.args.text.now (grind (arith, c.is_empty.ensures, c.if-is_empty.true))

pub returns-then-end-text-clause-lines : goal.returns-then-end-text-clause-lines
returns-then-end-text-clause-lines c =
    let whole : take (length c.args.text.now - (c.length_before_feed-end.result + 1)) (drop (c.length_before_feed-end.result + 1) c.args.text.now)
    ≡ drop (c.length_before_feed-end.result + 1) c.args.text.now =
    take_all _ _ (omega (arith, length-drop (c.length_before_feed-end.result + 1) c.args.text.now)) in
    let lt : position_or_len (λ b. eqb b line_feed) c.args.text.now
    < length c.args.text.now = omega (arith, c.length_before_feed-end.ensures.value) in
    rw (whole, c.length_before_feed-end.ensures.value) (first_line c.args.text.now lt)

pub returns-else-end-text-clause-lines : goal.returns-else-end-text-clause-lines
returns-else-end-text-clause-lines c =
    last_line c.args.text.now (omega (arith, eqb-false (length c.args.text.now) 0 (sym c.is_empty.ensures ∙ c.if-is_empty.false)))
    (omega (arith, c.length_before_feed-end.ensures.value))
    ∙ ap (λ more. c.args.text.now ∷ more) (sym (lines-none [] refl))
