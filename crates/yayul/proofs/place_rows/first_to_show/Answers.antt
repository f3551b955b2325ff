use Rattle.std.proofs.Common.{◌≡◌, true, get_or, length, sym, ap, arith, ◌∙◌, Bool}
use Rattle.std.proofs.lemmas.List.Sums.{position_or_len_is}
use Rattle.yayul.specs.PlaceRows.{shows}
use Rattle.yayul.specs.Inside.Representation.{shown_by_mark}
use Rattle.yayul.specs.declared.mark.Mark.{Mark}
use Rattle.yayul.specs.declared.mark.Mark.TheVariants.{Nothing}
use Rattle.yayul.proofs.place_rows.first_to_show.Goals as goal

pub returns-then-shows-clause-first : goal.returns-then-shows-clause-first
returns-then-shows-clause-first c =
    let p : Mark → Bool = λ mark. shows c.args.place.now (shown_by_mark mark) in
    let it = c.index-marks-index.result in
    let i = c.loop-index.index in
    let here : p (get_or c.args.marks.now i it) ≡ true = ap p (sym c.index-marks-index.is) ∙ sym c.if-shows.ensures in
    sym (position_or_len_is p c.args.marks.now i it (omega (arith, c.loop-index-test.true)) (λ k h. c.loop-index.invariant k it h)
    (λ _. here))

pub returns-clause-first : goal.returns-clause-first
returns-clause-first c =
    let p : Mark → Bool = λ mark. shows c.args.place.now (shown_by_mark mark) in
    sym (position_or_len_is p c.args.marks.now (length c.args.marks.now) Nothing (omega arith)
    (λ k h. c.loop-index.invariant k Nothing (omega (arith, h, c.loop-index-test.false))) (λ h. absurd (omega (arith, h))))
