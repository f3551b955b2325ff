use Rattle.std.proofs.Common.{◌≡◌, ◌∙◌, ◌+◌, sym, subst, refl, ◌<◌, length, get_or, arith, append-nil, Some, None, List, []}
use Rattle.std.proofs.lemmas.List.{get_or_default}
use Rattle.std.proofs.lemmas.Result.{err_from_is_err_and}
use Rattle.agc_text.specs.Lines.{lines}
use Rattle.words.proofs.Texts.{append-then, beginning-after, beginning-longer}
use Rattle.yayul.specs.Layout.{start}
use Rattle.yayul.specs.PlaceRows.{ListedLine, line_of, place_row}
use Rattle.yayul.specs.Program.{Source}
use Rattle.yayul.specs.Inside.Representation.{shown_by_mark}
use Rattle.yayul.specs.declared.mark.Mark.{Mark}
use Rattle.yayul.specs.declared.mark.Mark.TheVariants.{Nothing}
use Rattle.yayul.proofs.PlaceLines.{line_row_after, none_after, shown_first, shown_nowhere}
use Rattle.yayul.proofs.source_rows.SourceRows.write_row_of.Goals as goal

pub returns-then-index-marks-clause-some : goal.returns-then-index-marks-clause-some
returns-then-index-marks-clause-some g c =
    let source : Source = record { language = c.self.inside.language; text = c.self.inside.source.items } in
    let none : line_of source c.args.place ≡ None = shown_nowhere c.args.place 1 (start source.language) (lines source.text)
    c.self.inside.marks c.self.invariant
    (rw (c.as_slice-marks.ensures) at (sym c.first_to_show-index.ensures.first ∙ c.if-index-marks.true)) in
    rw (← c.self.view_is) (rw none refl)

pub returns-then-index-marks-clause-written : goal.returns-then-index-marks-clause-written
returns-then-index-marks-clause-written g c = λ told.
    let source : Source = record { language = c.self.inside.language; text = c.self.inside.source.items } in
    let none : line_of source c.args.place ≡ None = shown_nowhere c.args.place 1 (start source.language) (lines source.text)
    c.self.inside.marks c.self.invariant
    (rw (c.as_slice-marks.ensures) at (sym c.first_to_show-index.ensures.first ∙ c.if-index-marks.true)) in
    rw (← c.self.view_is) (rw (none_after c.args.front.now source c.args.rope.now c.args.word c.args.place none) (sym (append-nil _)))

pub returns-clause-some : goal.returns-clause-some
returns-clause-some g c =
    let source : Source = record { language = c.self.inside.language; text = c.self.inside.source.items } in
    let l : ListedLine = record {
      number = c.first_to_show-index.result
          + 1;
      text = c.line_after-text.result.now;
      shown = shown_by_mark c.index-marks-index.result;
    } in
    let below : c.first_to_show-index.result < length c.self.inside.marks = subst
    (λ (marks : List Mark). c.first_to_show-index.result < length marks) c.as_slice-marks.ensures
    (omega (arith, c.first_to_show-index.ensures.within, c.if-index-marks.false)) in
    let some : line_of source c.args.place ≡ Some l =
    shown_first c.args.place 1 (start source.language) (lines source.text) c.self.inside.marks c.first_to_show-index.result l.number l.text
    c.index-marks-index.result c.self.invariant
    (rw c.as_slice-marks.ensures at c.first_to_show-index.ensures.first) below (omega arith)
    (rw c.deref.ensures.value at c.line_after-text.ensures) (rw c.as_slice-marks.ensures at c.index-marks-index.is) in
    let text = line_row_after c.args.front.now source c.args.rope.now c.args.word c.args.place l some in
    rw (← c.self.view_is) (rw some refl)

pub returns-clause-written : goal.returns-clause-written
returns-clause-written g c = λ told.
    let source : Source = record { language = c.self.inside.language; text = c.self.inside.source.items } in
    let l : ListedLine = record {
      number = c.first_to_show-index.result
          + 1;
      text = c.line_after-text.result.now;
      shown = shown_by_mark c.index-marks-index.result;
    } in
    let below : c.first_to_show-index.result < length c.self.inside.marks = subst
    (λ (marks : List Mark). c.first_to_show-index.result < length marks) c.as_slice-marks.ensures
    (omega (arith, c.first_to_show-index.ensures.within, c.if-index-marks.false)) in
    let some : line_of source c.args.place ≡ Some l =
    shown_first c.args.place 1 (start source.language) (lines source.text) c.self.inside.marks c.first_to_show-index.result l.number l.text
    c.index-marks-index.result c.self.invariant
    (rw c.as_slice-marks.ensures at c.first_to_show-index.ensures.first) below (omega arith)
    (rw c.deref.ensures.value at c.line_after-text.ensures) (rw c.as_slice-marks.ensures at c.index-marks-index.is) in
    let text = line_row_after c.args.front.now source c.args.rope.now c.args.word c.args.place l some in
    rw (← c.self.view_is) (rw text (append-then _ _ _ _ _ (c.in_ok-write_all.ensures.written told)
    (c.in_ok-write_place_row.ensures.written told)))

pub returns-in_err-write_place_row-clause-written : goal.returns-in_err-write_place_row-clause-written
returns-in_err-write_place_row-clause-written g c = λ told.
    let failed = err_from_is_err_and c.from_residual-in_err-write_place_row.result c.from_residual-in_err-write_place_row.ensures.1 in
    let source : Source = record { language = c.self.inside.language; text = c.self.inside.source.items } in
    let l : ListedLine = record {
      number = c.first_to_show-index.result
          + 1;
      text = c.line_after-text.result.now;
      shown = shown_by_mark c.index-marks-index.result;
    } in
    let below : c.first_to_show-index.result < length c.self.inside.marks = subst
    (λ (marks : List Mark). c.first_to_show-index.result < length marks) c.as_slice-marks.ensures
    (omega (arith, c.first_to_show-index.ensures.within, c.if-index-marks.false)) in
    let some : line_of source c.args.place ≡ Some l =
    shown_first c.args.place 1 (start source.language) (lines source.text) c.self.inside.marks c.first_to_show-index.result l.number l.text
    c.index-marks-index.result c.self.invariant
    (rw c.as_slice-marks.ensures at c.first_to_show-index.ensures.first) below (omega arith)
    (rw c.deref.ensures.value at c.line_after-text.ensures) (rw c.as_slice-marks.ensures at c.index-marks-index.is) in
    let text = line_row_after c.args.front.now source c.args.rope.now c.args.word c.args.place l some in
    rw failed.1 (rw (← c.self.view_is) (rw text (beginning-after _ _ _ _ _ (c.in_ok-write_all.ensures.written told)
    (c.in_err-write_place_row.ensures.written told))))

pub returns-in_err-write_all-clause-written : goal.returns-in_err-write_all-clause-written
returns-in_err-write_all-clause-written g c = λ told.
    let failed = err_from_is_err_and c.from_residual.result c.from_residual.ensures.1 in
    let source : Source = record { language = c.self.inside.language; text = c.self.inside.source.items } in
    let mark = get_or c.self.inside.marks c.first_to_show-index.result Nothing in
    let l : ListedLine = record {
      number = c.first_to_show-index.result
          + 1;
      text = get_or (lines source.text) c.first_to_show-index.result [];
      shown = shown_by_mark mark;
    } in
    let below : c.first_to_show-index.result < length c.self.inside.marks = subst
    (λ (marks : List Mark). c.first_to_show-index.result < length marks) c.as_slice-marks.ensures
    (omega (arith, c.first_to_show-index.ensures.within, c.if-index-marks.false)) in
    let some : line_of source c.args.place ≡ Some l =
    shown_first c.args.place 1 (start source.language) (lines source.text) c.self.inside.marks c.first_to_show-index.result l.number l.text
    mark c.self.invariant
    (rw c.as_slice-marks.ensures at c.first_to_show-index.ensures.first) below (omega arith) refl
    (get_or_default c.self.inside.marks c.first_to_show-index.result Nothing mark below) in
    rw failed.1 (rw (← c.self.view_is) (rw (line_row_after c.args.front.now source c.args.rope.now c.args.word c.args.place l some)
    (beginning-longer _ _ _ (place_row c.args.rope.now c.args.word c.args.place l) (c.in_err-write_all.ensures.written told))))
