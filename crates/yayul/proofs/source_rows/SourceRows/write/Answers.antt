use Rattle.std.proofs.Common.{◌≡◌, ◌∙◌, ap, map}
use Rattle.agc_text.specs.Lines.{lines}
use Rattle.yayul.specs.Layout.{start}
use Rattle.yayul.specs.Listing.{rows}
use Rattle.yayul.specs.ListingObjects.{line_in}
use Rattle.yayul.specs.Inside.Representation.{shown_by_mark, rows_of}
use Rattle.yayul.proofs.RowTexts.{rows-shown}
use Rattle.yayul.proofs.source_rows.SourceRows.write.Goals as goal

pub returns-clause-written : goal.returns-clause-written
returns-clause-written g c = λ told.
    let text = line_in c.args.notation (g.M.Margin.text c.args.margin.now) in
    let shown : rows_of text 1 c.args.rope.now (lines c.self.inside.source.items) (map shown_by_mark c.self.inside.marks)
    ≡ rows text 1 (start c.self.inside.language) c.args.rope.now (lines c.self.inside.source.items) =
    ap (rows_of text 1 c.args.rope.now (lines c.self.inside.source.items)) c.self.invariant
    ∙ rows-shown text 1 (start c.self.inside.language) c.args.rope.now (lines c.self.inside.source.items) in
    rw (← c.self.view_is) (rw (c.deref.ensures.value, c.as_slice.ensures, shown) at (c.write_rows.ensures.written told))
