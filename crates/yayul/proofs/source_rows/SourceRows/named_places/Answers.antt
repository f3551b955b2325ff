use Rattle.std.proofs.Common.{◌≡◌, ◌∙◌, ap, map}
use Rattle.agc_text.specs.Lines.{lines}
use Rattle.yayul.specs.Layout.{start}
use Rattle.yayul.specs.Named.{lines_named, named_places, nothing_named}
use Rattle.yayul.specs.Inside.Names.{shown_named}
use Rattle.yayul.specs.Inside.Representation.{shown_by_mark}
use Rattle.yayul.proofs.Names.{named-shown}
use Rattle.yayul.proofs.source_rows.SourceRows.named_places.Goals as goal

pub returns : goal.returns
unfolding named_places
returns c = λ rope.
    let shown : shown_named c.self.inside.language c.args.symbols.now nothing_named (lines c.self.inside.source.items)
    (map shown_by_mark c.self.inside.marks)
    ≡ lines_named c.self.inside.language c.args.symbols.now nothing_named 1 (start c.self.inside.language)
    (lines c.self.inside.source.items) =
    ap (shown_named c.self.inside.language c.args.symbols.now nothing_named (lines c.self.inside.source.items)) c.self.invariant
    ∙ named-shown c.self.inside.language c.args.symbols.now nothing_named 1 (start c.self.inside.language)
    (lines c.self.inside.source.items) in
    rw (← c.self.view_is) (rw (c.deref.ensures.value, c.as_slice.ensures, shown) at c.of_lines.ensures)
