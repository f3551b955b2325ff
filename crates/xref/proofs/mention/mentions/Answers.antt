use Rattle.std.proofs.Common.{◌≡◌, ◌+◌, ◌++◌, ◌∙◌, ℕ, List, [], map, ap, sym, arith, append-nil}
use Rattle.std.proofs.lemmas.List.{nil_from_length}
use Rattle.agc_text.specs.Lines.{lines}
use Rattle.yayul.specs.Readings.{parts_for}
use Rattle.xref.specs.Xref.{mentions_from, told}
use Rattle.xref.proofs.MentionRows.{mentioned}
use Rattle.xref.proofs.mention.mentions.Goals as goal

pub loop-index-preserved : goal.loop-index-preserved
loop-index-preserved c =
    let i = c.loop-index.index in
    record {
      short = omega (arith, c.loop-index.invariant.short, c.in-Some.ensures.shorter);
      left = mentioned c.args.language (map told c.loop-index.found.items) _ (i + 1) (lines c.loop-index.rest.now)
          (lines c.in-Some.after.now) c.in-Some.text.now _ _ c.in-Some.ensures.lines c.reading_of.ensures c.in_ok-note.ensures
          c.loop-index.invariant.left;
    }

pub returns : goal.returns
unfolding lines
returns c =
    let found = map told c.loop-index.found.items in
    let none : c.loop-index.rest.now ≡ [] = nil_from_length c.loop-index.rest.now
    (omega (arith, c.loop-index.invariant.short, c.loop-index-test.false)) in
    sym (append-nil found) ∙ ap (λ (r : List ℕ). found
    ++ mentions_from (c.loop-index.index + 1) (map (parts_for c.args.language) (lines r))) (sym none) ∙ c.loop-index.invariant.left
