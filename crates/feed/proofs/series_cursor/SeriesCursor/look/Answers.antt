use Rattle.std.proofs.Common.{◌≡◌, ◌-◌, ◌∙◌, ap}
use Rattle.std.specs.Prelude.{slice_get}
use Rattle.feed.specs.Merged.{entries_of}
use Rattle.feed.specs.declared.entry.Series.{Series}
use Rattle.feed.proofs.CountTests.{none-at_start, one-before}
use Rattle.feed.proofs.series_cursor.SeriesCursor.look.Goals as goal
use Rattle.feed.proofs.series_cursor.SeriesCursor.look.Goals.{then-number-eq0, else-number-eq0}

pub returns-clause-last : goal.returns-clause-last
returns-clause-last c =
    let same : c.self.inside.rule ≡ c.args.self.now = c.self.view_is ∙ c.cycles-cycle.ensures.same in
    elim c.if-number-eq0.branch [
      | then-number-eq0 w ↦ none-at_start _ c.args.number c.if-number-eq0.last w.if-number-eq0.true w.last-is
      | else-number-eq0 w ↦ one-before _ c.args.number c.if-number-eq0.last w.if-number-eq0.false
          (w.last-is ∙ w.series_entry-last.ensures ∙ ap (λ (s : Series). slice_get (entries_of c.args.index s) (c.args.number - 1)) same)
    ]

pub returns-clause-next : goal.returns-clause-next
returns-clause-next c =
    let same : c.self.inside.rule ≡ c.args.self.now = c.self.view_is ∙ c.cycles-cycle.ensures.same in
    c.series_entry-next.ensures ∙ ap (λ (s : Series). slice_get (entries_of c.args.index s) c.args.number) same
