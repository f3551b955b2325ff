use Rattle.std.proofs.Common.{◌≡◌, ◌∙◌, ap}
use Rattle.words.proofs.Texts.{Writes-after}
use Rattle.reach.specs.RunText.{Found}
use Rattle.reach.specs.Roots.{roots_column}
use Rattle.reach.proofs.found.FoundMargin.write.Goals as goal

pub returns-clause-written : goal.returns-clause-written
returns-clause-written g c = λ told.
    let same : c.as_slice.result.now ≡ roots_column c.args.self.now.roots c.args.word = c.as_slice.ensures.value ∙ c.roots_column.ensures
    ∙ ap (λ (f : Found). roots_column f.roots c.args.word) c.self.view_is in
    Writes-after _ _ _ _ _ c.write_all.result (c.in_ok-write_columns.ensures.written told) (rw same at (c.write_all.ensures.written told))
