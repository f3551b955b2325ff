use Rattle.std.proofs.Common.{◌≡◌, ◌∙◌, Some, None, ap, if◌then◌else◌, sym, unwrap_or}
use Rattle.std.proofs.lemmas.Bool.{lt-ltb}
use Rattle.access.specs.CellText.{cell_text}
use Rattle.access.proofs.text.cell_of.Goals as goal

pub returns-clause-items : goal.returns-clause-items
returns-clause-items c =
    let cell : Some c.in-Some.cell ≡ Some c.args.cell = sym c.in-Some.is ∙ c.try_new.ensures
    ∙ ap (λ b. if b then Some c.args.cell else None) (lt-ltb c.args.cell 0o5000 c.requires) in
    c.cell_text.ensures.items ∙ ap (λ o. cell_text c.args.names.now (unwrap_or o 0)) cell
