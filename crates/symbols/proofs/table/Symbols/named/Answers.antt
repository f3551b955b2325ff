use Rattle.std.proofs.Common.{ap, ◌∙◌}
use Rattle.agc_text.specs.Tables.{value_in}
use Rattle.symbols.proofs.Names.{lookup-seen}
use Rattle.symbols.proofs.table.Symbols.named.Goals as goal

pub returns : goal.returns
returns c =
    c.copied.ensures ∙ c.get.ensures.value
    ∙ lookup-seen (λ name. name.items) c.self.inside.values.entries c.key.result.now
    ∙ ap (λ table. value_in table c.key.result.now.items) c.self.view_is
    ∙ ap (λ name. value_in c.args.self.now name) c.key.ensures
