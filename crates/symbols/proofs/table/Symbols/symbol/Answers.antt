use Rattle.std.proofs.Common.{rules, ap, ◌∙◌, ◌<◌, length}
use Rattle.agc_text.specs.Tables.{value_in}
use Rattle.symbols.proofs.Names.{lookup-seen, value_in-long}
use Rattle.symbols.proofs.table.Symbols.symbol.Goals as goal

pub returns-in_err-name : goal.returns-in_err-name
returns-in_err-name c =
    let long : 8 < length c.args.name.now = search rules in
    c.from_residual.ensures
    ∙ value_in-long (λ name. name.items) 8 c.self.inside.values.entries c.args.name.now c.self.invariant long
    ∙ ap (λ table. value_in table c.args.name.now) c.self.view_is

pub returns : goal.returns
returns c =
    c.copied.ensures ∙ c.get.ensures.value
    ∙ lookup-seen (λ name. name.items) c.self.inside.values.entries c.key.result.now
    ∙ ap (λ table. value_in table c.key.result.now.items) c.self.view_is
    ∙ ap (λ name. value_in c.args.self.now name) c.key.ensures
    ∙ ap (λ name. value_in c.args.self.now name) c.in_ok-name.ensures.1
