use Rattle.std.proofs.Common.{◌∙◌, ap}
use Rattle.symbols.specs.declared.values.Value.TheVariants.{Num}
use Rattle.near_names.specs.Names.{with_name}
use Rattle.near_names.proofs.Sets.{name_added, short_name}
use Rattle.near_names.proofs.names.NameSet.add.Goals as goal

pub returns-in_ok-define : goal.returns-in_ok-define
returns-in_ok-define c =
    let short = short_name c.in-Some.name c.args.text.now c.in-Some.ensures.0 c.in-Some.ensures.1 in
    name_added c.self.inside.symbols c.define.new.self c.in-Some.name c.in_ok-define.field-0 (Num 0) short c.in_ok-define.ensures.added
    c.in_ok-define.ensures.ok
    ∙ ap (λ names. with_name names c.in-Some.name) c.self.view_is ∙ ap (with_name c.args.self.now) c.in-Some.ensures.1
