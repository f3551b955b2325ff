use Rattle.std.proofs.Common.{◌∙◌, ap, is_some}
use Rattle.std.proofs.lemmas.Map.Made.{is_some-lookup}
use Rattle.agc_text.specs.Tables.{same_name}
use Rattle.near_names.specs.Names.{is_among}
use Rattle.near_names.proofs.names.NameSet.has_symbol.Goals as goal

pub returns : goal.returns
returns c =
    c.is_some.ensures ∙ ap is_some c.symbol.ensures ∙ is_some-lookup (same_name c.args.text.now) c.self.inside.symbols
    ∙ ap (λ names. is_among names c.args.text.now) c.self.view_is
