use Rattle.std.proofs.Common.{sym, ◌∙◌}
use Rattle.symbols.proofs.Beginnings.{no_register}
use Rattle.symbols.proofs.register.place_of_parts.Goals as goal

pub returns-else-begins_register : goal.returns-else-begins_register
returns-else-begins_register c = no_register c.args.first c.args.rest.now (sym c.begins_register.ensures ∙ c.if-begins_register.false)
