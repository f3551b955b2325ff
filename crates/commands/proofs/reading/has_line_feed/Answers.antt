use Rattle.std.proofs.Common.{sym, ◌∙◌}
use Rattle.commands.proofs.LineSteps.{none-found, found-none}
use Rattle.commands.proofs.reading.has_line_feed.Goals as goal

pub returns : goal.returns
returns c = (
  λ none. found-none c.args.bytes.now (sym c.contains.ensures.value ∙ none),
  λ none. c.contains.ensures.value ∙ none-found c.args.bytes.now none,
)
