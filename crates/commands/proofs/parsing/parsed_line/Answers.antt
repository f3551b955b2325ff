use Rattle.std.proofs.Common.{◌∙◌}
use Rattle.commands.proofs.ParsedLaws.{request-kept, request-too-long}
use Rattle.commands.proofs.parsing.parsed_line.Goals as goal

pub returns-in-Some : goal.returns-in-Some
returns-in-Some c = λ bytes whole. c.parsed_in.ensures
    ∙ request-kept c.args.symbols.now bytes c.in-Some.text.now (c.in-Some.ensures.text ∙ whole)

pub returns-in-None : goal.returns-in-None
returns-in-None c = λ bytes long. request-too-long c.args.symbols.now bytes (c.in-None.ensures.text ∙ long)
