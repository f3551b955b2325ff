use Rattle.std.proofs.Common.{◌∙◌}
use Rattle.commands.proofs.ExtendedLaws.{extended-kept, extended-too-long}
use Rattle.commands.proofs.extended.extended_line.Goals as goal

pub returns-in-Some : goal.returns-in-Some
returns-in-Some c = λ bytes whole. c.extended_in.ensures
    ∙ extended-kept c.args.symbols.now bytes c.in-Some.text.now (c.in-Some.ensures.text ∙ whole)

pub returns-in-None : goal.returns-in-None
returns-in-None c = λ bytes long. extended-too-long c.args.symbols.now bytes (c.in-None.ensures.text ∙ long)
