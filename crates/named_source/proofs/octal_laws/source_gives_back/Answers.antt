use Rattle.named_source.proofs.OctalGivenBack.{given_back}
use Rattle.named_source.proofs.octal_laws.source_gives_back.Goals as goal

pub returns : goal.returns
returns c = λ few is. given_back c.args.words.now c.args.bank few is
