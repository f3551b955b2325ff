use Rattle.named_source.proofs.GivenBack.{given_back}
use Rattle.named_source.proofs.laws.named_source_gives_back.Goals as goal

pub returns : goal.returns
returns c = given_back c.args.names.now c.args.words.now c.args.bank
