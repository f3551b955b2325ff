use Rattle.included.proofs.Alone.{is_itself}
use Rattle.included.proofs.laws.alone_is_itself.Goals as goal

pub returns : goal.returns
returns c = λ files most alone. is_itself files most c.args.name.now c.args.text.now alone
