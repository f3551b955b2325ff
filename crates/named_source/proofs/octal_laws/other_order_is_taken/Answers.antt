use Rattle.named_source.proofs.OtherOrder.{taken_as_image}
use Rattle.named_source.proofs.octal_laws.other_order_is_taken.Goals as goal

pub returns : goal.returns
returns c = taken_as_image c.args.words.now
