use Rattle.replay.proofs.OneList.{images_are_one}
use Rattle.replay.proofs.laws.images_are_one.Goals as goal

pub returns : goal.returns
returns c = λ n xs ys. images_are_one c.args.processor.now.scenario n xs ys
