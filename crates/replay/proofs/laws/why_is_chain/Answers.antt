use Rattle.replay.proofs.WhyLemmas.{why_is_chain}
use Rattle.replay.proofs.laws.why_is_chain.Goals as goal

pub returns : goal.returns
returns c = λ k p xs. why_is_chain c.args.processor.now.scenario k p xs
