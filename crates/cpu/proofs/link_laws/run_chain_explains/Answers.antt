use Rattle.cpu.proofs.Chaining.{chain_explains}
use Rattle.cpu.proofs.link_laws.run_chain_explains.Goals as goal

pub returns : goal.returns
returns c = λ p xs ts. chain_explains c.args.processor.now.scenario p xs ts
