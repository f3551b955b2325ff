use Rattle.cpu.proofs.Chaining.{chain_fixes}
use Rattle.cpu.proofs.link_laws.chain_fixes.Goals as goal

pub returns : goal.returns
returns c = λ p n ts us xs. chain_fixes c.args.processor.now.scenario p ts c.args.other.now.scenario n us xs
