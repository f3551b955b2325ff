use Rattle.cpu.proofs.Profiling.{profile_adds_up}
use Rattle.cpu.proofs.link_laws.profile_adds_up.Goals as goal

pub returns : goal.returns
returns c = λ n accounts. profile_adds_up c.args.processor.now.scenario n accounts
