use Rattle.cpu.proofs.Linking.{depends_on_origins}
use Rattle.cpu.proofs.link_laws.run_depends_on_origins.Goals as goal

pub returns : goal.returns
returns c = λ m n k xs. depends_on_origins c.args.processor.now.scenario m c.args.other.now.scenario n k xs
