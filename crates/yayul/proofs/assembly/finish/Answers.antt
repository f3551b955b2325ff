use Rattle.std.proofs.Common.{ap, ◌∙◌, map}
use Rattle.yayul.specs.Later.{settled}
use Rattle.yayul.specs.Inside.Representation.{promise_of}
use Rattle.yayul.proofs.Finished.{values_hold, values_same}
use Rattle.yayul.proofs.assembly.finish.Goals as goal

pub complete-requires : goal.complete-requires
complete-requires g c = (
  values_same c.requires.0.0 g.laid_out c.args.layout c.args.placing c.requires.0.1 c.settle.new.symbols
      (c.in-Ok.ensures ∙ ap (λ items. settled (map promise_of items) c.args.layout.symbols) c.deref.ensures.value),
  ((c.requires.0.0, values_hold c.requires.0.0 g.laid_out c.args.layout c.args.placing c.requires.0.1), c.requires.1),
)
