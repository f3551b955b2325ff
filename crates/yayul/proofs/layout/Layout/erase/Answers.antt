use Rattle.yayul.specs.Inside.Answers.{layout_of}
use Rattle.yayul.proofs.Labels.{erase_new}
use Rattle.yayul.proofs.layout.Layout.erase.Goals as goal

pub define-requires : goal.define-requires
define-requires c = (erase_new (layout_of c.args.self.now) c.args.label c.args.count c.requires).0
