use Rattle.std.proofs.Common.{◌∙◌, sym}
use Rattle.yayul.specs.Inside.Answers.{layout_of}
use Rattle.yayul.proofs.Labels.{alone_new, alone_nowhere}
use Rattle.yayul.proofs.layout.Layout.label_alone.Goals as goal

pub define-requires : goal.define-requires
define-requires c = (alone_new (layout_of c.args.self.now) c.args.label c.requires).0

pub returns-in-None : goal.returns-in-None
returns-in-None c = alone_nowhere (layout_of c.args.self.now) c.args.label c.requires (sym c.value.ensures ∙ c.in-None.is)
