use Rattle.named_source.proofs.Images.{gives_image}
use Rattle.named_source.proofs.octal_laws.source_gives_image.Goals as goal

pub returns : goal.returns
returns c = λ few. gives_image c.args.version c.args.words.now few
