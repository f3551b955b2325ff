use Rattle.yayul.specs.Later.{with_values}
use Rattle.yayul.proofs.assembly.finish.Given as goal

abbrev pub ghost-complete : goal.ghost-complete
ghost-complete g a = with_values g.laid_out
