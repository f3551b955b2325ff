use Rattle.std.proofs.Common.{Some}
use Rattle.workshop.proofs.ProfileWritten.{no_memory_before}
use Rattle.workshop.proofs.covering.read_named_image.Goals as goal

pub returns-in_default : goal.returns-in_default
returns-in_default g c = no_memory_before c.args.version (Some c.args.names) _
