use Rattle.workshop.proofs.NotesWritten.{no_memory_before}
use Rattle.workshop.proofs.noting.read_unnamed.Goals as goal

pub returns-in_default : goal.returns-in_default
returns-in_default g c = no_memory_before c.args.version _
