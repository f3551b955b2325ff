use Rattle.notation_laws.proofs.Breaks.{breakpoint_reads_back}
use Rattle.notation_laws.proofs.breakpoints_read_back.Goals as goal

pub returns : goal.returns
returns c = breakpoint_reads_back
