use Rattle.debugger.proofs.AddedBack.{none_at_first, session_reads_back}
use Rattle.debugger.proofs.laws.inputs_read_back.Goals as goal

pub returns-clause-none_at_first : goal.returns-clause-none_at_first
returns-clause-none_at_first c = none_at_first

pub returns-clause-reads_back : goal.returns-clause-reads_back
returns-clause-reads_back c = session_reads_back
