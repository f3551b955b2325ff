use Rattle.audit.proofs.OctalBanks.{reads_back}
use Rattle.audit.proofs.octals_back.octals_read_back.Goals as goal

pub returns : goal.returns
returns c = reads_back c.args.words.now
