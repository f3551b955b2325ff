use Rattle.rope.proofs.PlaceLaws.{stands-within}
use Rattle.rope.proofs.memory.Rope.set.Goals as goal

pub set_slot-requires : goal.set_slot-requires
set_slot-requires c = stands-within c.args.self.now c.args.bank c.args.offset c.requires
