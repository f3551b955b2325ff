use Rattle.std.proofs.Common.{arith}
use Rattle.cpu.proofs.Quiet.{quiet_less}
use Rattle.cpu.proofs.SilentLaws.{silent_none}
use Rattle.cover.proofs.recorder.record_plain_steps.Goals as goal

pub record_quiet_steps-at-requires-clause-quiet : goal.record_quiet_steps-at-requires-clause-quiet
record_quiet_steps-at-requires-clause-quiet g c =
    quiet_less c.args.processor.now.scenario c.args.machine.now _ _ (omega (arith, c.min.ensures)) c.in-Some.ensures
