use Rattle.std.proofs.Common.{◌≡◌, length, refl}
use Rattle.cpu.specs.Additions.{plain_inputs}
use Rattle.debugger.proofs.TriedReplies.{counted_plain}
use Rattle.debugger.proofs.whatif_here.has_most.Goals as goal

pub returns : goal.returns
returns g c =
    let scenario = c.args.session.now.scenario in
    let plain = c.plain_inputs.result.now in
    let is : plain_inputs scenario ≡ length plain = counted_plain scenario plain (rw c.processor.ensures at c.plain_inputs.ensures) in
    rw is refl
