use Rattle.std.proofs.Common.{arith, ◌≤◌, ◌^◌}
use Rattle.std.proofs.Math.Pow.{pow_mono}
use Rattle.audit.proofs.bank_facts.power_of_two.Goals as goal

pub returns-clause-few : goal.returns-clause-few
returns-clause-few c =
    let within : 2 ^ c.args.count ≤ 2 ^ 14 = pow_mono c.requires in
    omega (arith, within)
