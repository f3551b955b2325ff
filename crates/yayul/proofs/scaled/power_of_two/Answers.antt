use Rattle.std.proofs.Common.{arith, ◌≤◌, ◌^◌}
use Rattle.std.proofs.Math.Pow.{pow_mono}
use Rattle.yayul.proofs.scaled.power_of_two.Goals as goal

pub returns-clause-few : goal.returns-clause-few
returns-clause-few c =
    let within : 2 ^ c.args.count ≤ 2 ^ 52 = pow_mono c.requires in
    omega (arith, within)

pub returns-clause-fewer : goal.returns-clause-fewer
returns-clause-fewer c = λ low.
    let within : 2 ^ c.args.count ≤ 2 ^ 50 = pow_mono low in
    let below : 2 ^ c.args.count ≤ 2 ^ 52 = pow_mono c.requires in
    omega (arith, within, below)
