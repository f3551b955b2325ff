use Rattle.std.proofs.Common.{arith, ◌≤◌, ◌^◌}
use Rattle.std.proofs.Math.Nat.{pow-le-pow_right, one-le-pow}
use Rattle.yayul.proofs.decimal.unit_of.Goals as goal

pub pow-requires : goal.pow-requires
pow-requires c =
    let within : 10 ^ c.args.count ≤ 10 ^ 9 = pow-le-pow_right {n = 10} (omega arith) c.requires in
    omega (arith, within)

pub returns-clause-some : goal.returns-clause-some
returns-clause-some c =
    let some : 1 ≤ 10 ^ c.args.count = one-le-pow c.args.count 10 (omega arith) in
    omega (arith, some, c.pow.ensures)

pub returns-clause-few : goal.returns-clause-few
returns-clause-few c =
    let within : 10 ^ c.args.count ≤ 10 ^ 9 = pow-le-pow_right {n = 10} (omega arith) c.requires in
    omega (arith, within, c.pow.ensures)
