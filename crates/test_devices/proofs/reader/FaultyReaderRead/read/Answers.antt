use Rattle.std.proofs.Common.{◌≡◌, ◌∷◌, [], ◌<◌, length, take, set, rules, arith}
use Rattle.std.proofs.lemmas.Grind.{common_steps}
use Rattle.test_devices.proofs.OneByte.{take-one-set}
use Rattle.test_devices.proofs.reader.FaultyReaderRead.read.Goals as goal

pub returns-clause-bytes : goal.returns-clause-bytes
returns-clause-bytes c =
    let some : 0 < length c.args.buf.now = search rules in
    let one : take 1 (set c.args.buf.now 0 c.in-Some.first.now)
    ≡ c.in-Some.first.now ∷ [] = take-one-set c.args.buf.now c.in-Some.first.now some in
    rw one (grind (arith, common_steps, c.in-Some.ensures.cases))
