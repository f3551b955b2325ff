use Rattle.std.proofs.Common.{◌≡◌, Some, None, take, drop, ap, arith, option_map}
use Rattle.std.proofs.lemmas.Grind.{common_steps}
use Rattle.command_line.specs.Reading.{reading_of, refusal_of}
use Rattle.command_line.proofs.Views.{given_take, given_drop, given_length}
use Rattle.command_line.proofs.Steps.{settle_refused, settle_good}
use Rattle.command_line.proofs.reader.Reader.settle.Goals as goal

pub returns-in-Some-refusal_of-clause-refused : goal.returns-in-Some-refusal_of-clause-refused
returns-in-Some-refusal_of-clause-refused c =
    let r = reading_of c.args.self.now in
    let e : refusal_of c.in-Some.row.now (take r.tried r.given) (drop r.tried r.given) ≡ Some c.in-Some-refusal_of.refusal =
    grind (arith, common_steps, given_take, given_drop, c.refusal_of.ensures, c.in-Some-refusal_of.is, c.as_slice-given.ensures.value) in
    settle_refused r c.in-Some.row.now c.in-Some-refusal_of.refusal (ap (option_map (λ row. row.now)) c.in-Some.is) e

pub returns-in-None-clause-read : goal.returns-in-None-clause-read
returns-in-None-clause-read c =
    let r = reading_of c.args.self.now in
    let e : refusal_of c.in-Some.row.now (take r.tried r.given) (drop r.tried r.given) ≡ None =
    grind (arith, common_steps, given_take, given_drop, c.refusal_of.ensures, c.in-None.is, c.as_slice-given.ensures.value) in
    let good = settle_good r c.in-Some.row.now (ap (option_map (λ row. row.now)) c.in-Some.is) e in
    grind (arith, common_steps, given_length, good, c.len-self.ensures)
