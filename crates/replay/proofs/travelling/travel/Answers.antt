use Rattle.std.proofs.Common.{◌≡◌, ◌<◌, ◌+◌, ◌*◌, ◌/◌, ◌%◌, ◌∙◌, false, arith}
use Rattle.std.proofs.Math.Nat.{div-add-mod, dvd-mul_left}
use Rattle.std.proofs.lemmas.Nat.{mod_below}
use Rattle.std.proofs.lemmas.Nat.Gcd.{dvd_of_mod-eq-zero}
use Rattle.replay.specs.Walked.{Walked}
use Rattle.replay.proofs.WalkedLemmas.{walked_joined}
use Rattle.replay.proofs.travelling.travel.Goals as goal

pub stride_on-requires-clause-grid : goal.stride_on-requires-clause-grid
stride_on-requires-clause-grid g c = dvd_of_mod-eq-zero 16384 c.if-past-eq0.true

pub stride_on-requires-2-clause-grid : goal.stride_on-requires-2-clause-grid
stride_on-requires-2-clause-grid g c =
    let low = c.args.low in
    let end = c.leap-end.result.0 in
    let whole : 16384 * (low / 16384) + low % 16384 ≡ low = div-add-mod low 16384 in
    let rest : low % 16384 < 16384 = mod_below low 16384 (omega arith) in
    let all = c.leap-end.ensures.all c.if-ended.false in
    let e : end ≡ (low / 16384 + 1) * 16384 = omega (arith, all, c.min-first.ensures, c.if-end-high.false, whole, rest) in
    rw e (dvd-mul_left 16384 (low / 16384 + 1))

pub returns-clause-travelled : goal.returns-clause-travelled
returns-clause-travelled g c =
    let p = c.args.processor.now.scenario in
    let first = c.leap-end.ensures in
    let next = c.stride_on-2.ensures.travelled in
    let early : Walked g.S.Stepper.sees p c.args.low c.leap-end.result.0 false c.args.stepper.now c.leap-end.new.stepper = rw
    c.if-ended.false at first.walked in
    let late : Walked g.S.Stepper.sees p c.leap-end.result.0 c.stride_on-2.result.0 c.stride_on-2.result.1 c.leap-end.new.stepper
    c.stride_on-2.new.stepper = rw first.scenario at next.walked in
    record {
      past = omega (arith, first.past, next.past);
      within = next.within;
      all = next.all;
      machine = rw first.scenario at next.machine;
      walked = walked_joined g.S.Stepper.sees p c.args.low c.leap-end.result.0 c.stride_on-2.result.0 c.stride_on-2.result.1
          c.args.stepper.now c.leap-end.new.stepper c.stride_on-2.new.stepper early late;
      staying = next.staying;
      of_run = rw first.scenario at next.of_run;
      scenario = next.scenario ∙ first.scenario;
      metered = next.metered;
      least = omega (arith, first.least, next.least, first.past, next.past);
      most = omega (arith, first.most, next.most);
    }
