use Rattle.std.proofs.Common.{◌≡◌, refl, arith}
use Rattle.std.proofs.lemmas.Result.{err_from_is_err_and}
use Rattle.rope.specs.Places.{fixed_places}
use Rattle.rope.proofs.ImageLaws.{image_front-none}
use Rattle.rope.proofs.ReadSteps.{all_stand-full, long_here, fails_at_end}
use Rattle.rope.proofs.memory.Rope.read.Goals as goal

pub loop-position-init : goal.loop-position-init
loop-position-init g c = record {
  within = omega arith;
  read = λ told. record {
    front = rw (image_front-none c.args.version c.in_ok-rope.rope) refl;
    spelled = λ position below. absurd (omega arith);
  };
  stand = λ position below. absurd (omega arith);
  failures = refl;
}

pub returns-in-None-clause-full : goal.returns-in-None-clause-full
returns-in-None-clause-full g c =
    let end : c.loop-position.position ≡ fixed_places = omega (arith, c.loop-position.invariant.within, c.loop-position-test.false) in
    all_stand-full c.loop-position.rope (rw end at c.loop-position.invariant.stand)

pub returns-in-Some-clause-bytes : goal.returns-in-Some-clause-bytes
returns-in-Some-clause-bytes g c = λ told.
    let end : c.loop-position.position ≡ fixed_places = omega (arith, c.loop-position.invariant.within, c.loop-position-test.false) in
    let read = rw end at (c.loop-position.invariant.read told) in
    long_here c.args.version _ _ _ c.loop-position.rope c.in-Some.field-0 read.front read.spelled
    (rw c.in-Some.is at (c.in_ok-next_byte.ensures.byte told))

pub returns-in_err-next_byte-clause-bytes : goal.returns-in_err-next_byte-clause-bytes
returns-in_err-next_byte-clause-bytes g c = λ told.
    let p = err_from_is_err_and c.from_residual-in_err-next_byte.result c.from_residual-in_err-next_byte.ensures.1 in
    let end : c.loop-position.position ≡ fixed_places = omega (arith, c.loop-position.invariant.within, c.loop-position-test.false) in
    let read = rw end at (c.loop-position.invariant.read told) in
    rw (p.1, p.2) (rw c.in_err-next_byte.ensures.fault
    (fails_at_end c.args.version _ _ _ c.loop-position.rope read.front read.spelled (c.in_err-next_byte.ensures.byte told)))
