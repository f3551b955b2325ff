use Rattle.std.proofs.Common.{◌≤◌, [], map, replicate, refl, sym, ap, subst, arith}
use Rattle.rope.specs.Places.{bank_words}
use Rattle.yayul.specs.Inside.Representation.{request_of}
use Rattle.yayul.proofs.BankEnds.{ends-none, zeros}
use Rattle.yayul.proofs.HoldsByLine.{holds-start, known-start}
use Rattle.yayul.proofs.layout.Placing.start.Goals as goal

pub invariant_of-result : goal.invariant_of-result
invariant_of-result c = record { ended = λ bank lt. subst (λ end. end ≤ bank_words) (sym (zeros 36 bank)) (omega arith) }

pub returns : goal.returns
returns c = λ language.
    let none = ap (map request_of) c.new.ensures.items in
    record {
      holds = rw (none, c.in_ok-rope.ensures.ok) (holds-start []);
      known = rw none (known-start []);
      ends = ends-none (replicate 36 0) [] refl (zeros 36);
    }
