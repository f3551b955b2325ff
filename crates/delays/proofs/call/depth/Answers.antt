use Rattle.std.proofs.Common.{◌≡◌, true, get_or, length, sym, ap, arith, ◌∙◌}
use Rattle.std.proofs.lemmas.List.Sums.{position_or_len_is}
use Rattle.space.specs.Places.{same_place}
use Rattle.delays.specs.declared.call.Call.{Call}
use Rattle.delays.specs.Stretches.{no_mark}
use Rattle.delays.proofs.call.depth.Goals as goal

pub returns-then-returns_to : goal.returns-then-returns_to
returns-then-returns_to c =
    let p = λ (call : Call). same_place c.args.place.now call.back in
    let it = c.index-calls-index.result in
    let i = c.loop-index.index in
    let here : p (get_or c.args.calls.now i it) ≡ true = ap p (sym c.index-calls-index.is) ∙ sym c.if-returns_to.ensures in
    sym (position_or_len_is p c.args.calls.now i it (omega (arith, c.loop-index-test.true)) (λ k h. c.loop-index.invariant k it h)
    (λ _. here))

pub returns : goal.returns
returns c =
    let p = λ (call : Call). same_place c.args.place.now call.back in
    let d : Call = record { back = c.args.place.now; to = c.args.place.now; mark = no_mark } in
    sym (position_or_len_is p c.args.calls.now (length c.args.calls.now) d (omega arith)
    (λ k h. c.loop-index.invariant k d (omega (arith, h, c.loop-index-test.false))) (λ h. absurd (omega (arith, h))))
