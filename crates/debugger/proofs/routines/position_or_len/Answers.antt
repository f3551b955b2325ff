use Rattle.std.proofs.Common.{◌≡◌, Bool, true, get_or, length, sym, ap, arith, ◌∙◌}
use Rattle.std.proofs.lemmas.List.Sums.{position_or_len_is}
use Rattle.space.specs.Places.{same_place}
use Rattle.space.specs.declared.place.Linear.{Linear}
use Rattle.debugger.specs.declared.routines.Call.{Call}
use Rattle.debugger.proofs.routines.position_or_len.Goals as goal

abbrev returns_to : Linear → Call → Bool
returns_to place c = same_place place c.back

pub returns-then-returns_to : goal.returns-then-returns_to
returns-then-returns_to c =
    let p = returns_to c.args.place.now in
    let it = c.index-calls-index.result in
    let i = c.loop-index.index in
    let here : p (get_or c.args.calls.now i it) ≡ true = ap p (sym c.index-calls-index.is) ∙ sym c.if-returns_to.ensures in
    sym (position_or_len_is p c.args.calls.now i it (omega (arith, c.loop-index-test.true)) (λ k h. c.loop-index.invariant k it h)
    (λ _. here))

pub returns : goal.returns
returns c =
    let p = returns_to c.args.place.now in
    let d : Call = record { step = 0; from = c.args.place.now; routine = c.args.place.now; back = c.args.place.now } in
    sym (position_or_len_is p c.args.calls.now (length c.args.calls.now) d (omega arith)
    (λ k h. c.loop-index.invariant k d (omega (arith, h, c.loop-index-test.false))) (λ h. absurd (omega (arith, h))))
