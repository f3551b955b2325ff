use Rattle.std.proofs.Common.{◌+◌, List, ◌∷◌, map, drop, ap, sym, subst, ◌∙◌}
use Rattle.std.proofs.Math.ListN.{drop_of_length-le}
use Rattle.yayul.specs.Layout.{Request}
use Rattle.yayul.specs.Words.{word_faults}
use Rattle.yayul.specs.Inside.Representation.{request_of}
use Rattle.yayul.specs.Inside.Waiting.{Holds}
use Rattle.yayul.proofs.NoneWaits.{holds-end, none-least}
use Rattle.words.proofs.Writing.{from_one}
use Rattle.yayul.proofs.PatchedRequest.{holds-patched, stands-waiting, within-waiting}
use Rattle.yayul.proofs.layout.Placing.complete.Goals as goal
use Rattle.yayul.proofs.layout.Placing.complete.Given.{Over}

pub loop-request-init : goal.loop-request-init
loop-request-init g c = record {
  holds = (
    c.requires.0,
    subst (λ rs. Holds c.requires.0 c.args.symbols.now g.requests (map request_of rs) c.args.self.rope c.args.self.fault)
        (sym c.deref-request-items.ensures.value) c.requires.1,
  );
}

-- the requests that wait from this one on
abbrev later : (g : Over) (c : goal.After-rope-1 g) → List Request
later g c = map request_of (drop (c.loop-request.request-index + 1) c.deref-request-items.result.now)

-- what is held before this one is patched
held_here : (g : Over) (c : goal.After-rope-1 g)
    → Holds c.loop-request.invariant.holds.0 c.args.symbols.now g.requests (request_of c.request-item.result ∷ later g c)
    c.loop-request.rope c.loop-request.fault
held_here g c =
    subst (λ qs. Holds c.loop-request.invariant.holds.0 c.args.symbols.now g.requests qs c.loop-request.rope c.loop-request.fault)
    (ap (map request_of) (from_one c.deref-request-items.result.now c.loop-request.request-index c.request-item.result
    c.loop-request-test.true c.request-item.is)) c.loop-request.invariant.holds.1

pub patch-requires-clause-room : goal.patch-requires-clause-room
patch-requires-clause-room g c =
    (within-waiting c.args.symbols.now c.loop-request.invariant.holds.0 g.requests (later g c) c.loop-request.rope c.loop-request.fault
    (request_of c.request-item.result) (held_here g c)).1

pub patch-requires-clause-here : goal.patch-requires-clause-here
patch-requires-clause-here g c =
    (stands-waiting c.args.symbols.now c.loop-request.invariant.holds.0 g.requests (later g c) c.loop-request.rope c.loop-request.fault
    (request_of c.request-item.result) (held_here g c)).0

pub patch-requires-clause-next : goal.patch-requires-clause-next
patch-requires-clause-next g c =
    (stands-waiting c.args.symbols.now c.loop-request.invariant.holds.0 g.requests (later g c) c.loop-request.rope c.loop-request.fault
    (request_of c.request-item.result) (held_here g c)).1

pub loop-request-preserved : goal.loop-request-preserved
loop-request-preserved g c =
    let rest : List Request = map request_of (drop (c.loop-request.request-index + 1) c.deref-request-items.result.now) in
    let here : Holds c.loop-request.invariant.holds.0 c.args.symbols.now g.requests (request_of c.request-item.result ∷ rest)
    c.loop-request.rope c.loop-request.fault =
    subst (λ qs. Holds c.loop-request.invariant.holds.0 c.args.symbols.now g.requests qs c.loop-request.rope c.loop-request.fault)
    (ap (map request_of) (from_one c.deref-request-items.result.now c.loop-request.request-index c.request-item.result
    c.loop-request-test.true c.request-item.is)) c.loop-request.invariant.holds.1 in
    record {
      holds = (
        c.loop-request.invariant.holds.0,
        rw (c.patch.ensures.words, c.lesser_on-fault.ensures, c.patch.ensures.fault)
            (holds-patched c.args.symbols.now c.loop-request.invariant.holds.0 g.requests rest c.loop-request.rope c.loop-request.fault
            (request_of c.request-item.result) here),
      );
    }

pub returns-in-Some : goal.returns-in-Some
returns-in-Some g c =
    let none = drop_of_length-le c.deref-request-items.result.now c.loop-request-test.false in
    let last = subst (λ ws. Holds c.loop-request.invariant.holds.0 c.args.symbols.now g.requests (map request_of ws) c.loop-request.rope
    c.loop-request.fault) none c.loop-request.invariant.holds.1 in
    sym (holds-end c.args.symbols.now c.loop-request.invariant.holds.0 g.requests c.loop-request.rope c.loop-request.fault last).0
    ∙ c.in-Some.is

pub returns-in-None : goal.returns-in-None
returns-in-None g c =
    let none = drop_of_length-le c.deref-request-items.result.now c.loop-request-test.false in
    let last = subst (λ ws. Holds c.loop-request.invariant.holds.0 c.args.symbols.now g.requests (map request_of ws) c.loop-request.rope
    c.loop-request.fault) none c.loop-request.invariant.holds.1 in
    let end = holds-end c.args.symbols.now c.loop-request.invariant.holds.0 g.requests c.loop-request.rope c.loop-request.fault last in
    (none-least (word_faults c.args.symbols.now g.requests) (sym end.0 ∙ c.in-None.is), end.1 c.in-None.is)
