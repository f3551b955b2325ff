use Rattle.std.proofs.Common.{set, true, ap, ◌∙◌, arith}
use Rattle.std.specs.FinSet.{insert}
use Rattle.cpu.specs.Representation.{requests_of}
use Rattle.cpu.proofs.RequestLemmas.{changed_requests, requests-set}
use Rattle.cpu.proofs.machine.Machine.ask.Goals as goal

pub returns : goal.returns
returns c =
    let e = ap (λ n. requests_of (set c.self.inside.requests n true)) c.index.ensures.value ∙ requests-set c.self.inside.requests c.args.request
    (omega (arith, c.index.ensures.number)) (omega (arith, c.index.ensures.number, c.index.ensures.range)) c.self.told.0 in
    changed_requests _ _ (λ requests. insert requests c.args.request) _ c.self.view_is e
