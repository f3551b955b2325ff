use Rattle.std.proofs.Common.{set, false, ap, ◌∙◌, arith}
use Rattle.std.specs.FinSet.{remove}
use Rattle.cpu.specs.Representation.{requests_of}
use Rattle.cpu.proofs.RequestLemmas.{changed_requests, requests-clear}
use Rattle.cpu.proofs.machine.Machine.withdraw.Goals as goal

pub returns : goal.returns
returns c =
    let e = ap (λ n. requests_of (set c.self.inside.requests n false)) c.index.ensures.value ∙ requests-clear c.self.inside.requests c.args.request
    (omega (arith, c.index.ensures.number)) (omega (arith, c.index.ensures.number, c.index.ensures.range)) c.self.told.0 in
    changed_requests _ _ (λ requests. remove requests c.args.request) _ c.self.view_is e
