use Rattle.std.proofs.Common.{ap, ◌∙◌, sym, arith, ℕ, Some}
use Rattle.cpu.proofs.RequestLemmas.{here_in, later_in}
use Rattle.cpu.proofs.machine.Machine.least_request.Goals as goal

pub returns-then-self-from : goal.returns-then-self-from
returns-then-self-from c =
    let v = ap (λ s. s.requests) c.self.view_is in
    ap (λ (n : ℕ). Some n) c.new.ensures ∙ sym (here_in c.self.inside.requests c.args.self.now.requests c.loop-number.number v
    c.loop-number.invariant.0 (omega arith) (let t = c.if-self-from.true in cc)) ∙ c.loop-number.invariant.1

pub loop-number-preserved : goal.loop-number-preserved
loop-number-preserved c =
    let v = ap (λ s. s.requests) c.self.view_is in (
      omega arith,
      later_in c.self.inside.requests c.args.self.now.requests c.loop-number.number v (omega arith)
          (let t = c.if-self-from.false in cc) ∙ c.loop-number.invariant.1,
    )
