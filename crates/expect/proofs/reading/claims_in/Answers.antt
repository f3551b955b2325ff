use Rattle.std.proofs.Common.{◌∙◌, Ok, ap, append-nil}
use Rattle.std.proofs.lemmas.Result.{err_from_is_err_and}
use Rattle.expect.specs.Texts.{and_lines, claims_after}
use Rattle.expect.proofs.reading.claims_in.Goals as goal

pub returns-in_err-tests-clause-fault : goal.returns-in_err-tests-clause-fault
returns-in_err-tests-clause-fault c =
    let p = err_from_is_err_and c.from_residual.result c.from_residual.ensures.1 in
    rw (p.1, p.2, c.loop-statement.invariant.left, c.in-Some.ensures.statements) (c.in_err-tests.ensures.fault _)

pub returns-clause-claims : goal.returns-clause-claims
unfolding claims_after
returns-clause-claims c =
    c.loop-statement.invariant.left ∙ ap (λ s. and_lines c.loop-statement.claims.items
    (claims_after c.args.symbols.now c.loop-statement.tests s)) c.in_default.ensures.statements
    ∙ ap Ok (append-nil c.loop-statement.claims.items)
