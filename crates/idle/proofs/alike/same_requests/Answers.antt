use Rattle.std.proofs.Common.{◌∙◌, sym}
use Rattle.idle.specs.Alike.{same_request}
use Rattle.idle.proofs.Same.{not_all}
use Rattle.idle.proofs.alike.same_requests.Goals as goal

pub returns-then-not-same_request : goal.returns-then-not-same_request
returns-then-not-same_request c =
    sym (not_all (same_request c.args.one.now.requests c.args.other.now.requests) c.loop-before.before 10 c.loop-before-test.true
    (sym c.same_request.ensures ∙ c.if-not-same_request.true))
