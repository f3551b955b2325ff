use Rattle.std.proofs.Common.{◌≡◌, ◌<◌, ◌^◌, rules}
use Rattle.engine_tests.proofs.Counts.{counted}
use Rattle.engine_tests.proofs.counting.count_outputs.Goals as goal

pub returns-in-Ok : goal.returns-in-Ok
returns-in-Ok g c = λ source feed.
    let small : c.in-Ok.steps < 2 ^ 64 = search rules in
    counted _ _ _ c.args.calls.now _ c.in-Ok.steps small c.requires.no_input (c.in-Ok.ensures.travel source feed)
