use Rattle.std.proofs.Common.{ap}
use Rattle.std.specs.Result.{result_map_both}
use Rattle.workshop.proofs.JudgedRuns.{judges_by}
use Rattle.workshop.proofs.expecting.judge_program.Goals as goal

pub returns : goal.returns
returns g c =
    judges_by _ _ _ (c.in_ok-text.text.items, c.in_ok-text.program) c.in_ok-feed.feed _ _ _
    (ap (result_map_both (λ r. (r.0.items, r.1)) (λ fault. fault)) c.in_ok-text.was) c.in_ok-feed.was
    c.read_source.ensures c.read_feed.ensures (rw c.deref.ensures.value at c.judge_source.ensures)
