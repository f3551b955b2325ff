use Rattle.std.proofs.Common.{◌≡◌, ◌∙◌, ◌+◌, ◌++◌, [], None, refl, ap, sym, arith}
use Rattle.cpu.specs.Run.{run}
use Rattle.whatif.specs.Outcomes.{begun, outcome, see}
use Rattle.whatif.specs.Restarts.{restart_telling, restarts_after}
use Rattle.whatif.specs.Spans.{spans_text, without_text}
use Rattle.whatif.proofs.Restarting.{restarts_parts}
use Rattle.whatif.proofs.Steps.{looked_begins}
use Rattle.whatif.proofs.restart.try_restarts.Goals as goal

pub write_restarts-requires-clause-seen : goal.write_restarts-requires-clause-seen
write_restarts-requires-clause-seen c =
    looked_begins begun (see c.in_ok-without.without.seen.others) c.run_without.new.processor.scenario _ _ _ c.after-trunk.ensures.seen
    (c.after-trunk.ensures.from ∙ sym c.after-trunk.ensures.done)

pub returns-clause-text : goal.returns-clause-text
returns-clause-text c =
    let scenario = c.args.processor.now.scenario in
    let without = c.in_ok-without.without in
    let machine : without.machine ≡ run scenario c.args.steps = rw c.in-Ok.ensures at c.in_ok-without.ensures.machine in
    let seen : without.seen ≡ outcome [] c.args.first scenario c.args.steps = rw (c.none-alone.ensures, c.in-Ok.ensures, c.after-trunk.ensures.from) at
    c.in_ok-without.ensures.seen in
    let spans = spans_text (restart_telling c.args.more) None
    (restarts_after without.seen.others without.machine.cells c.args.first scenario c.args.steps c.args.first (c.args.more + 1)) in
    let told = rw (c.in_ok-without.ensures.scenario, c.in-Ok.ensures, c.after-trunk.ensures.from, c.after-trunk.ensures.done) at
    (c.in_ok-write_restarts.ensures.written refl) in
    let begins = c.in_ok-write_without.ensures.written refl ∙ ap (λ x. x ++ without_text without.machine without.seen)
    c.new-text.ensures.written in
    told ∙ ap (λ x. x ++ spans) begins
    ∙ sym (restarts_parts scenario c.args.first c.args.more c.args.steps without.machine without.seen machine seen)
