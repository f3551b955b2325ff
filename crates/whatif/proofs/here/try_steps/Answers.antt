use Rattle.std.proofs.Common.{◌≡◌, ◌∙◌, ◌+◌, ◌++◌, [], None, refl, ap, sym, arith}
use Rattle.cpu.specs.Run.{run}
use Rattle.whatif.specs.Finishes.{finishes}
use Rattle.whatif.specs.Here.{here_text, trials_after}
use Rattle.whatif.specs.Outcomes.{begun, outcome, see}
use Rattle.whatif.specs.Spans.{spans_text, telling, without_text}
use Rattle.whatif.specs.declared.others.Others.TheVariants.{First}
use Rattle.whatif.proofs.Steps.{looked_begins}
use Rattle.whatif.proofs.Told.{trials_parts}
use Rattle.whatif.proofs.here.try_steps.Goals as goal

pub write_each-requires-clause-seen : goal.write_each-requires-clause-seen
write_each-requires-clause-seen c =
    looked_begins begun (see c.in_ok-without.without.seen.others) c.run_without.new.processor.scenario _ _ _ c.after-trunk.ensures.seen
    (c.after-trunk.ensures.from ∙ sym c.after-trunk.ensures.done)

pub returns-clause-text : goal.returns-clause-text
unfolding here_text
returns-clause-text c =
    let scenario = c.args.processor.now.scenario in
    let without = c.in_ok-without.without in
    let machine : without.machine ≡ run scenario c.args.steps = rw c.in-Ok.ensures at c.in_ok-without.ensures.machine in
    let seen : without.seen ≡ outcome [] c.args.first scenario c.args.steps = rw (c.none-alone.ensures, c.in-Ok.ensures, c.after-trunk.ensures.from) at
    c.in_ok-without.ensures.seen in
    let trials = trials_after scenario c.args.input c.args.first (c.args.more + 1) in
    let spans = spans_text (telling First without.machine) None
    (finishes without.seen.others without.machine.cells c.args.first scenario c.args.steps trials) in
    let told = rw (c.in_ok-without.ensures.scenario, c.in-Ok.ensures, c.after-trunk.ensures.from, c.telling-told.ensures) at
    (c.in_ok-made.ensures.written refl) in
    let begins = c.in_ok-write_without.ensures.written refl ∙ ap (λ x. x ++ without_text without.machine without.seen)
    c.new-text.ensures.written in
    told ∙ ap (λ x. x ++ spans) begins
    ∙ sym (trials_parts First c.args.first scenario trials c.args.steps without.machine without.seen machine seen)
