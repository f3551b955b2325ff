use Rattle.std.proofs.Common.{◌≡◌, ◌∙◌, true, ap, inr, refl, subst}
use Rattle.std.proofs.lemmas.Result.{err_from_is_err_and}
use Rattle.words.specs.Devices.{WritesBeginning}
use Rattle.cpu.specs.State.{Processing}
use Rattle.delays.specs.DelayText.{delays_text}
use Rattle.delays.specs.Spans.{CyclesAddUp}
use Rattle.delays.proofs.Sums.{adds_up}
use Rattle.delays.proofs.Texts.{text_is}
use Rattle.symbols.specs.Values.{SymbolTable}
use Rattle.workshop.specs.Inputs.{scenario_of}
use Rattle.workshop.proofs.delaying.delays.Goals as goal

pub count_all-requires-clause-none : goal.count_all-requires-clause-none
count_all-requires-clause-none g c = c.in-Ok-new.ensures c.new-processor.result.scenario

pub returns-in_err-write_delays-clause-delays : goal.returns-in_err-write_delays-clause-delays
returns-in_err-write_delays-clause-delays g c =
    let p = err_from_is_err_and c.from_residual.result c.from_residual.ensures.1 in
    let text = text_is c.in-Ok.names c.new-processor.result.scenario c.args.steps c.count_all.new.counting c.rope.result.now
    c.count_all.ensures.stands (c.rope.ensures ∙ ap (λ s. s.rope) c.count_all.ensures.scenario) in
    let same : delays_text c.in-Ok.names c.new-processor.result.scenario c.args.steps
    ≡ delays_text c.args.loaded.symbols (scenario_of c.args.loaded) c.args.steps =
    ap (λ (names : SymbolTable). delays_text names c.new-processor.result.scenario c.args.steps) c.in-Ok.ensures
    ∙ ap (λ (q : Processing). delays_text c.args.loaded.symbols q.scenario c.args.steps) c.new-processor.ensures.value in
    let sums : CyclesAddUp (scenario_of c.args.loaded) c.args.steps = subst (λ (q : Processing). CyclesAddUp q.scenario c.args.steps)
    c.new-processor.ensures.value (adds_up c.new-processor.result.scenario c.args.steps c.count_all.ensures.stands.known) in
    let breaks : g.W.Write.told ≡ true → WritesBeginning (g.W.Write.written c.args.out.now) (g.W.Write.written c.write_delays.new.out)
    (delays_text c.args.loaded.symbols (scenario_of c.args.loaded) c.args.steps) = λ told.
    rw (text ∙ same) at (c.in_err-write_delays.ensures.written told) in
    rw (p.1, p.2) (inr ((breaks, c.in_err-write_delays.ensures.failures), sums))

pub returns-clause-delays : goal.returns-clause-delays
returns-clause-delays g c =
    let text = text_is c.in-Ok.names c.new-processor.result.scenario c.args.steps c.count_all.new.counting c.rope.result.now
    c.count_all.ensures.stands (c.rope.ensures ∙ ap (λ s. s.rope) c.count_all.ensures.scenario) in
    let same : delays_text c.in-Ok.names c.new-processor.result.scenario c.args.steps
    ≡ delays_text c.args.loaded.symbols (scenario_of c.args.loaded) c.args.steps =
    ap (λ (names : SymbolTable). delays_text names c.new-processor.result.scenario c.args.steps) c.in-Ok.ensures
    ∙ ap (λ (q : Processing). delays_text c.args.loaded.symbols q.scenario c.args.steps) c.new-processor.ensures.value in
    let sums : CyclesAddUp (scenario_of c.args.loaded) c.args.steps = subst (λ (q : Processing). CyclesAddUp q.scenario c.args.steps)
    c.new-processor.ensures.value (adds_up c.new-processor.result.scenario c.args.steps c.count_all.ensures.stands.known) in
    inr ((λ told. rw (text ∙ same) at (c.in_ok-write_delays.ensures.written told), c.in_ok-write_delays.ensures.failures), sums)

pub returns-in_err-write_delays-clause-progress : goal.returns-in_err-write_delays-clause-progress
returns-in_err-write_delays-clause-progress g c =
    let p = err_from_is_err_and c.from_residual.result c.from_residual.ensures.1 in
    let all = c.count_all.ensures.progress in
    rw (p.1, p.2) all
