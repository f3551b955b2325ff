use Rattle.std.proofs.Common.{◌≡◌, ◌∙◌, ◌+◌, ◌-◌, ap, arith, subst}
use Rattle.cpu.specs.NextStep.{next_step}
use Rattle.cpu.specs.Run.{run}
use Rattle.cpu.specs.State.{Scenario, State}
use Rattle.cover.specs.Tallies.{IsAccount, account_number}
use Rattle.cpu.proofs.Turns.{few_cycles, fits_after, state_more}
use Rattle.notes.specs.Counted.{counts_of, first_of, taken, told_listed, told_of}
use Rattle.notes.specs.RunNotes.{here, text_after, where_of}
use Rattle.notes.proofs.text.write_first.Goals as goal

pub write_told-requires-clause-cycles : goal.write_told-requires-clause-cycles
write_told-requires-clause-cycles g c = few_cycles _ _ _ c.run_to.ensures.stands (omega (arith, c.requires.few, c.requires.order))

pub write_told-requires-clause-fits : goal.write_told-requires-clause-fits
write_told-requires-clause-fits g c = fits_after _ _ _ _ c.run_to.ensures.scenario c.run_to.ensures.stands

pub returns-clause-stands : goal.returns-clause-stands
returns-clause-stands g c =
    let number = c.args.first.now.number in
    let there : number - 1 + 1 ≡ number = omega (arith, c.requires.order) in
    state_more c.args.processor.now.scenario _ (number - 1) _ _ c.run_to.ensures.scenario c.run_to.ensures.stands c.write_told.ensures.state
    ∙ ap (λ k. run c.args.processor.now.scenario k) there

pub returns-clause-known : goal.returns-clause-known
returns-clause-known g c =
    let scenario = c.args.processor.now.scenario in
    let number = c.args.first.now.number in
    let fits = fits_after scenario _ (number - 1) _ c.run_to.ensures.scenario c.run_to.ensures.stands in
    let step : c.next_step.result ≡ next_step scenario (run scenario (number - 1)) =
    c.next_step.ensures fits ∙ ap (λ (u : Scenario). next_step u c.run_to.new.machine) c.run_to.ensures.scenario
    ∙ ap (λ (s : State). next_step scenario s) c.run_to.ensures.stands in
    subst (λ a. IsAccount a) (c.account_of.ensures ∙ ap where_of step) c.number_of-number.ensures.known

pub returns-clause-written : goal.returns-clause-written
returns-clause-written g c = λ told.
    let scenario = c.args.processor.now.scenario in
    let first = c.args.first.now in
    let s = run scenario (first.number - 1) in
    let fits = fits_after scenario _ (first.number - 1) _ c.run_to.ensures.scenario c.run_to.ensures.stands in
    let step : c.next_step.result ≡ next_step scenario s =
    c.next_step.ensures fits ∙ ap (λ (u : Scenario). next_step u c.run_to.new.machine) c.run_to.ensures.scenario
    ∙ ap (λ (t : State). next_step scenario t) c.run_to.ensures.stands in
    let number : c.number_of-number.result ≡ account_number (here scenario s) =
    c.number_of-number.ensures.number ∙ ap account_number (c.account_of.ensures ∙ ap where_of step) in
    let each : told_of c.told-told.result ≡ told_listed scenario c.args.notebook.now first = λ i kind.
    (c.told-told.ensures kind ∙ ap (λ n. taken (counts_of c.args.notebook.now kind) n (first_of first.kinds kind)) number) i in
    let out = told_of c.told-told.result in
    let m = c.run_to.new.machine in
    let text : text_after c.args.notation c.args.names.now c.run_to.new.processor.scenario first.number m out
    ≡ text_after c.args.notation c.args.names.now scenario first.number s (told_listed scenario c.args.notebook.now first) =
    ap (λ (u : Scenario). text_after c.args.notation c.args.names.now u first.number m out)
    c.run_to.ensures.scenario
    ∙ ap (λ (t : State). text_after c.args.notation c.args.names.now scenario first.number t out)
    c.run_to.ensures.stands
    ∙ ap (λ count. text_after c.args.notation c.args.names.now scenario first.number s count) each in
    rw text at (c.write_told.ensures.written told)
