use Rattle.std.proofs.Common.{◌≡◌, ◌∙◌, ◌+◌, ◌-◌, ◌<◌, ◌∷◌, ◌++◌, drop, false, get_or, length, refl, sym, ap, arith, subst}
use Rattle.std.proofs.lemmas.List.{drop_all, drop_more}
use Rattle.std.proofs.lemmas.Result.{err_from_is_err_and}
use Rattle.words.proofs.Texts.{append-nothing}
use Rattle.audit.proofs.PartTexts.{begins_parts, front, writes_more}
use Rattle.cpu.specs.Run.{run}
use Rattle.cpu.specs.State.{Scenario}
use Rattle.cpu.proofs.RunLaws.{run-zero}
use Rattle.cover.specs.Tallies.{IsAccount}
use Rattle.notes.specs.declared.first_steps.FirstStep.{FirstStep}
use Rattle.notes.specs.Counted.{first_steps, firsts_by, listed_text}
use Rattle.notes.specs.RunNotes.{here as here_in, step_text}
use Rattle.notes.proofs.FirstSteps.{NextListed, next_listed}
use Rattle.notes.proofs.Listing.{behind_listed, listed_is, up_to_listed}
use Rattle.notes.proofs.text.write_listed.Goals as goal

-- what would stand behind the last of a list
abbrev no_first : FirstStep
no_first = record { number = 0; kinds = firsts_by (λ kind. false) }

pub loop-first-init : goal.loop-first-init
loop-first-init g c =
    let whole : c.args.steps - 0 ≡ c.args.steps = omega arith in
    record {
      scenario = refl;
      state = c.start-machine.ensures.start ∙ sym (run-zero c.args.processor.now.scenario);
      rest = ap (λ k. first_steps c.args.notebook.now.named c.args.processor.now.scenario 0 k) whole
          ∙ sym (c.requires.counted.listed c.requires.complete) ∙ sym c.requires.firsts;
      written = λ told. append-nothing _ _ refl;
      failures = refl;
      within = omega arith;
      meter = omega arith;
    }

pub write_first-requires-clause-few : goal.write_first-requires-clause-few
write_first-requires-clause-few g c =
    let item : FirstStep = get_or c.args.firsts.now c.loop-first.first-index no_first in
    let more = drop (c.loop-first.first-index + 1) c.args.firsts.now in
    let here : c.loop-first.first-index < length c.args.firsts.now = omega arith in
    let split : drop c.loop-first.first-index c.args.firsts.now ≡ item ∷ more =
    drop_more c.args.firsts.now c.loop-first.first-index no_first here in
    let next : NextListed c.args.notebook.now.named c.args.processor.now.scenario c.loop-first.done (c.args.steps - c.loop-first.done)
    item more =
    next_listed c.args.notebook.now.named c.args.processor.now.scenario (c.args.steps - c.loop-first.done) c.loop-first.done item more
    (c.loop-first.invariant.rest ∙ split) in
    omega (arith, next.within, c.loop-first.invariant.within, c.requires.few)

pub write_first-requires-clause-order : goal.write_first-requires-clause-order
write_first-requires-clause-order g c =
    let item : FirstStep = get_or c.args.firsts.now c.loop-first.first-index no_first in
    let more = drop (c.loop-first.first-index + 1) c.args.firsts.now in
    let here : c.loop-first.first-index < length c.args.firsts.now = omega arith in
    let split : drop c.loop-first.first-index c.args.firsts.now ≡ item ∷ more =
    drop_more c.args.firsts.now c.loop-first.first-index no_first here in
    let next : NextListed c.args.notebook.now.named c.args.processor.now.scenario c.loop-first.done (c.args.steps - c.loop-first.done)
    item more =
    next_listed c.args.notebook.now.named c.args.processor.now.scenario (c.args.steps - c.loop-first.done) c.loop-first.done item more
    (c.loop-first.invariant.rest ∙ split) in
    next.later

pub write_first-requires-clause-stands : goal.write_first-requires-clause-stands
write_first-requires-clause-stands g c =
    c.loop-first.invariant.state ∙ ap (λ (scenario : Scenario). run scenario c.loop-first.done) (sym c.loop-first.invariant.scenario)

pub returns-in_err-write_first-clause-written : goal.returns-in_err-write_first-clause-written
returns-in_err-write_first-clause-written g c = λ told.
    let p = err_from_is_err_and c.from_residual.result c.from_residual.ensures.1 in
    let item : FirstStep = get_or c.args.firsts.now c.loop-first.first-index no_first in
    let more = drop (c.loop-first.first-index + 1) c.args.firsts.now in
    let here : c.loop-first.first-index < length c.args.firsts.now = omega arith in
    let split : drop c.loop-first.first-index c.args.firsts.now ≡ item ∷ more =
    drop_more c.args.firsts.now c.loop-first.first-index no_first here in
    let next : NextListed c.args.notebook.now.named c.args.processor.now.scenario c.loop-first.done (c.args.steps - c.loop-first.done)
    item more =
    next_listed c.args.notebook.now.named c.args.processor.now.scenario (c.args.steps - c.loop-first.done) c.loop-first.done item more
    (c.loop-first.invariant.rest ∙ split) in
    let is = c.loop-first.invariant.scenario in
    let known : IsAccount (here_in c.args.processor.now.scenario (run c.args.processor.now.scenario (item.number - 1))) =
    subst (λ (scenario : Scenario). IsAccount (here_in scenario (run scenario (item.number - 1)))) is c.in_err-write_first.ensures.known in
    let text : listed_text c.args.notation c.args.names.now c.loop-first.processor.scenario c.args.notebook.now item
    ≡ step_text c.args.notation c.args.names.now c.args.notebook.now.named c.args.processor.now.scenario c.args.steps (item.number - 1) =
    ap (λ (scenario : Scenario). listed_text c.args.notation c.args.names.now scenario c.args.notebook.now item) is
    ∙ listed_is c.args.notation c.args.names.now c.args.notebook.now.named c.args.processor.now.scenario c.args.steps (item.number - 1)
    c.args.notebook.now item c.requires.counted (omega (arith, next.later)) next.kinds known in
    let up = up_to_listed c.args.notation c.args.names.now c.args.notebook.now.named c.args.processor.now.scenario c.args.steps
    c.loop-first.done (c.args.steps - c.loop-first.done) item more next in
    rw p.1 (begins_parts
    (step_text c.args.notation c.args.names.now c.args.notebook.now.named c.args.processor.now.scenario c.args.steps) (item.number - 1)
    c.args.steps _ _ _ (omega (arith, next.later, next.within, c.loop-first.invariant.within))
    (c.loop-first.invariant.written told ∙ ap (λ items. g.W.Write.written c.args.out.now ++ items) up)
    (rw text at (c.in_err-write_first.ensures.written told)))

pub returns-in_err-write_first-clause-meter : goal.returns-in_err-write_first-clause-meter
returns-in_err-write_first-clause-meter g c =
    let item : FirstStep = get_or c.args.firsts.now c.loop-first.first-index no_first in
    let more = drop (c.loop-first.first-index + 1) c.args.firsts.now in
    let here : c.loop-first.first-index < length c.args.firsts.now = omega arith in
    let split : drop c.loop-first.first-index c.args.firsts.now ≡ item ∷ more =
    drop_more c.args.firsts.now c.loop-first.first-index no_first here in
    let next : NextListed c.args.notebook.now.named c.args.processor.now.scenario c.loop-first.done (c.args.steps - c.loop-first.done)
    item more =
    next_listed c.args.notebook.now.named c.args.processor.now.scenario (c.args.steps - c.loop-first.done) c.loop-first.done item more
    (c.loop-first.invariant.rest ∙ split) in
    omega (arith, c.in_err-write_first.ensures.meter, c.loop-first.invariant.meter, next.within, c.loop-first.invariant.within)

pub loop-first-preserved : goal.loop-first-preserved
loop-first-preserved g c =
    let item : FirstStep = get_or c.args.firsts.now c.loop-first.first-index no_first in
    let more = drop (c.loop-first.first-index + 1) c.args.firsts.now in
    let here : c.loop-first.first-index < length c.args.firsts.now = omega arith in
    let split : drop c.loop-first.first-index c.args.firsts.now ≡ item ∷ more =
    drop_more c.args.firsts.now c.loop-first.first-index no_first here in
    let next : NextListed c.args.notebook.now.named c.args.processor.now.scenario c.loop-first.done (c.args.steps - c.loop-first.done)
    item more =
    next_listed c.args.notebook.now.named c.args.processor.now.scenario (c.args.steps - c.loop-first.done) c.loop-first.done item more
    (c.loop-first.invariant.rest ∙ split) in
    let is = c.loop-first.invariant.scenario in
    let known : IsAccount (here_in c.args.processor.now.scenario (run c.args.processor.now.scenario (item.number - 1))) =
    subst (λ (scenario : Scenario). IsAccount (here_in scenario (run scenario (item.number - 1)))) is c.in_ok-write_first.ensures.known in
    let text : listed_text c.args.notation c.args.names.now c.loop-first.processor.scenario c.args.notebook.now item
    ≡ step_text c.args.notation c.args.names.now c.args.notebook.now.named c.args.processor.now.scenario c.args.steps (item.number - 1) =
    ap (λ (scenario : Scenario). listed_text c.args.notation c.args.names.now scenario c.args.notebook.now item) is
    ∙ listed_is c.args.notation c.args.names.now c.args.notebook.now.named c.args.processor.now.scenario c.args.steps (item.number - 1)
    c.args.notebook.now item c.requires.counted (omega (arith, next.later)) next.kinds known in
    let up = up_to_listed c.args.notation c.args.names.now c.args.notebook.now.named c.args.processor.now.scenario c.args.steps
    c.loop-first.done (c.args.steps - c.loop-first.done) item more next in
    let steps = step_text c.args.notation c.args.names.now c.args.notebook.now.named c.args.processor.now.scenario c.args.steps in
    let left : c.args.steps - item.number ≡ c.loop-first.done + (c.args.steps - c.loop-first.done) - item.number =
    omega (arith, next.later, next.within, c.loop-first.invariant.within) in
    let there : item.number - 1 + 1 ≡ item.number = omega (arith, next.later) in
    record {
      scenario = c.in_ok-write_first.ensures.scenario ∙ is;
      state = c.in_ok-write_first.ensures.stands ∙ ap (λ (scenario : Scenario). run scenario item.number) is;
      rest = ap (λ k. first_steps c.args.notebook.now.named c.args.processor.now.scenario item.number k) left ∙ next.rest;
      written = λ told.
          writes_more steps (item.number - 1) _ _ _
          (c.loop-first.invariant.written told ∙ ap (λ items. g.W.Write.written c.args.out.now ++ items) up)
          (rw text at (c.in_ok-write_first.ensures.written told))
          ∙ ap (λ k. g.W.Write.written c.args.out.now ++ front steps k) there;
      failures = c.in_ok-write_first.ensures.failures ∙ c.loop-first.invariant.failures;
      within = omega (arith, next.within, c.loop-first.invariant.within);
      meter = omega (arith, c.in_ok-write_first.ensures.meter, c.loop-first.invariant.meter);
    }

pub returns-clause-written : goal.returns-clause-written
returns-clause-written g c = λ told.
    let all = drop_all c.loop-first.first-index c.args.firsts.now (omega arith) in
    c.loop-first.invariant.written told
    ∙ ap (λ items. g.W.Write.written c.args.out.now ++ items)
    (behind_listed c.args.notation c.args.names.now c.args.notebook.now.named c.args.processor.now.scenario c.args.steps c.loop-first.done
    c.loop-first.invariant.within (c.loop-first.invariant.rest ∙ all))
