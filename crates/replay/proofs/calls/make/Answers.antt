use Rattle.std.proofs.Common.{◌≡◌, ℕ, min, ◌∙◌, ap, rules}
use Rattle.std.specs.Fn.{FnReturnsAt}
use Rattle.replay.specs.LastHit.{AnswersAs}
use Rattle.replay.specs.Calls.Answer.{Went, Advanced, Shown, ShownBeside, Sought, Added, Refused}
use Rattle.replay.proofs.CallLemmas.{gone_on}
use Rattle.replay.proofs.calls.make.Goals as goal

pub returns-in-Ok : goal.returns-in-Ok
returns-in-Ok g c = rw c.in-Forward.is (Went c.in-Ok.output, rw c.in-Forward.is c.went.ensures, search rules)

pub returns-in-Err : goal.returns-in-Err
returns-in-Err g c = rw c.in-Forward.is (Refused c.in-Err.refusal, rw c.in-Forward.is c.refused.ensures, search rules)

pub returns-in-Ok-advance : goal.returns-in-Ok-advance
returns-in-Ok-advance g c =
    let told = c.in-Ok-advance.ensures in
    let gone = gone_on g.O.Watcher.sees g.K.Keeper.may_refuse c.args.session.now c.in-Advance.k c.in-Ok-advance.stop c.advance.new.self
    c.args.observer.now c.advance.new.watcher told.watched told.stopped told.advanced in
    rw c.in-Advance.is (
      Advanced gone.0 c.in-Ok-advance.stop,
      (c.advance.new.watcher, gone.1, rw c.in-Advance.is (c.advanced.ensures gone.0)),
      gone.2,
    )

pub returns-in-Err-advance : goal.returns-in-Err-advance
returns-in-Err-advance g c =
    let same = c.in-Err-advance.ensures.err.1 in
    rw c.in-Advance.is (Refused c.in-Err-advance.refusal, rw c.in-Advance.is (rw same at c.refused-in-Err-advance.ensures), search rules)

pub returns-in-Ok-show : goal.returns-in-Ok-show
returns-in-Ok-show g c = rw c.in-Show.is (Shown c.in-Ok-show.machine.now, rw c.in-Show.is c.shown.ensures, search rules)

pub returns-in-Err-show : goal.returns-in-Err-show
returns-in-Err-show g c = rw c.in-Show.is (Refused c.in-Err-show.refusal, rw c.in-Show.is c.refused-in-Err-show.ensures, search rules)

pub returns-in-Ok-with_present : goal.returns-in-Ok-with_present
returns-in-Ok-with_present g c = rw c.in-WithPresent.is (
  ShownBeside c.in-Ok-with_present.machine.now c.in-Ok-with_present.present.now c.in-Ok-with_present.processor.now.scenario,
  rw
      c.in-WithPresent.is c.shown_beside.ensures,
  search rules,
)

pub returns-in-Err-with_present : goal.returns-in-Err-with_present
returns-in-Err-with_present g c = rw c.in-WithPresent.is
    (Refused c.in-Err-with_present.refusal, rw c.in-WithPresent.is c.refused-in-Err-with_present.ensures, search rules)

pub returns-in-SeekBack : goal.returns-in-SeekBack
returns-in-SeekBack g c =
    let p = c.in-SeekBack.p in
    let s = c.args.session.now in
    let is : c.min-before.result ≡ min p s.n = c.min-before.ensures ∙ ap (λ (n : ℕ). min p n) c.steps.ensures.value in
    rw c.in-SeekBack.is (
      Sought c.seek_back.result,
      rw c.in-SeekBack.is c.sought.ensures,
      (
        λ is_hit answers.
            let here : AnswersAs (FnReturnsAt g.F.Fn c.args.hit.now) s.scenario c.min-before.result is_hit = rw is answers in
            rw is at (c.seek_back.ensures.last is_hit (λ t r below k. here t r below
            (record { shown = k.shown; shows = k.shows; says = record { met = k.says.met } }))),
        rw is at c.seek_back.ensures.after,
      ),
    )

pub returns-in-Ok-add : goal.returns-in-Ok-add
returns-in-Ok-add g c = rw c.in-Add.is (Added, rw c.in-Add.is c.added.ensures, search rules)

pub returns-in-Err-add : goal.returns-in-Err-add
returns-in-Err-add g c = rw c.in-Add.is (Refused c.in-Err-add.refusal, rw c.in-Add.is c.refused-in-Err-add.ensures, search rules)
