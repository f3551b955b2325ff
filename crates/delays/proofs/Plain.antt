-- What is kept of a plain step is what the definition of a step says.
use Rattle.std.proofs.Common.{◌≡◌, ℕ, ◌+◌, ◌-◌, ◌<◌, false, List, Option, None, refl, sym, ap, ◌∙◌, subst, if◌then◌else◌}
use Rattle.cpu.specs.declared.next_step.Fetched.{Fetched}
use Rattle.cpu.specs.declared.next_step.NextStep.{NextStep}
use Rattle.cpu.specs.declared.next_step.NextStep.TheVariants.{Executes}
use Rattle.cpu.specs.NextStep.{next_step}
use Rattle.cpu.specs.State.{State, Scenario}
use Rattle.cover.specs.Tallies.{account_count, account_number}
use Rattle.notes.specs.RunNotes.{where_of}
use Rattle.delays.specs.declared.call.Call.{Call}
use Rattle.delays.specs.Causes.{cause_by, causes}
use Rattle.delays.specs.Plain.{over_plain, plain_after, span_plain}
use Rattle.delays.specs.Routines.{call_over, left_in, returned_in, with_call}
use Rattle.delays.specs.ShortTests.{may_call}
use Rattle.delays.specs.Spans.{is_closed, span_rows, wait_rows}
use Rattle.delays.specs.Tallies.{after_in, begun_in, calls_in, Delayed, delayed_after, IsWithin, mark_in, over_in, put_down, span_in}
use Rattle.delays.specs.Tallies.{spent_in}
use Rattle.delays.specs.Tallies.{wait_in}
use Rattle.delays.proofs.Short.{none_made}

abbrev here_of : Fetched → ℕ
here_of f = account_number (where_of (Executes f))

abbrev cause_in : Fetched → State → Delayed → ℕ
cause_in f s d = cause_by (Executes f) s d.last

same_calls : (s : State) (f : Fetched) (d : Delayed) → may_call (Executes f) ≡ false → calls_in (Executes f) s d ≡ d.calls
same_calls s f d none = ap (λ (c : Option Call). with_call c d.calls) (none_made (Executes f) none s (mark_in d s.cycles))

over_is : (s t : State) (f : Fetched) (d : Delayed) → may_call (Executes f) ≡ false
    → over_in (Executes f) s t d ≡ over_plain t (here_of f) (cause_in f s d) s.cycles d
over_is s t f d none = ap (λ (cs : List Call). call_over (returned_in t cs) (after_in (Executes f) s t d) (here_of f))
    (same_calls s f d none)

plain_is : (s t : State) (f : Fetched) (d : Delayed) → may_call (Executes f) ≡ false
    → delayed_after (Executes f) s t d ≡ plain_after t (here_of f) (cause_in f s d) s.cycles d
unfolding delayed_after plain_after
plain_is s t f d none = λ i. record {
  steps = d.steps + 1;
  cycles = t.cycles;
  spent = spent_in (Executes f) s t d;
  last = d.last;
  waits = d.waits;
  closed = if is_closed t then begun_in (Executes f) s t d else None;
  calls = left_in t (same_calls s f d none i);
  waited = d.waited;
  spans = put_down d.spans (span_in (Executes f) s t d);
  called = put_down d.called (over_is s t f d none i);
}

-- what is kept is what the step after a state leads to
pub record MakesStep (scenario : Scenario) (s t : State) (old new : Delayed) : Type 0 where
  pub delays : new ≡ delayed_after (next_step scenario s) s t old
  pub cause : cause_by (next_step scenario s) s old.last < causes
  pub wait : IsWithin wait_rows (wait_in (next_step scenario s) s old)
  pub span : IsWithin span_rows (span_in (next_step scenario s) s t old)
  pub call : IsWithin account_count (over_in (next_step scenario s) s t old)

pub plain_made : (p : Scenario) (s t : State) (f : Fetched) (old new : Delayed) (cause cycles : ℕ) → Executes f ≡ next_step p s
    → may_call (Executes f) ≡ false → cause ≡ cause_in f s old → cycles ≡ s.cycles → cause < causes
    → new ≡ plain_after t (here_of f) cause cycles old
    → IsWithin span_rows (span_plain t (here_of f) cause cycles old) → IsWithin account_count (over_plain t (here_of f) cause cycles old)
    → MakesStep p s t old new
plain_made p s t f old new cause cycles step none is at within e span call =
    let here = here_of f in
    let by : ℕ = cause_in f s old in
    record {
      delays =
          e ∙ ap (λ (k : ℕ). plain_after t here k cycles old) is ∙ ap (λ (k : ℕ). plain_after t here by k old) at
          ∙ sym (plain_is s t f old none) ∙ ap (λ (x : NextStep). delayed_after x s t old) step;
      cause = subst (λ (x : NextStep). cause_by x s old.last < causes) step (subst (λ (k : ℕ). k < causes) is within);
      wait = subst (λ (x : NextStep). IsWithin wait_rows (wait_in x s old)) step tt;
      span =
          subst (λ (x : NextStep). IsWithin span_rows (span_in x s t old)) step
          (subst (λ (k : ℕ). IsWithin span_rows (span_plain t here by k old)) at
          (subst (λ (k : ℕ). IsWithin span_rows (span_plain t here k cycles old)) is span));
      call =
          subst (λ (x : NextStep). IsWithin account_count (over_in x s t old)) step
          (rw (over_is s t f old none)
          (subst (λ (k : ℕ). IsWithin account_count (over_plain t here by k old)) at
          (subst (λ (k : ℕ). IsWithin account_count (over_plain t here k cycles old)) is call)));
    }
