-- What is kept of a run, step by step.
use Rattle.std.proofs.Common.{◌≡◌, ◌≢◌, ℕ, zero, suc, ◌+◌, ◌-◌, ◌<◌, ◌≤◌, ◌^◌, Bool, true, false, List, [], length, replicate}
use Rattle.std.proofs.Common.{get_or, set, Option, Some, None, is_some, unwrap_or, refl, sym, ap, ◌∙◌, inl, inr, arith, add-one}
use Rattle.std.proofs.Common.{if◌then◌else◌}
use Rattle.std.proofs.lemmas.Bool.{cases_Bool}
use Rattle.std.proofs.lemmas.Bool.Decides.{eqb_tells}
use Rattle.std.proofs.lemmas.List.{get_or-set_same, get_or-set_other, length-replicate, length-set}
use Rattle.words.proofs.Replicated.{get_replicated}
use Rattle.cpu.specs.declared.next_step.NextStep.{NextStep}
use Rattle.cpu.specs.declared.next_step.NextStep.TheVariants.{Takes, Enters, Executes}
use Rattle.cpu.specs.NextStep.{next_step}
use Rattle.cpu.specs.Profiles.{step_cycles}
use Rattle.cpu.specs.Run.{run}
use Rattle.cpu.specs.State.{State, Scenario, start}
use Rattle.cpu.proofs.RunLaws.{cycles-run, run-add-one}
use Rattle.access.specs.Levels.{entered_by, last_entered}
use Rattle.delays.specs.declared.mark.Begun.{Begun}
use Rattle.delays.specs.declared.mark.Best.{Best}
use Rattle.delays.specs.declared.mark.Mark.{Mark}
use Rattle.delays.specs.declared.call.Call.{Call}
use Rattle.delays.specs.Causes.{cause_by, causes}
use Rattle.cover.specs.Tallies.{account_count}
use Rattle.delays.specs.Routines.{call_at, call_ended, call_in, call_over, in_progress, left_in, returned_in, with_call}
use Rattle.delays.specs.Spans.{asked, asked_by, asked_in, cause_at, closed, here_at, is_closed, left_by, mark, span_by, span_ended}
use Rattle.delays.specs.Spans.{span_rows, spent_more, spents, start_row, wait_by, wait_ended, wait_rows}
use Rattle.delays.specs.Stretches.{best_by, best_of, better, Event, no_best, no_mark}
use Rattle.delays.specs.Tallies.{after_in, AreFew, begun_after, begun_in, calls_in, Delayed, delayed_after, Holds, IsSmall, IsWithin}
use Rattle.delays.specs.Tallies.{mark_in, Measures, over_in, put_down, span_in, spent_in, wait_in, waits_asked, waits_left}
use Rattle.delays.proofs.Sums.{adds_up, at_most_sum}

-- ## Tables
none_in : (n k : ℕ) → get_or (replicate n no_best) k no_best ≡ no_best
none_in zero k = refl
none_in (suc n) zero = refl
none_in (suc n) (suc k) = none_in n k

holds_none : (f : ℕ → Option Event) (rows : ℕ) (table : List Best) → table ≡ replicate rows no_best → Holds f 0 rows table
unfolding best_of
holds_none f rows table e = record {
  each = ap length e ∙ length-replicate rows no_best;
  bests = λ row. rw e (none_in rows row);
}

put_at : (table : List Best) (event : Event) (row : ℕ) → event.0 < length table
    → get_or (put_down table (Some event)) row no_best ≡ best_by row (Some event) (get_or table row no_best)
put_at table event row within =
    let new : Best = better (get_or table event.0 no_best) event.1 in
    elim (eqb_tells row event.0) [
      | inl same ↦
          rw same.0
          (ap (λ k. get_or (set table event.0 new) k no_best) same.1 ∙ get_or-set_same table event.0 new no_best within
          ∙ ap (λ k. better (get_or table k no_best) event.1) (sym same.1))
      | inr apart ↦ rw apart.0 (get_or-set_other table event.0 row new no_best apart.1)
    ]

put_by : (table : List Best) (e : Option Event) (rows row : ℕ) → length table ≡ rows → IsWithin rows e
    → get_or (put_down table e) row no_best ≡ best_by row e (get_or table row no_best)
put_by table None rows row each within = refl
put_by table (Some event) rows row each within = put_at table event row (omega (arith, each, within))

length_put : (table : List Best) (e : Option Event) → length (put_down table e) ≡ length table
length_put table None = refl
length_put table (Some event) = length-set table event.0 _

best_more : (f : ℕ → Option Event) (n row : ℕ) → best_of f (n + 1) row ≡ best_by row (f n) (best_of f n row)
unfolding best_of
best_more f n row = rw (add-one n) refl

holds_more : (f : ℕ → Option Event) (n rows : ℕ) (old : List Best) (e : Option Event) → e ≡ f n → IsWithin rows e → Holds f n rows old
    → Holds f (n + 1) rows (put_down old e)
holds_more f n rows old e is within before = record {
  each = length_put old e ∙ before.each;
  bests = λ row.
      put_by old e rows row before.each within ∙ ap (λ b. best_by row e b) (before.bests row) ∙ ap (λ x. best_by row x (best_of f n row)) is
      ∙ sym (best_more f n row);
}

few_by : (row : ℕ) (e : Option Event) (b : Best) (n : ℕ) → b.count ≤ n → (best_by row e b).count ≤ suc n
few_by row None b n few = omega (arith, few)
few_by row (Some event) b n few =
    elim (eqb_tells row event.0) [
      | inl same ↦ rw same.0 (omega (arith, few))
      | inr apart ↦ rw apart.0 (omega (arith, few))
    ]

few_bests : (f : ℕ → Option Event) (n row : ℕ) → (best_of f n row).count ≤ n
unfolding best_of
few_bests f zero row = omega arith
few_bests f (suc n) row = few_by row (f n) (best_of f n row) n (few_bests f n row)

few_in : (f : ℕ → Option Event) (n rows : ℕ) (table : List Best) → n < 2 ^ 40 → Holds f n rows table → AreFew table (2 ^ 62)
few_in f n rows table lt holds row = rw (holds.bests row) (let few = few_bests f n row in omega (arith, few, lt))

-- ## Waits
abbrev no_wait : Option Mark
no_wait = None

no_wait_in : (n k : ℕ) → get_or (replicate n no_wait) k no_wait ≡ no_wait
no_wait_in n k = get_replicated no_wait n k

left_at : (step : NextStep) (waits : List (Option Mark)) (k : ℕ) → k < length waits
    → get_or (waits_left step waits) k None ≡ left_by k step (get_or waits k None)
left_at (Takes input) waits k within = refl
left_at (Executes f) waits k within = refl
left_at (Enters j) waits k within =
    elim (eqb_tells k j) [
      | inl same ↦ rw same.0 (ap (λ i. get_or (set waits i None) k None) (sym same.1) ∙ get_or-set_same waits k None None within)
      | inr apart ↦ rw apart.0 (get_or-set_other waits j k None None apart.1)
    ]

asked_here : (waits : List (Option Mark)) (after : Mark) (k : ℕ) (since : Option Mark) → k < length waits → get_or waits k None ≡ since
    → get_or (waits_asked (Some k) after waits) k None ≡ Some (unwrap_or since after)
asked_here waits after k None within e = rw e (get_or-set_same waits k (Some after) None within)
asked_here waits after k (Some m) within e = rw e e

asked_other : (waits : List (Option Mark)) (after : Mark) (j k : ℕ) → k ≢ j
    → get_or (waits_asked (Some j) after waits) k None ≡ get_or waits k None
asked_other waits after j k apart =
    elim (cases_Bool (is_some (get_or waits j None))) [
      | inl there ↦ rw there refl
      | inr none ↦ rw none (get_or-set_other waits j k (Some after) None apart)
    ]

asked_at : (o : Option ℕ) (after : Mark) (waits : List (Option Mark)) (k : ℕ) → k < length waits
    → get_or (waits_asked o after waits) k None ≡ asked_by k o after (get_or waits k None)
asked_at None after waits k within = refl
asked_at (Some j) after waits k within =
    elim (eqb_tells k j) [
      | inl same ↦ rw same.0 (ap (λ i. get_or (waits_asked (Some i) after waits) k None) (sym same.1)
          ∙ asked_here waits after k (get_or waits k None) within refl)
      | inr apart ↦ rw apart.0 (asked_other waits after j k apart.1)
    ]

length_left : (step : NextStep) (waits : List (Option Mark)) → length (waits_left step waits) ≡ length waits
length_left (Takes input) waits = refl
length_left (Enters k) waits = length-set waits k None
length_left (Executes f) waits = refl

length_asked : (o : Option ℕ) (after : Mark) (waits : List (Option Mark)) → length (waits_asked o after waits) ≡ length waits
length_asked None after waits = refl
length_asked (Some k) after waits =
    elim (cases_Bool (is_some (get_or waits k None))) [
      | inl there ↦ rw there refl
      | inr none ↦ rw none (length-set waits k (Some after))
    ]

wait_same : (step : NextStep) (f g : ℕ → Option Mark) (before : Mark) (here : ℕ) → IsWithin wait_rows (wait_by step f before here)
    → ((k : ℕ) → k < wait_rows → f k ≡ g k)
    → wait_by step f before here ≡ wait_by step g before here
wait_same (Takes input) f g before here within same = refl
wait_same (Enters k) f g before here within same = ap
    (λ (x : Option Mark). Some (k, record { from = unwrap_or x before; to = before; step = before.step + 1; end = here })) (same k within)
wait_same (Executes f) f' g before here within same = refl

-- ## Spans
closed_same : (b : Bool) (x : Begun) (before : Option Begun)
    → (if b then begun_after b x before else None) ≡ (if b then Some (unwrap_or before x) else None)
closed_same true x before = refl
closed_same false x before = refl

span_same : (b : Bool) (x : Begun) (before : Option Begun) (after : Mark) (here : ℕ)
    → span_by b (begun_after b x before) after here ≡ span_by b before after here
span_same true x before after here = refl
span_same false x before after here = refl

-- ## A step more
spents_more : (scenario : Scenario) (n : ℕ) → spents scenario (n + 1)
    ≡ spent_more (spents scenario n) (cause_at scenario n) (step_cycles scenario (run scenario n))
unfolding spents
spents_more scenario n = rw (add-one n) refl

last_more : (scenario : Scenario) (n : ℕ) → last_entered scenario (n + 1)
    ≡ entered_by (next_step scenario (run scenario n)) (last_entered scenario n)
unfolding last_entered
last_more scenario n = rw (add-one n) refl

closed_more : (scenario : Scenario) (n : ℕ)
    → closed scenario (n + 1) ≡ (if is_closed (run scenario (n + 1)) then Some
    (unwrap_or (closed scenario n) (record { by = here_at scenario n; mark = mark scenario n })) else None)
unfolding closed
closed_more scenario n = rw (add-one n) refl

asked_more : (scenario : Scenario) (k n : ℕ)
    → asked scenario k (n + 1) ≡ asked_by k (asked_in (next_step scenario (run scenario n)) (run scenario n)) (mark scenario (n + 1))
    (left_by k (next_step scenario (run scenario n)) (asked scenario k n))
unfolding asked
asked_more scenario k n = rw (add-one n) refl

span_now : (scenario : Scenario) (n : ℕ) → span_ended scenario n
    ≡ span_by (is_closed (run scenario (n + 1))) (closed scenario n) (mark scenario (n + 1)) (here_at scenario n)
span_now scenario n = rw (add-one n) refl

calls_more : (scenario : Scenario) (n : ℕ) → in_progress scenario (n + 1)
    ≡ left_in (run scenario (n + 1)) (with_call (call_at scenario n) (in_progress scenario n))
unfolding in_progress
calls_more scenario n = rw (add-one n) refl

over_now : (scenario : Scenario) (n : ℕ)
    → call_ended scenario n ≡ call_over (returned_in (run scenario (n + 1)) (with_call (call_at scenario n) (in_progress scenario n)))
    (mark scenario (n + 1)) (here_at scenario n)
over_now scenario n = rw (add-one n) refl

known_more : (scenario : Scenario) (n : ℕ) → ((t : ℕ) → t < n → cause_at scenario t < causes) → cause_at scenario n < causes → (t : ℕ)
    → t < n + 1 → cause_at scenario t < causes
known_more scenario n before here t lt =
    elim (eqb_tells t n) [
      | inl last ↦ rw last.1 here
      | inr apart ↦ before t (omega (arith, lt, apart.1))
    ]

measures_step : (scenario : Scenario) (n : ℕ) (old : Delayed) → Measures scenario n old
    → cause_by (next_step scenario (run scenario n)) (run scenario n) old.last < causes
    → IsWithin wait_rows (wait_in (next_step scenario (run scenario n)) (run scenario n) old)
    → IsWithin span_rows (span_in (next_step scenario (run scenario n)) (run scenario n) (run scenario (n + 1)) old)
    → IsWithin account_count (over_in (next_step scenario (run scenario n)) (run scenario n) (run scenario (n + 1)) old)
    → Measures scenario (n + 1) (delayed_after (next_step scenario (run scenario n)) (run scenario n) (run scenario (n + 1)) old)
unfolding delayed_after
measures_step scenario n old before cause wait span call =
    let s = run scenario n in
    let t = run scenario (n + 1) in
    let step = next_step scenario s in
    let here = here_at scenario n in
    let cause_now : cause_by step s old.last ≡ cause_at scenario n = ap (λ (last : ℕ). cause_by step s last) before.last in
    let spent : spent_in step s t old ≡ spents scenario (n + 1) =
    ap (λ (ks : List ℕ). spent_more ks (cause_by step s old.last) (t.cycles - s.cycles)) before.spent
    ∙ ap (λ (c : ℕ). spent_more (spents scenario n) c (t.cycles - s.cycles)) cause_now
    ∙ ap (λ (u : State). spent_more (spents scenario n) (cause_at scenario n) (u.cycles - s.cycles)) (run-add-one scenario n)
    ∙ sym (spents_more scenario n) in
    let now : mark_in old s.cycles ≡ mark scenario n = λ i. record { step = before.steps i; cycles = s.cycles; spent = before.spent i } in
    let after : after_in step s t old ≡ mark scenario (n + 1) = λ i. record
    { step = before.steps i + 1; cycles = t.cycles; spent = spent i } in
    let begun : begun_in step s t old ≡ begun_after (is_closed t) (record { by = here; mark = mark scenario n }) (closed scenario n) =
    λ i. begun_after (is_closed t) (record { by = here; mark = now i }) (before.closed i) in
    let waited : wait_in step s old ≡ wait_ended scenario n =
    wait_same step (λ k. get_or old.waits k None) (λ k. asked scenario k n) (mark_in old s.cycles) here wait before.waits
    ∙ ap (λ (m : Mark). wait_by step (λ k. asked scenario k n) m here) now in
    let spans : span_in step s t old ≡ span_ended scenario n =
    (λ i. span_by (is_closed t) (begun i) (after i) here)
    ∙ span_same (is_closed t) (record { by = here; mark = mark scenario n }) (closed scenario n) (mark scenario (n + 1)) here
    ∙ sym (span_now scenario n) in
    let made : calls_in step s old ≡ with_call (call_at scenario n) (in_progress scenario n) = λ i. with_call (call_in s step (now i))
    (before.calls i) in
    let called : over_in step s t old ≡ call_ended scenario n = (λ i. call_over (returned_in t (made i)) (after i) here)
    ∙ sym (over_now scenario n) in
    record {
      steps = ap (λ (k : ℕ). k + 1) before.steps;
      cycles = refl;
      spent = spent;
      last = ap (λ (k : ℕ). entered_by step k) before.last ∙ sym (last_more scenario n);
      places = length_asked (asked_in step s) (after_in step s t old) (waits_left step old.waits) ∙ length_left step old.waits
          ∙ before.places;
      waits = λ k lt.
          let long = before.places in
          let left_long = length_left step old.waits in
          asked_at (asked_in step s) (after_in step s t old) (waits_left step old.waits) k (omega (arith, lt, long, left_long))
          ∙ ap (λ (m : Mark). asked_by k (asked_in step s) m (get_or (waits_left step old.waits) k None)) after
          ∙ ap (λ (x : Option Mark). asked_by k (asked_in step s) (mark scenario (n + 1)) x)
          (left_at step old.waits k (omega (arith, lt, long)))
          ∙ ap (λ (x : Option Mark). asked_by k (asked_in step s) (mark scenario (n + 1)) (left_by k step x)) (before.waits k lt)
          ∙ sym (asked_more scenario k n);
      closed =
          ap (λ (b : Option Begun). if is_closed t then b else None) begun
          ∙ closed_same (is_closed t) (record { by = here; mark = mark scenario n }) (closed scenario n) ∙ sym (closed_more scenario n);
      calls = ap (λ (calls : List Call). left_in t calls) made ∙ sym (calls_more scenario n);
      waited = holds_more (wait_ended scenario) n wait_rows old.waited (wait_in step s old) waited wait before.waited;
      spans = holds_more (span_ended scenario) n span_rows old.spans (span_in step s t old) spans span before.spans;
      called = holds_more (call_ended scenario) n account_count old.called (over_in step s t old) called call before.called;
      known = known_more scenario n before.known (rw before.last at cause);
    }

pub measures_more : (scenario now : Scenario) (n : ℕ) (s t : State) (old new : Delayed) → now ≡ scenario → s ≡ run scenario n
    → t ≡ run scenario (n + 1) → Measures scenario n old
    → cause_by (next_step now s) s old.last < causes → IsWithin wait_rows (wait_in (next_step now s) s old)
    → IsWithin span_rows (span_in (next_step now s) s t old)
    → IsWithin account_count (over_in (next_step now s) s t old) → new ≡ delayed_after (next_step now s) s t old
    → Measures scenario (n + 1) new
measures_more scenario now n s t old new same from to before cause wait span call e =
    rw (e, same, from, to) (measures_step scenario n old before (rw (same, from) at cause) (rw (same, from) at wait)
    (rw (same, from, to) at span) (rw (same, from, to) at call))

-- before the first step
pub none_measured : (scenario : Scenario) (d : Delayed) → d.steps ≡ 0 → d.cycles ≡ 0 → d.spent ≡ replicate causes 0 → d.last ≡ 0
    → d.waits ≡ replicate wait_rows None
    → d.closed ≡ Some (record { by = start_row; mark = no_mark }) → d.waited ≡ replicate wait_rows no_best
    → d.spans ≡ replicate span_rows no_best
    → d.calls ≡ [] → d.called ≡ replicate account_count no_best → Measures scenario 0 d
unfolding spents last_entered asked closed in_progress run start
none_measured scenario d steps cycles spent last waits closed waited spans calls called = record {
  steps = steps;
  cycles = cycles;
  spent = spent;
  last = last;
  places = ap length waits ∙ length-replicate wait_rows no_wait;
  waits = λ k lt. rw waits (no_wait_in wait_rows k);
  closed = closed;
  waited = holds_none (wait_ended scenario) wait_rows d.waited waited;
  calls = calls;
  spans = holds_none (span_ended scenario) span_rows d.spans spans;
  called = holds_none (call_ended scenario) account_count d.called called;
  known = λ t lt. absurd (omega (arith, lt));
}

-- each count may grow
pub small : (scenario : Scenario) (n : ℕ) (d : Delayed) → n < 2 ^ 40 → Measures scenario n d → IsSmall d
small scenario n d few measures =
    let sum = adds_up scenario n measures.known in
    let cycles = cycles-run scenario n in
    record {
      steps = rw measures.steps (omega (arith, few));
      spent = λ c. rw measures.spent (let part = at_most_sum (spents scenario n) c in omega (arith, part, sum, cycles, few));
      waited = few_in (wait_ended scenario) n wait_rows d.waited few measures.waited;
      spans = few_in (span_ended scenario) n span_rows d.spans few measures.spans;
      called = few_in (call_ended scenario) n account_count d.called few measures.called;
    }
