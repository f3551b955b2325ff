-- The step that is told to have entered an interrupt has entered it.
use Rattle.std.proofs.Common.{◌≡◌, ◌<◌, ◌≤◌, ◌+◌, ℕ, zero, suc, Bool, true, false, cond, not, Option, Some, None, [], ◌++◌, refl, sym, ap}
use Rattle.std.proofs.Common.{◌∙◌, subst, arith, inl, inr}
use Rattle.std.specs.Prelude.{codes, decimal}
use Rattle.std.proofs.lemmas.Bool.{cases_eq}
use Rattle.symbols.specs.Values.{SymbolTable}
use Rattle.feed.specs.declared.input.Input.{Input}
use Rattle.feed.specs.Merged.{due}
use Rattle.cpu.specs.Codes.{Code, code_of}
use Rattle.cpu.specs.State.{State, Scenario, start}
use Rattle.cpu.specs.Next.{fetched, execute, executed, instruction_word, entry, next_by, next}
use Rattle.rope.specs.Places.{Words}
use Rattle.cpu.specs.NextStep.{next_step_by, next_step}
use Rattle.cpu.specs.Run.{run}
use Rattle.cpu.specs.declared.next_step.NextStep.TheVariants.{Enters}
use Rattle.cpu.proofs.Framing.{inputs_keep_rest}
use Rattle.cpu.proofs.LeavingFlags.{left_inside, leaves_flags}
use Rattle.replay.specs.LastHit.{IsLastHit}
use Rattle.replay.proofs.WhyLemmas.{is_last_hit}
use Rattle.debugger.specs.Serving.{ServesSince, TellsEntry, EntryIsToldBy, EntryIsTold}
use Rattle.debugger.specs.Replies.{line}
use Rattle.debugger.specs.Standing.{entered_text}
use Rattle.debugger.specs.Whys.{last_outside, entered_mark, kind_text}

-- where an interrupt is served after a step, and was not before it, the step has entered one
record Entered (scenario : Scenario) (s : State) : Type 0 where
  interrupt : ℕ
  enters : next_step scenario s ≡ Enters interrupt

stays_outside : (s : State) (code : Code) → s.inside ≡ false → left_inside s code.instruction ≡ false
stays_outside s code e = grind (arith)

by_word : (rope : Words) (s : State) → s.inside ≡ false → (execute rope s).0.inside ≡ false
unfolding execute fetched executed
by_word rope s out =
    let code = code_of s.extra (instruction_word rope s) in
    (leaves_flags rope (fetched s) code.instruction code.operand).1.1.0 ∙ stays_outside (fetched s) code out

by_step : (scenario : Scenario) (s : State) (d : Option (Input × Option ℕ)) (k : Option ℕ) → due scenario.inputs s.taken s.cycles ≡ d
    → entry s ≡ k → s.inside ≡ false → (next scenario s).0.inside ≡ true
    → Entered scenario s
unfolding next next_step
by_step scenario s (Some given) k is_due is_entry out within = absurd (let kept = (inputs_keep_rest scenario s given is_due).inside in cc)
by_step scenario s None (Some k) is_due is_entry out within =
    record {
      interrupt = k;
      enters = ap (λ d. next_step_by scenario.rope s d (entry s)) is_due
          ∙ ap (next_step_by scenario.rope s None) is_entry;
    }
by_step scenario s None None is_due is_entry out within =
    absurd (
    let still : (next scenario s).0.inside ≡ false =
    ap (λ d. (next_by scenario.rope s d (entry s)).0.inside) is_due ∙ ap (λ k. (next_by scenario.rope s None k).0.inside) is_entry
    ∙ by_word scenario.rope s out in
    cc)

-- the last step that no interrupt is served after
none_served : (b : Bool) → not b ≡ true → b ≡ false
none_served true e = absurd (cc)
none_served false e = refl

is_served : (b : Bool) → not b ≡ false → b ≡ true
is_served true e = refl
is_served false e = absurd (cc)

serves : (scenario : Scenario) (p t : ℕ) → (run scenario p).inside ≡ true → IsLastHit (λ u. not (run scenario u).inside) 0 p (Some t)
    → (k : ℕ) × ServesSince scenario p t k
unfolding run
serves scenario p t within h =
    let out = none_served (run scenario t).inside h.2 in
    let inside : (u : ℕ) → t < u → u ≤ p → (run scenario u).inside ≡ true =
    (λ u after before. elim (cases_eq u p) [
      | inl last ↦ subst (λ v. (run scenario v).inside ≡ true) (sym last) within
      | inr other ↦ is_served (run scenario u).inside (h.3 u after (omega (arith, before, other)))
    ]) in
    let e = by_step scenario (run scenario t) (due scenario.inputs (run scenario t).taken (run scenario t).cycles) (entry (run scenario t))
    refl refl out (inside (suc t) (omega arith) (omega (arith, h.1))) in
    (e.interrupt, record { earlier = h.1; outside = out; enters = e.enters; inside = inside })

-- the start is outside
outside_at_start : (scenario : Scenario) → (run scenario 0).inside ≡ false
unfolding run start
outside_at_start scenario = refl

module _ (symbols : SymbolTable) (scenario : Scenario) (p : ℕ) where
  tells : (o : Option ℕ) → last_outside scenario p ≡ o → (run scenario p).inside ≡ true → IsLastHit (λ u. not (run scenario u).inside) 0 p o
      → TellsEntry symbols scenario p
  tells None e within h = absurd (at_start p within h)
    where
      at_start : (p : ℕ) → (run scenario p).inside ≡ true → IsLastHit (λ u. not (run scenario u).inside) 0 p None → ⊥
      at_start zero within h = absurd (let out = outside_at_start scenario in cc)
      at_start (suc q) within h = absurd (let out = outside_at_start scenario in let served = is_served (run scenario 0).inside
          (h 0 (omega arith) (omega arith)) in cc)
  tells (Some t) e within h =
      let s = serves scenario p t within h in
      record {
        step = t;
        interrupt = s.0;
        serves = s.1;
        mark = ap (λ (b : Bool). cond b (entered_mark (last_outside scenario p)) []) within ∙ ap entered_mark e;
        told = ap (λ (b : Bool). cond b (entered_text symbols scenario (last_outside scenario p)) []) within
            ∙ ap (entered_text symbols scenario) e
            ∙ ap (λ k. line (codes "IN " ++ kind_text symbols scenario.rope (run scenario t) k ++ codes " BY " ++ decimal (t + 1)))
            s.1.enters;
      }

  entry_by : (b : Bool) → (run scenario p).inside ≡ b → EntryIsToldBy symbols scenario p b
  entry_by true e = tells (last_outside scenario p) refl e (is_last_hit (λ u. not (run scenario u).inside) p)
  entry_by false e = record {
    mark = ap (λ (b : Bool). cond b (entered_mark (last_outside scenario p)) []) e;
    told = ap (λ (b : Bool). cond b (entered_text symbols scenario (last_outside scenario p)) []) e;
  }

pub entry_is_told : (symbols : SymbolTable) (scenario : Scenario) (p : ℕ) → EntryIsTold symbols scenario p
entry_is_told symbols scenario p = entry_by symbols scenario p (run scenario p).inside refl
