-- The step that `why` tells as the INDEX that moved an operand.
use Rattle.std.proofs.Common.{◌≡◌, ◌<◌, ◌^◌, ℕ, zero, suc, Option, Some, None, refl, ap, ◌∙◌, sym, subst, arith, inl, inr}
use Rattle.std.specs.Prelude.{is_some}
use Rattle.std.proofs.lemmas.Bool.{cases_eq}
use Rattle.words.specs.Numbers.{value, extend, correct, sum}
use Rattle.rope.specs.Places.{Words}
use Rattle.feed.specs.declared.input.Input.{Input}
use Rattle.feed.specs.Merged.{due}
use Rattle.cpu.specs.State.{State, Scenario, start}
use Rattle.cpu.specs.Run.{run}
use Rattle.cpu.specs.Effects.{operand, next_address}
use Rattle.cpu.specs.Next.{instruction_word, word_at_z, entry}
use Rattle.cpu.specs.NextStep.{next_step_by, next_step}
use Rattle.cpu.specs.Chains.{link_at}
use Rattle.cpu.proofs.ByValue.{indexed, corrected_below, word_of}
use Rattle.cpu.proofs.CodeWords.{moved_operand}
use Rattle.cpu.proofs.WaitingSums.{LeftByIndex, LeftByInput, left_by}
use Rattle.debugger.specs.Whys.{added_by, last_executed}
use Rattle.debugger.specs.Moved.{IsDue, IsIndexBefore, MovesWord, TellsIndex, IndexIsTold}

-- the INDEX that left what waits after p steps, where no word waits
record IsFound (scenario : Scenario) (p x : ℕ) : Type 0 where
  i : ℕ
  is : last_executed scenario p ≡ Some i
  index : IsIndexBefore scenario p x i
  no_word : (run scenario p).waiting_word ≡ None

by_index : (scenario : Scenario) (p x : ℕ) → (run scenario (suc p)).waiting_sum ≡ Some x
    → LeftByIndex scenario (run scenario p) (run scenario (suc p)) (link_at scenario p) x → IsFound scenario (suc p) x
by_index scenario p x e l = record {
  i = p;
  is = rw l.instruction refl;
  index = record {
    earlier = omega arith;
    place = l.place;
    executes = l.executes;
    reads = l.reads;
    inputs = λ u after before. absurd (omega (arith, after, before));
    waits = λ u after before. (let here : suc p ≡ u = omega (arith, after, before) in subst (λ v. (run scenario v).waiting_sum ≡ Some x)
        here e);
    extra = l.extra;
  };
  no_word = l.no_word;
}

by_input : (scenario : Scenario) (p x : ℕ) → (run scenario (suc p)).waiting_sum ≡ Some x
    → LeftByInput scenario (run scenario p) (run scenario (suc p)) (link_at scenario p) x → IsFound scenario p x
    → IsFound scenario (suc p) x
by_input scenario p x e l f = record {
  i = f.i;
  is = rw l.instruction f.is;
  index = record {
    earlier = omega (arith, f.index.earlier);
    place = f.index.place;
    executes = f.index.executes;
    reads = f.index.reads;
    inputs = λ u after before. elim (cases_eq u p) [
      | inl here ↦ subst (λ v. IsDue scenario (run scenario v)) (sym here) l.given
      | inr other ↦ f.index.inputs u after (omega (arith, before, other))
    ];
    waits = λ u after before. elim (cases_eq u (suc p)) [
      | inl here ↦ subst (λ v. (run scenario v).waiting_sum ≡ Some x) (sym here) e
      | inr other ↦ f.index.waits u after (omega (arith, before, other))
    ];
    extra = l.extra ∙ f.index.extra;
  };
  no_word = l.word ∙ f.no_word;
}

-- a sum that waits after p steps was left by the last instruction before, an INDEX
found : (scenario : Scenario) (p x : ℕ) → (run scenario p).waiting_sum ≡ Some x → IsFound scenario p x
unfolding run start
found scenario zero x e = absurd (cc)
found scenario (suc p) x e = elim (left_by scenario (run scenario p) x e) [
  | inl l ↦ by_index scenario p x e l
  | inr l ↦ by_input scenario p x e l (found scenario p x l.sum)
]

-- what was added to an instruction had waited
had_waited : (rope : Words) (s : State) (given : Option (Input × Option ℕ)) (k : Option ℕ) (x : ℕ)
    → added_by (next_step_by rope s given k) ≡ Some x → s.waiting_sum ≡ Some x
had_waited rope s (Some given) k x e = absurd (cc)
had_waited rope s None (Some k) x e = absurd (cc)
had_waited rope s None None x e = e

moves_word : (scenario : Scenario) (s : State) (x : ℕ) → x < 2 ^ 15 → s.waiting_sum ≡ Some (extend x) → s.waiting_word ≡ None
    → MovesWord scenario s x
moves_word scenario s x lt waits no_word few =
    let own = word_at_z scenario.rope s in
    let own_lt : own < 2 ^ 15 = corrected_below (operand scenario.rope s (next_address s)) in
    let is : instruction_word scenario.rope s ≡ correct (sum (extend own) (extend x)) = word_of scenario.rope s (extend x) waits no_word in
    let moved_lt : instruction_word scenario.rope s
    < 2 ^ 15 = subst (λ w. w < 2 ^ 15) (sym is) (corrected_below (sum (extend own) (extend x))) in
    let by_value = ap value is ∙ indexed own x own_lt lt few in
    record {
      sum = by_value;
      operand = λ same. moved_operand s.extra own x (instruction_word scenario.rope s) own_lt moved_lt by_value
          same;
    }

tells : (scenario : Scenario) (t x : ℕ) → (run scenario t).waiting_sum ≡ Some x → IsFound scenario t x → TellsIndex scenario t x
tells scenario t x waits f = record {
  stands = ap is_some f.is;
  index = λ i e. (let same : f.i ≡ i = (let is = f.is in cc) in subst (IsIndexBefore scenario t x) same f.index);
  moved = λ y lt is. moves_word scenario (run scenario t) y lt (waits ∙ ap Some is) f.no_word;
}

pub index_is_told : (scenario : Scenario) (t x : ℕ) → IndexIsTold scenario t x
unfolding next_step
index_is_told scenario t x e =
    let s = run scenario t in
    let waits = had_waited scenario.rope s (due scenario.inputs s.taken s.cycles) (entry s) x e in
    tells scenario t x waits (found scenario t x waits)
