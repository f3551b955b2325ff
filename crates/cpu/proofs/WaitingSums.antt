-- By which step a sum was left that waits.
use Rattle.std.proofs.Common.{◌≡◌, ℕ, true, false, Option, Some, None, refl, ap, ◌∙◌, sym, ◌⊎◌, inl, inr}
use Rattle.std.specs.Prelude.{is_some}
use Rattle.rope.specs.Places.{Words}
use Rattle.feed.specs.declared.input.Input.{Input}
use Rattle.feed.specs.Merged.{due}
use Rattle.cpu.specs.declared.instruction.Instruction.{Instruction}
use Rattle.cpu.specs.declared.instruction.Instruction.TheVariants.{Index}
use Rattle.cpu.specs.State.{State, Scenario}
use Rattle.cpu.specs.Codes.{code_of}
use Rattle.cpu.specs.Effects.{value_at, place_in}
use Rattle.cpu.specs.Inputs.{take}
use Rattle.cpu.specs.Next.{extra_after, fetched, executed, execute, instruction_word, entry, entered, next_by, next}
use Rattle.cpu.specs.Links.{Link, link_by, link}
use Rattle.cpu.specs.Beside.{is_instruction}
use Rattle.cpu.specs.ByValue.{ExecutesIndex, reads_at}
use Rattle.cpu.proofs.RunLaws.{counted_in}
use Rattle.cpu.proofs.ByValue.{sum_bars}
use Rattle.cpu.proofs.LeavingBeside as beside
use Rattle.cpu.proofs.LeavingFlags as flags

-- INDEX read it at its place
pub record LeftByIndex (scenario : Scenario) (s t : State) (l : Link) (x : ℕ) : Type 0 where
  pub place : ℕ
  pub executes : ExecutesIndex scenario s place
  pub reads : reads_at scenario s place ≡ x
  pub no_word : t.waiting_word ≡ None
  pub extra : t.extra ≡ s.extra
  pub instruction : is_instruction l ≡ true

-- it waited before, and an input was taken
pub record LeftByInput (scenario : Scenario) (s t : State) (l : Link) (x : ℕ) : Type 0 where
  pub given : is_some (due scenario.inputs s.taken s.cycles) ≡ true
  pub sum : s.waiting_sum ≡ Some x
  pub word : t.waiting_word ≡ s.waiting_word
  pub extra : t.extra ≡ s.extra
  pub instruction : is_instruction l ≡ false

abbrev IsLeft : Scenario → State → State → Link → ℕ → Type 0
IsLeft scenario s t l x = LeftByIndex scenario s t l x ⊎ LeftByInput scenario s t l x

-- of all instructions INDEX alone leaves a sum, which it reads
only_index : (r : Words) (u : State) (i : Instruction) (k x : ℕ) → u.waiting_sum ≡ None → beside.left_sum r u i k ≡ Some x
    → (i ≡ Index) × (value_at r u (place_in u k) ≡ x)
only_index r u Index k x none e = (refl, cc)
only_index r u instruction k x none e = absurd (cc)

left_by_code : (scenario : Scenario) (s : State) (x : ℕ) → due scenario.inputs s.taken s.cycles ≡ None → entry s ≡ None
    → (execute scenario.rope s).0.waiting_sum ≡ Some x
    → LeftByIndex scenario s (execute scenario.rope s).0 (link_by scenario.rope s None None) x
unfolding fetched execute executed
left_by_code scenario s x no_input no_entry e =
    let r = scenario.rope in
    let u = fetched s in
    let code = code_of s.extra (instruction_word r s) in
    let leaves = beside.leaves_waiting r u code.instruction code.operand in
    let only = only_index r u code.instruction code.operand x refl (sym leaves.0 ∙ e) in
    record {
      place = code.operand;
      executes = record {
        none_due = no_input;
        none_entered = no_entry;
        executes = ap
            (λ (i : Instruction). record { instruction = i; operand = code.operand }) only.0;
      };
      reads = only.1;
      no_word = leaves.1 ∙ ap (beside.left_word u) only.0;
      extra = ap (λ (i : Instruction). extra_after i s.extra) only.0;
      instruction = refl;
    }

left_by_case : (scenario : Scenario) (s : State) (x : ℕ) (d : Option (Input × Option ℕ)) (k : Option ℕ)
    → due scenario.inputs s.taken s.cycles ≡ d → entry s ≡ k
    → (next_by scenario.rope s d k).0.waiting_sum ≡ Some x
    → IsLeft scenario s (next_by scenario.rope s d k).0 (link_by scenario.rope s d k) x
unfolding take entered
left_by_case scenario s x (Some given) k is_due is_entry e =
    let kept = beside.input_keeps (counted_in s given) given.0 in
    inr (record {
      given = ap is_some is_due;
      sum = sym kept.0
          ∙ e;
      word = kept.1;
      extra = (flags.input_keeps (counted_in s given) given.0).0;
      instruction = refl;
    })
left_by_case scenario s x None (Some k) is_due is_entry e = absurd (let barred = sum_bars s x e in cc)
left_by_case scenario s x None None is_due is_entry e = inl (left_by_code scenario s x is_due is_entry e)

-- a sum that waits after a step was read by INDEX, or waited before an input
pub left_by : (scenario : Scenario) (s : State) (x : ℕ) → (next scenario s).0.waiting_sum ≡ Some x
    → IsLeft scenario s (next scenario s).0 (link scenario s) x
unfolding next link
left_by scenario s x e = left_by_case scenario s x (due scenario.inputs s.taken s.cycles) (entry s) refl refl e
