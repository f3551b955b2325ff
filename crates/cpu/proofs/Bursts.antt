-- Plain instructions, executed one after another.
use Rattle.std.proofs.Common.{◌≡◌, ◌<◌, ◌≤◌, ◌+◌, ◌*◌, ◌-◌, ◌||◌, ℕ, Bool, true, false, cond, Option, None, refl, ap, arith, ◌∙◌, sym}
use Rattle.std.specs.Prelude.{is_some, unwrap_or}
use Rattle.words.specs.Signs.{over}
use Rattle.rope.specs.Places.{Words}
use Rattle.feed.specs.declared.input.Input.{Input}
use Rattle.feed.specs.Merged.{due}
use Rattle.cpu.specs.declared.instruction.Instruction.{Instruction}
use Rattle.cpu.specs.declared.instruction.Instruction.TheVariants.{Relint, Inhint, Extend, Tc, Ccs, Tcf, Das, Lxch, Incr, Ads, Ca, Cs, Dxch}
use Rattle.cpu.specs.declared.instruction.Instruction.TheVariants.{Ts, Xch, Ad, Mask, Read, Rand, Ror, Rxor, Edrupt, Dv, Bzf, Msu, Qxch}
use Rattle.cpu.specs.declared.instruction.Instruction.TheVariants.{Aug, Dim, Dca, Dcs, Su, Bzmf, Mp}
use Rattle.cpu.specs.declared.output.Output.{Output}
use Rattle.cpu.specs.State.{State, Scenario}
use Rattle.cpu.specs.Codes.{Code, code_of, row_of}
use Rattle.cpu.specs.Effects.{accumulator_of, has_overflow}
use Rattle.cpu.specs.Next.{word_at_z, with_sum, instruction_word, fetched, written_by, executed, execute_code, execute, output_on}
use Rattle.cpu.specs.Next.{least_request, entry, next_by, next}
use Rattle.cpu.specs.Run.{run}
use Rattle.cpu.specs.Silent.{IsSilent}
use Rattle.cpu.specs.Bursts.{IsStill, is_plain}
use Rattle.cpu.proofs.LeavingBeside.{left_sum, left_word, leaves_waiting}
use Rattle.cpu.proofs.RunLaws.{cycles-next}
use Rattle.cpu.proofs.SilentLaws.{out_next, silent_more, state_next}
use Rattle.cpu.proofs.StepLaws.{requests-after, takes_in_turn}

-- what there is to say of each plain instruction
record PlainRow (r : Words) (s : State) (i : Instruction) (k : ℕ) : Type 0 where
  written : written_by (row_of i).role k ≡ None
  sum : left_sum r s i k ≡ s.waiting_sum
  word : left_word s i ≡ s.waiting_word

plain_row : (r : Words) (s : State) (i : Instruction) (k : ℕ) → is_plain i ≡ true → PlainRow r s i k
plain_row r s Relint k e = record { written = refl; sum = refl; word = refl }
plain_row r s Inhint k e = record { written = refl; sum = refl; word = refl }
plain_row r s Extend k e = record { written = refl; sum = refl; word = refl }
plain_row r s Tc k e = record { written = refl; sum = refl; word = refl }
plain_row r s Ccs k e = record { written = refl; sum = refl; word = refl }
plain_row r s Tcf k e = record { written = refl; sum = refl; word = refl }
plain_row r s Das k e = record { written = refl; sum = refl; word = refl }
plain_row r s Lxch k e = record { written = refl; sum = refl; word = refl }
plain_row r s Incr k e = record { written = refl; sum = refl; word = refl }
plain_row r s Ads k e = record { written = refl; sum = refl; word = refl }
plain_row r s Ca k e = record { written = refl; sum = refl; word = refl }
plain_row r s Cs k e = record { written = refl; sum = refl; word = refl }
plain_row r s Dxch k e = record { written = refl; sum = refl; word = refl }
plain_row r s Ts k e = record { written = refl; sum = refl; word = refl }
plain_row r s Xch k e = record { written = refl; sum = refl; word = refl }
plain_row r s Ad k e = record { written = refl; sum = refl; word = refl }
plain_row r s Mask k e = record { written = refl; sum = refl; word = refl }
plain_row r s Read k e = record { written = refl; sum = refl; word = refl }
plain_row r s Rand k e = record { written = refl; sum = refl; word = refl }
plain_row r s Ror k e = record { written = refl; sum = refl; word = refl }
plain_row r s Rxor k e = record { written = refl; sum = refl; word = refl }
plain_row r s Edrupt k e = record { written = refl; sum = refl; word = refl }
plain_row r s Dv k e = record { written = refl; sum = refl; word = refl }
plain_row r s Bzf k e = record { written = refl; sum = refl; word = refl }
plain_row r s Msu k e = record { written = refl; sum = refl; word = refl }
plain_row r s Qxch k e = record { written = refl; sum = refl; word = refl }
plain_row r s Aug k e = record { written = refl; sum = refl; word = refl }
plain_row r s Dim k e = record { written = refl; sum = refl; word = refl }
plain_row r s Dca k e = record { written = refl; sum = refl; word = refl }
plain_row r s Dcs k e = record { written = refl; sum = refl; word = refl }
plain_row r s Su k e = record { written = refl; sum = refl; word = refl }
plain_row r s Bzmf k e = record { written = refl; sum = refl; word = refl }
plain_row r s Mp k e = record { written = refl; sum = refl; word = refl }
plain_row r s i k e = absurd (cc)

-- no interrupt is entered where none is asked for
either_none : (b : Bool) (o : Option ℕ) → o ≡ None → cond b None o ≡ None
either_none true o e = refl
either_none false o e = e

pub still_entry : (s : State) → IsStill s → entry s ≡ None
unfolding entry
still_entry s still = either_none (s.inhibit || s.inside || s.extra || is_some s.waiting_sum || is_some s.waiting_word
    || has_overflow (over (accumulator_of s))) (least_request s.requests) still.unasked

-- where no input is due, an instruction is executed
pub still_next : (scenario : Scenario) (s : State) → IsStill s → due scenario.inputs s.taken s.cycles ≡ None
    → next scenario s ≡ execute scenario.rope s
unfolding next
still_next scenario s still none =
    ap (λ (d : Option (Input × Option ℕ)). next_by scenario.rope s d (entry s)) none
    ∙ ap (λ (o : Option ℕ). next_by scenario.rope s None o) (still_entry s still)

-- and that is the one at Z
pub still_word : (rope : Words) (s : State) → IsStill s → instruction_word rope s ≡ word_at_z rope s
unfolding instruction_word
still_word rope s still =
    ap (λ (o : Option ℕ). with_sum o (unwrap_or s.waiting_word (word_at_z rope s))) still.sum
    ∙ ap (λ (o : Option ℕ). unwrap_or o (word_at_z rope s)) still.word

still_execute : (rope : Words) (s : State) → IsStill s → execute rope s ≡ execute_code rope s (code_of s.extra (word_at_z rope s))
unfolding execute
still_execute rope s still = ap (λ (w : ℕ). execute_code rope s (code_of s.extra w)) (still_word rope s still)

-- a plain instruction is executed and puts nothing out
pub plain_made : (rope : Words) (s : State) (i : Instruction) (k : ℕ) → IsStill s → is_plain i ≡ true
    → (code_of s.extra (word_at_z rope s)).instruction ≡ i → (code_of s.extra (word_at_z rope s)).operand ≡ k
    → execute rope s ≡ (executed rope (fetched s) (record { instruction = i; operand = k }), None)
unfolding executed
plain_made rope s i k still plain same_instruction same_operand =
    let code : Code = code_of s.extra (word_at_z rope s) in
    let t = executed rope (fetched s) (record { instruction = i; operand = k }) in
    still_execute rope s still
    ∙ ap (λ (j : Instruction). execute_code rope s (record { instruction = j; operand = code.operand })) same_instruction
    ∙ ap (λ (n : ℕ). execute_code rope s (record { instruction = i; operand = n })) same_operand
    ∙ ap (λ (n : Option ℕ). (t, output_on t n)) (plain_row rope s i k plain).written

-- and leaves nothing that waits
pub plain_still : (rope : Words) (s : State) (i : Instruction) (k : ℕ) → IsStill s → is_plain i ≡ true
    → IsStill (executed rope (fetched s) (record { instruction = i; operand = k }))
unfolding executed fetched
plain_still rope s i k still plain =
    let row = plain_row rope (fetched s) i k plain in
    let waiting = leaves_waiting rope (fetched s) i k in
    record {
      sum = waiting.0 ∙ row.sum;
      word = waiting.1 ∙ row.word;
      unasked = ap least_request (requests-after rope (fetched s) i k) ∙ still.unasked;
    }

-- what a plain instruction does, and what stands still
pub ruleset plain_steps = (plain_made, plain_still)

-- How far a run has come by such steps from a state, behind step d.
pub record HasCome (p : Scenario) (from : State) (d n : ℕ) (m : State) : Type 0 where
  pub stands : m ≡ run p n
  pub still : IsStill m
  pub taken : m.taken ≡ from.taken
  pub cycles : m.cycles ≤ from.cycles + 6 * (n - d)
  pub silent : IsSilent p d n

pub comes_on : (p : Scenario) (from : State) (d n k silent : ℕ) (m t : State) → HasCome p from d n m → d ≤ n → k ≡ n + 1
    → ((cycles : ℕ) → cycles < silent → due p.inputs from.taken cycles ≡ None) → m.cycles < silent → execute p.rope m ≡ (t, None)
    → IsStill t → HasCome p from d k t
comes_on p from d n k silent m t come low same_number none before made still =
    let none_due : due p.inputs m.taken m.cycles ≡ None = rw come.taken (none m.cycles before) in
    let step = sym (still_next p m come.still none_due ∙ made) in
    let few = cycles-next p m in
    let same = ap (λ (q : State × Option Output). q.0.cycles) step in
    let come_on : HasCome p from d (n + 1) t = record {
      stands = state_next p n m t None come.stands step;
      still = still;
      taken = ap (λ (q : State × Option Output). q.0.taken) step ∙ (takes_in_turn p m).none none_due ∙ come.taken;
      cycles = omega (arith, come.cycles, few, same, low);
      silent = silent_more p d n come.silent (sym (out_next p n m t None come.stands step));
    } in
    rw same_number come_on
