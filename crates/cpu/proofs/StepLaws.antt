-- What a step comes to, by the kinds of steps.
use Rattle.std.proofs.Common.{◌≡◌, ◌≢◌, ◌≤◌, ◌+◌, ℕ, List, [], ◌∷◌, Bool, true, false, cond, not, ◌&&◌, Option, Some, None, refl, arith}
use Rattle.std.proofs.Common.{◌∙◌, ap, sym, subst}
use Rattle.std.specs.Prelude.{is_some}
use Rattle.std.proofs.lemmas.Bool.Decides.{nat_tests}
use Rattle.std.proofs.lemmas.Bool.{and_parts}
use Rattle.std.specs.Ordering.{nat_cmp, eq_by_cmp}
use Rattle.std.specs.Cmp.{nat_cmp_total}
use Rattle.std.specs.FinSet as set
use Rattle.rope.specs.Places.{Words}
use Rattle.feed.specs.declared.input.Input.{Input}
use Rattle.feed.specs.Merged.{due}
use Rattle.cpu.specs.State.{State, Scenario}
use Rattle.cpu.specs.Effects.{Change, change, changes, accumulator_of, with_channel, after, dxch, write, wand, wor}
use Rattle.words.specs.Numbers.{extend, correct}
use Rattle.words.specs.BitSums.{and_sum, or_sum}
use Rattle.space.specs.Cells.{Cells, get, put, get_channel, put_channel, accumulator, lower_accumulator_channel, return_address_channel}
use Rattle.space.specs.Cells.{superbank_channel}
use Rattle.space.proofs.CellLaws.{get-put_accumulator, get-put_channel, at-put_channel_other}
use Rattle.cpu.specs.Effects.Change.{AtPlace}
use Rattle.cpu.specs.declared.instruction.Instruction.{Instruction}
use Rattle.cpu.specs.declared.instruction.Instruction.TheVariants.{Extend, Edrupt, Write, Wand, Wor}
use Rattle.cpu.specs.declared.output.Output.{Output}
use Rattle.cpu.specs.Codes.{Code, row_of, code_of}
use Rattle.cpu.specs.Next.{fetched, jumps, jump_cycles, executed, execute_code, execute, instruction_word, written_by, written_channel}
use Rattle.cpu.specs.Next.{output_on, entry, entered, next_by, next}
use Rattle.cpu.specs.Inputs as inputs
use Rattle.cpu.specs.Laws.{TakesInput, EntersInterrupt, ExecutesCode, AddsFewCycles, TakesInTurn, writes_channel, leads_out, IsPutOut}
use Rattle.cpu.specs.Laws.{PutsOutByWriting, AsksNothing}
use Rattle.cpu.proofs.RunLaws.{cycles-next, rise-next, counted_in, cycles-effect}
use Rattle.cpu.proofs.TakenLaws.{account-take, account-next_by, fits-next}

-- the three kinds of steps
pub by_input : (scenario : Scenario) (s : State) (given : Input × Option ℕ) → TakesInput scenario s given
    → next scenario s ≡ (inputs.take s given, None)
unfolding next
by_input scenario s given e = ap (λ o. next_by scenario.rope s o (entry s)) e

pub by_entry : (scenario : Scenario) (s : State) (k : ℕ) → EntersInterrupt scenario s k
    → next scenario s ≡ (entered scenario.rope s k, None)
unfolding next
by_entry scenario s k e = ap (λ o. next_by scenario.rope s o (entry s)) e.none_due ∙ ap (next_by scenario.rope s None) e.enters

pub by_code : (scenario : Scenario) (s : State) (code : Code) → ExecutesCode scenario s code
    → next scenario s ≡ execute_code scenario.rope s code
unfolding next execute
by_code scenario s code e =
    ap (λ o. next_by scenario.rope s o (entry s)) e.none_due ∙ ap (next_by scenario.rope s None) e.none_entered
    ∙ ap (execute_code scenario.rope s) e.executes

taken_cycles : (s : State) (given : Input × Option ℕ) → (inputs.take s given).cycles ≡ s.cycles + inputs.input_cycles given.0
unfolding inputs.take
taken_cycles s given = cycles-effect (counted_in s given) given.0

entered_cycles : (rope : Words) (s : State) (k : ℕ) → (entered rope s k).cycles ≡ s.cycles + 3
unfolding entered
entered_cycles rope s k = refl

some_cycles : (instruction : Instruction) → 1 ≤ (row_of instruction).cycles
some_cycles instruction = search (arith)

either_cycles : (b : Bool) (n : ℕ) → 1 ≤ n → 1 ≤ cond b jump_cycles n
either_cycles true n h = omega arith
either_cycles false n h = h

executed_cycles : (rope : Words) (s : State) (code : Code) → s.cycles + 1 ≤ (execute_code rope s code).0.cycles
unfolding executed fetched
executed_cycles rope s code = omega (
  arith,
  either_cycles (jumps (fetched s) code.instruction) (row_of code.instruction).cycles
      (some_cycles code.instruction),
)

pub adds_few_cycles : (scenario : Scenario) (s : State) → AddsFewCycles scenario s
adds_few_cycles scenario s = record {
  none_back = rise-next scenario s;
  at_most_six = cycles-next scenario s;
  by_input = λ given e. ap (λ (t : State × Option Output). t.0.cycles) (by_input scenario s given e) ∙ taken_cycles s given;
  by_entry = λ k e. ap (λ (t : State × Option Output). t.0.cycles) (by_entry scenario s k e) ∙ entered_cycles scenario.rope s k;
  by_code = λ code e. subst (λ (t : State × Option Output). s.cycles + 1 ≤ t.0.cycles) (sym (by_code scenario s code e))
      (executed_cycles scenario.rope s code);
}

-- a step takes the input that it is given
taken-next_by : (rope : Words) (s : State) (d : Option (Input × Option ℕ)) (o : Option ℕ)
    → (s.taken ≤ (next_by rope s d o).0.taken) × ((next_by rope s d o).0.taken ≤ s.taken + 1)
taken-next_by rope s None o = let same : (next_by rope s None o).0.taken
    ≡ s.taken = ap (λ (a : ℕ × List ℕ). a.0) (account-next_by rope s o) in (omega arith, omega arith)
taken-next_by rope s (Some given) o = let more : (inputs.take s given).taken
    ≡ s.taken + 1 = ap (λ (a : ℕ × List ℕ). a.0) (account-take s given) in
    (omega arith, omega arith)

taken_one : (s : State) (given : Input × Option ℕ) → (inputs.take s given).taken ≡ s.taken + 1
taken_one s given = ap (λ (a : ℕ × List ℕ). a.0) (account-take s given)

taken_none : (rope : Words) (s : State) (d : Option (Input × Option ℕ)) (o : Option ℕ) → d ≡ None → (next_by rope s d o).0.taken ≡ s.taken
taken_none rope s None o e = ap (λ (a : ℕ × List ℕ). a.0) (account-next_by rope s o)
taken_none rope s (Some given) o e = absurd (cc)

pub takes_in_turn : (scenario : Scenario) (s : State) → TakesInTurn scenario s
unfolding next
takes_in_turn scenario s =
    let d = due scenario.inputs s.taken s.cycles in
    let t = taken-next_by scenario.rope s d (entry s) in
    record {
      none_back = t.0;
      at_most_one = t.1;
      within = λ fits. (fits-next scenario s fits).stand;
      one = λ given e. ap (λ (t : State × Option Output). t.0.taken) (by_input scenario s given e) ∙ taken_one s given;
      none = λ e. taken_none scenario.rope s d (entry s) e;
    }

-- what is written on a channel is written by one of three instructions
writer : (instruction : Instruction) (k n : ℕ) → written_by (row_of instruction).role k ≡ Some n → writes_channel instruction ≡ true
writer Write k n e = refl
writer Wand k n e = refl
writer Wor k n e = refl
writer instruction k n e = absurd (cc)

written : (s : State) (channel : Option ℕ) (o : Output) → output_on s channel ≡ Some o → (n : ℕ) × (channel ≡ Some n)
written s None o e = absurd (cc)
written s (Some n) o e = (n, refl)

output-next_by : (rope : Words) (s : State) (d : Option (Input × Option ℕ)) (i : Option ℕ) (o : Output) → (next_by rope s d i).1 ≡ Some o
    → writes_channel (code_of s.extra (instruction_word rope s)).instruction ≡ true
unfolding execute
output-next_by rope s (Some given) i o e = absurd (cc)
output-next_by rope s None (Some k) o e = absurd (cc)
output-next_by rope s None None o e =
    let code = code_of s.extra (instruction_word rope s) in
    let w = written (executed rope (fetched s) code) (written_channel code) o e in
    writer code.instruction code.operand w.0 w.1

-- A is none of the cells of channels that lead out
a_stays : (s : Cells) (n x : ℕ) → n ≢ lower_accumulator_channel → n ≢ return_address_channel
    → get (put_channel s n x) accumulator ≡ get s accumulator
unfolding get
a_stays s n x l q = at-put_channel_other s n x accumulator l q (λ e. omega arith)

pub corrected_twice : (x : ℕ) → correct (extend (correct x)) ≡ correct x
corrected_twice x = grind (arith, nat_tests)

-- a channel that leads out is none of three
record LeadsOut (n : ℕ) : Type 0 where
  lower : n ≢ lower_accumulator_channel
  return' : n ≢ return_address_channel
  super : n ≢ superbank_channel

if_out : (n : ℕ) → leads_out n ≡ true → LeadsOut n
if_out n e = record { lower = grind (arith, nat_tests); return' = grind (arith, nat_tests); super = grind (arith, nat_tests) }

-- the word of A and of the channel, where the same was stored in both
record SameWord (t : State) (n : ℕ) : Type 0 where
  word : correct (get_channel t.cells n) ≡ correct (accumulator_of t)
  held : get_channel t.cells n ≡ extend (correct (get_channel t.cells n))

after_write : (s : State) (n : ℕ) → LeadsOut n → SameWord (changes s (write s n)) n
unfolding write
after_write s n out =
    let a = accumulator_of s in
    let back : get_channel (put_channel s.cells n a) n ≡ extend (correct a) = get-put_channel s.cells n a out.lower out.return' out.super in
    let stays : get (put_channel s.cells n a) accumulator ≡ a = a_stays s.cells n a out.lower out.return' in
    let twice : correct (extend (correct a)) ≡ correct a = corrected_twice a in
    record {
      word = ap correct back ∙ twice ∙ ap correct (sym stays);
      held = back ∙ ap extend (sym (ap correct back ∙ twice));
    }

after_both : (s : State) (n r : ℕ) → LeadsOut n → SameWord (record s { cells = put_channel (put s.cells accumulator r) n r }) n
after_both s n r out =
    let c = put s.cells accumulator r in
    let back : get_channel (put_channel c n r) n ≡ extend (correct r) = get-put_channel c n r out.lower out.return' out.super in
    let stays : get (put_channel c n r) accumulator ≡ r = a_stays c n r out.lower out.return' ∙ get-put_accumulator s.cells r in
    let twice : correct (extend (correct r)) ≡ correct r = corrected_twice r in
    record {
      word = ap correct back ∙ twice ∙ ap correct (sym stays);
      held = back ∙ ap extend (sym (ap correct back ∙ twice));
    }

same_word : (rope : Words) (s : State) (instruction : Instruction) (n : ℕ) → writes_channel instruction ≡ true → LeadsOut n
    → SameWord (after rope s instruction n) n
unfolding after wand wor
same_word rope s Write n e out = after_write s n out
same_word rope s Wand n e out = after_both s n (with_channel and_sum s n) out
same_word rope s Wor n e out = after_both s n (with_channel or_sum s n) out
same_word rope s instruction n e out = absurd (cc)

-- what is put out on a channel, if any
none_out : (t : State) (n : ℕ) (o : Output) → output_on t (Some n) ≡ Some o → leads_out n ≡ true
none_out t n o e = grind (arith, nat_tests)

out_is : (t : State) (n : ℕ) → leads_out n ≡ true
    → output_on t (Some n) ≡ Some (record { cycles = t.cycles; channel = n; word = correct (get_channel t.cells n) })
out_is t n e = grind (arith, nat_tests)

channel_of : (instruction : Instruction) (k : ℕ) → writes_channel instruction ≡ true → written_by (row_of instruction).role k ≡ Some k
channel_of Write k e = refl
channel_of Wand k e = refl
channel_of Wor k e = refl
channel_of instruction k e = absurd (cc)

put_out : (rope : Words) (s : State) (code : Code) (o : Output) → (execute_code rope s code).1 ≡ Some o
    → IsPutOut code (execute_code rope s code).0 o
unfolding executed
put_out rope s code o e =
    let t = executed rope (fetched s) code in
    let w = written t (written_channel code) o e in
    let writes = writer code.instruction code.operand w.0 w.1 in
    let is : written_channel code ≡ Some code.operand = channel_of code.instruction code.operand writes in
    let given : output_on t (Some code.operand) ≡ Some o = ap (output_on t) (sym is) ∙ e in
    let out = none_out t code.operand o given in
    let same : record { cycles = t.cycles; channel = code.operand; word = correct (get_channel t.cells code.operand) }
    ≡ o = (let both = sym (out_is t code.operand out) ∙ given in cc) in
    let words = same_word rope (fetched s) code.instruction code.operand writes (if_out code.operand out) in
    subst (IsPutOut code t) same (record {
      writes = writes;
      channel = refl;
      out = out;
      cycles = refl;
      word = words.word;
      held
          = words.held;
    })

gone_out : (rope : Words) (s : State) (code : Code) → writes_channel code.instruction ≡ true → leads_out code.operand ≡ true
    → is_some (execute_code rope s code).1 ≡ true
gone_out rope s code writes out =
    let t = executed rope (fetched s) code in
    ap is_some (ap (output_on t) (channel_of code.instruction code.operand writes) ∙ out_is t code.operand out)

pub puts_out_by_writing : (scenario : Scenario) (s : State) → PutsOutByWriting scenario s
unfolding next
puts_out_by_writing scenario s = record {
  only = λ o e. output-next_by scenario.rope s (due scenario.inputs s.taken s.cycles) (entry s) o e;
  by_input = λ given e. ap (λ (t : State × Option Output). t.1) (by_input scenario s given e);
  by_entry = λ k e. ap (λ (t : State × Option Output). t.1) (by_entry scenario s k e);
  by_code = λ code e. λ o put. subst (λ (t : State × Option Output). IsPutOut code t.0 o) (sym (by_code scenario s code e))
      (put_out scenario.rope s code o (ap (λ (t : State × Option Output). t.1) (sym (by_code scenario s code e)) ∙ put));
  each = λ code e. λ writes out. ap (λ (t : State × Option Output). is_some t.1) (by_code scenario s code e)
      ∙ gone_out scenario.rope s code writes out;
}

requests-change : (s : State) (c : Change) → (change s c).requests ≡ s.requests
requests-change s (AtPlace p x) = refl
requests-change s c = refl

requests-changes : (s : State) (cs : List Change) → (changes s cs).requests ≡ s.requests
requests-changes s [] = refl
requests-changes s (c ∷ cs) = requests-changes (change s c) cs ∙ requests-change s c

pub requests-after : (rope : Words) (s : State) (instruction : Instruction) (k : ℕ) → (after rope s instruction k).requests ≡ s.requests
unfolding after dxch
requests-after rope s Extend k = refl
requests-after rope s Edrupt k = refl
requests-after rope s instruction k = search (requests-changes)

requests-next_by : (rope : Words) (s : State) (o : Option ℕ) (k : ℕ) → set.contains (next_by rope s None o).0.requests k ≡ true
    → set.contains s.requests k ≡ true
unfolding entered execute executed fetched
requests-next_by rope s (Some entered) k e =
    let parts : (not (eq_by_cmp nat_cmp k entered) && set.contains s.requests k)
    ≡ true = sym (set.contains-remove nat_cmp_total s.requests entered k) ∙ e in
    (and_parts _ _ parts).1
requests-next_by rope s None k e = let code = code_of s.extra (instruction_word rope s) in
    let same = requests-after rope (fetched s) code.instruction code.operand in
    ap (λ (r : set.FinSet nat_cmp). set.contains r k) (sym same) ∙ e

pub asks_nothing : (scenario : Scenario) (s : State) → AsksNothing scenario s
unfolding next
asks_nothing scenario s = λ none. λ k e.
    requests-next_by scenario.rope s (entry s) k (subst
    (λ (d : Option (Input × Option ℕ)). set.contains (next_by scenario.rope s d (entry s)).0.requests k ≡ true) none e)
