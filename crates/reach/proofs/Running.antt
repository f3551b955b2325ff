-- What a run executes is reached.
use Rattle.std.proofs.Common.{◌≡◌, ℕ, zero, suc, ◌+◌, ◌-◌, ◌*◌, ◌/◌, ◌%◌, ◌^◌, ◌<◌, ◌≤◌, ◌==◌, ◌||◌, Bool, true, false, cond, List, []}
use Rattle.std.proofs.Common.{◌∷◌, map, Option, Some, None, refl, sym, ap, subst, ◌∙◌, inl, inr, arith, nat_lt, find, add-one}
use Rattle.std.specs.Prelude.{is_some}
use Rattle.std.specs.FinSet as set
use Rattle.std.specs.List.{range_with_len}
use Rattle.std.proofs.lemmas.Bool.{cases_Bool, cases_eq, cases_lt, or_parts}
use Rattle.std.proofs.lemmas.Bool.Decides.{nat_tests}
use Rattle.words.specs.Numbers.{correct, extend}
use Rattle.words.specs.Counters.{pinc}
use Rattle.words.specs.Signs.{over}
use Rattle.words.specs.declared.counters.Carry.{Carry}
use Rattle.rope.specs.Places.{Words}
use Rattle.space.specs.Cells.{Cells, accumulator, at, channel_cell, erasable_bank, fixed_bank, get, kept, lower_accumulator}
use Rattle.space.specs.Cells.{program_counter, put, put_channel, superbank, superbank_channel, zero_cells}
use Rattle.space.specs.Places.{place}
use Rattle.space.specs.declared.place.Linear.TheVariants.{Fixed}
use Rattle.feed.specs.Counters.{counter_place}
use Rattle.feed.specs.declared.input.Counter.{Counter}
use Rattle.feed.specs.declared.input.Input.{Input}
use Rattle.feed.specs.declared.input.Input.TheVariants.{Count, Word, Interrupt}
use Rattle.feed.specs.Merged.{due}
use Rattle.cpu.specs.declared.instruction.Instruction.{Instruction}
use Rattle.cpu.specs.declared.instruction.Instruction.TheVariants.{Ad, Ads, Aug, Bzf, Bzmf, Ca, Ccs, Cs, Das, Dca, Dcs, Dim, Dv, Dxch}
use Rattle.cpu.specs.declared.instruction.Instruction.TheVariants.{Edrupt, Extend, Incr, Index, Inhint, Lxch, Mask, Mp, Msu, Qxch, Rand}
use Rattle.cpu.specs.declared.instruction.Instruction.TheVariants.{Read, Relint, Resume, Ror, Rxor, Su, Tc, Tcf, Ts, Wand, Wor, Write, Xch}
use Rattle.cpu.specs.declared.output.Output.{Output}
use Rattle.cpu.specs.State.{Scenario, State, first_address, interrupted_address, interrupted_word, start}
use Rattle.cpu.specs.Codes.{Code, bits, code_of, row_of}
use Rattle.cpu.specs.Operands.{address_of}
use Rattle.cpu.specs.Effects.{Change, accumulator_of, after, change, changes, inhint, relint, dxch, ad, ads, aug, bzf, bzmf, ca, ccs, cs}
use Rattle.cpu.specs.Effects.{das, dca, dcs, dim, dv, incr, index, lxch, mask, mp, msu, qxch, rand, read, resume, ror, rxor, su, tc, tcf}
use Rattle.cpu.specs.Effects.{ts, wand, wor, write, xch, erasable_in, exchange, first_of, greatest_short, has_overflow, next_address}
use Rattle.cpu.specs.Effects.{place_in}
use Rattle.cpu.specs.Effects.Change.{AtPlace, OnChannel, Inhibits, Serves, WaitsWithSum, WaitsWithWord}
use Rattle.cpu.specs.Inputs.{asked, asked_after, asked_on, carried, carries_into, count_of, counted, input_effect, is_overflow, received}
use Rattle.cpu.specs.Inputs.{step_of, stepped, take}
use Rattle.cpu.specs.Links.{cell_of_channel, is_in, place_cells}
use Rattle.cpu.specs.Laws.{EntersInterrupt, ExecutesCode}
use Rattle.cpu.specs.Next.{entered, entry, execute, execute_code, executed, extra_after, fetched, following_address, instruction_word}
use Rattle.cpu.specs.Next.{least_request, next, next_by, word_at_z}
use Rattle.cpu.specs.Run.{run}
use Rattle.space.proofs.CellLaws.{at-put}
use Rattle.cpu.proofs.Framing.{inputs_keep_rest}
use Rattle.cpu.proofs.Leaving.{leaves_rest}
use Rattle.cpu.proofs.LeavingBeside.{left_sum, leaves_waiting}
use Rattle.cpu.proofs.Linking.{fetched_by}
use Rattle.cpu.proofs.Flowing.{channel_miss, put_miss}
use Rattle.cpu.proofs.RunLaws.{counted_in}
use Rattle.reach.specs.declared.spot.How.{How}
use Rattle.reach.specs.declared.spot.How.TheVariants.{Executes}
use Rattle.reach.specs.declared.spot.Spot.{Spot}
use Rattle.reach.specs.Ways.{Among, at_address, kind_of, leads, leads_by, leads_from, plain, vector, vectors, word_of}
use Rattle.reach.specs.Ways.Reached.{Root, Way}
use Rattle.reach.specs.Runs.{GoesAsTold, HaveVectors, IsCovered, RunIsCovered, SparesWay, StepIsCovered, spot_at, spot_of}
use Rattle.reach.specs.Runs.IsTold.{ByInput, ByEntry, ByInstruction}
use Rattle.reach.proofs.Landing.{IsOwn, Lands, Shape, how_after, landed, lands, same_bank, shape}

-- ## An instruction
by_code : (scenario : Scenario) (s : State) (code : Code) → ExecutesCode scenario s code
    → next scenario s ≡ execute_code scenario.rope s code
unfolding next execute
by_code scenario s code e =
    ap (λ o. next_by scenario.rope s o (entry s)) e.none_due ∙ ap (next_by scenario.rope s None) e.none_entered
    ∙ ap (execute_code scenario.rope s) e.executes

few_bits : (i : Instruction) (w : ℕ) → w % 2 ^ bits (row_of i).operand < 4096
few_bits Index w = omega arith
few_bits i w = omega arith

few_operands : (extra : Bool) (w : ℕ) → (code_of extra w).operand < 4096
unfolding code_of
few_operands extra w = few_bits (code_of extra w).instruction w

how_is : (r : Words) (f : State) (i : Instruction) (k : ℕ) (extra : Bool) → f.waiting_sum ≡ None
    → Executes (extra_after i extra) (is_some (left_sum r f i k)) ≡ how_after extra i
how_is r f Index k extra e = refl
how_is r f Extend k extra e = ap (λ (o : Option ℕ). Executes true (is_some o)) e
how_is r f i k extra e = ap (λ (o : Option ℕ). Executes false (is_some o)) e

none_waits : (o : Option ℕ) → is_some o ≡ false → o ≡ None
none_waits None e = refl
none_waits (Some x) e = absurd (cc)

instruction_leads : (words : Words) (s : State) (p q : Spot) (code : Code) → Shape s p → next_address s < 4096 → code.operand < 4096
    → code.instruction ≡ (code_of s.extra (word_of words p)).instruction
    → IsOwn (is_some s.waiting_sum) code.instruction code.operand (address_of (code_of s.extra (word_of words p)))
    → Lands s p (after words (fetched_by s s.waiting_word) code.instruction code.operand) (how_after s.extra code.instruction)
    (leads_by p s.extra (is_some s.waiting_sum) (kind_of code.instruction) (address_of (code_of s.extra (word_of words p))))
    → Shape (executed words (fetched_by s s.waiting_word) code) q → Among q (leads words p)
unfolding executed leads
instruction_leads words s p q code hs zl lt same own l ht =
    let f = fetched_by s s.waiting_word in
    let t = executed words f code in
    let sum = (leaves_waiting words f code.instruction code.operand).0 in
    let how : q.how ≡ how_after s.extra code.instruction =
    ht.how ∙ ap (λ (o : Option ℕ). Executes (extra_after code.instruction s.extra) (is_some o)) sum
    ∙ how_is words f code.instruction code.operand s.extra refl in
    let ways = leads_by p s.extra (is_some s.waiting_sum) (kind_of code.instruction) (address_of (code_of s.extra (word_of words p))) in
    let there : Lands s p t (how_after s.extra code.instruction) ways = record
    { to = l.to; z = l.z; low = l.low; near = l.near; among = l.among; fb = l.fb; sup = l.sup } in
    let among : Among q ways = l.among q (subst (λ (n : ℕ). Among q (at_address p n (how_after s.extra code.instruction))) l.z
    (landed s t p q (how_after s.extra code.instruction) ways hs ht how there)) in
    subst (λ (h : How). Among q (leads_from words p h)) (sym hs.how)
    (subst (λ (i : Instruction). Among q (leads_by p s.extra (is_some s.waiting_sum) (kind_of i)
    (address_of (code_of s.extra (word_of words p))))) same among)

covered_by_code : (scenario : Scenario) (roots : List Spot) (s : State) (p : Spot) (code : Code) → next_address s < 4096
    → GoesAsTold scenario s p code → IsCovered scenario.rope roots s
    → IsCovered scenario.rope roots (next scenario s).0
unfolding fetched
covered_by_code scenario roots s p code zl g covered = λ q e.
    let hs = shape s p g.here in
    let few : code.operand < 4096 = subst (λ (c : Code). c.operand < 4096) g.executes.executes
    (few_operands s.extra (instruction_word scenario.rope s)) in
    let own : IsOwn (is_some s.waiting_sum) code.instruction code.operand (address_of (code_of s.extra (word_of scenario.rope p)))
    = λ not_so. ap address_of (sym (g.operand (none_waits s.waiting_sum not_so))) in
    let to : spot_of (executed scenario.rope (fetched s) code)
    ≡ Some q = subst (λ (t : State × Option Output). spot_of t.0 ≡ Some q) (by_code scenario s code g.executes) e in
    let ht = shape (executed scenario.rope (fetched s) code) q to in
    Way p q (covered p g.here)
    (instruction_leads scenario.rope s p q code hs zl few g.own own
    (lands scenario.rope s p code.instruction code.operand (is_some s.waiting_sum) (address_of (code_of s.extra (word_of scenario.rope p)))
    hs zl few own g.told) ht)

-- ## An input
spot_by : Option ℕ → Bool → Option ℕ → ℕ → ℕ → ℕ → Bool → Option Spot
spot_by word extra sum z eb fb sup = cond (is_some word) None (spot_at (place z eb fb sup) z (Executes extra (is_some sum)))

spot_by_is : (s : State) → spot_of s ≡ spot_by s.waiting_word s.extra s.waiting_sum (next_address s) (at s.cells erasable_bank)
    (at s.cells fixed_bank) (superbank s.cells)
unfolding spot_of place_in spot_by
spot_by_is s = refl

-- EB decides no place of fixed memory
any_eb : (z eb other fb : ℕ) (sup : Bool) (how : How) → spot_at (place z eb fb sup) z how ≡ spot_at (place z other fb sup) z how
unfolding place
any_eb z eb other fb sup how = elim (cases_Bool (nat_lt z 0o1400)) [
  | inl so ↦ rw so refl
  | inr not_so ↦ elim (cases_Bool (nat_lt z 0o2000)) [
    | inl below ↦ rw (not_so, below) refl
    | inr above ↦ rw (not_so, above) refl
  ]
]

any_eb_by : (word : Option ℕ) (extra : Bool) (sum : Option ℕ) (z eb other fb : ℕ) (sup : Bool)
    → spot_by word extra sum z eb fb sup ≡ spot_by word extra sum z other fb sup
unfolding spot_by
any_eb_by word extra sum z eb other fb sup = ap (λ (o : Option Spot). cond (is_some word) None o)
    (any_eb z eb other fb sup (Executes extra (is_some sum)))

next_is : (s t : State) → at t.cells program_counter ≡ at s.cells program_counter → next_address t ≡ next_address s
unfolding get
next_is s t e = ap extend e

sup_same : (s t : State) → at t.cells (channel_cell superbank_channel) ≡ at s.cells (channel_cell superbank_channel)
    → superbank t.cells ≡ superbank s.cells
unfolding superbank
sup_same s t e = ap (λ (n : ℕ). n / 0o100 % 2 == 1) e

same_spot_of : (s t : State) → t.waiting_word ≡ s.waiting_word → t.extra ≡ s.extra → t.waiting_sum ≡ s.waiting_sum
    → at t.cells program_counter ≡ at s.cells program_counter
    → at t.cells fixed_bank ≡ at s.cells fixed_bank
    → at t.cells (channel_cell superbank_channel) ≡ at s.cells (channel_cell superbank_channel) → spot_of t ≡ spot_of s
same_spot_of s t word extra sum z fb sup =
    let next = next_is s t z in
    let bank = sup_same s t sup in
    spot_by_is t
    ∙ (λ j. spot_by (word j) (extra j) (sum j) (next j) (at t.cells erasable_bank) (fb j) (bank j))
    ∙ any_eb_by s.waiting_word s.extra s.waiting_sum (next_address s) (at t.cells erasable_bank) (at s.cells erasable_bank)
    (at s.cells fixed_bank) (superbank s.cells)
    ∙ sym (spot_by_is s)

covered_by_input : (scenario : Scenario) (roots : List Spot) (s : State) (given : Input × Option ℕ) → SparesWay scenario s given
    → IsCovered scenario.rope roots s
    → IsCovered scenario.rope roots (next scenario s).0
covered_by_input scenario roots s given spares covered = λ q e.
    let keeps = inputs_keep_rest scenario s given spares.takes in
    let same = same_spot_of s (next scenario s).0 keeps.word keeps.extra keeps.sum (leaves_rest scenario s program_counter spares.z)
    (leaves_rest scenario s fixed_bank spares.fb)
    (leaves_rest scenario s (channel_cell superbank_channel) spares.sup) in
    covered q (sym same ∙ e)

-- ## An entry
by_entry : (scenario : Scenario) (s : State) (k : ℕ) → EntersInterrupt scenario s k → next scenario s ≡ (entered scenario.rope s k, None)
unfolding next
by_entry scenario s k e = ap (λ o. next_by scenario.rope s o (entry s)) e.none_due ∙ ap (next_by scenario.rope s None) e.enters

found_in : (test : ℕ → Bool) (a n k : ℕ) → find test (range_with_len a n) ≡ Some k → (a ≤ k) × (k < a + n)
found_in test a zero k e = absurd (cc)
found_in test a (suc n) k e = go (test a) e (λ f. found_in test (a + 1) n k f)
  where
    go : (b : Bool) → cond b (Some a) (find test (range_with_len (a + 1) n)) ≡ Some k
        → (find test (range_with_len (a + 1) n) ≡ Some k → (a + 1 ≤ k) × (k < a + 1 + n)) → (a ≤ k) × (k < a + suc n)
    go true f rest = let same : a ≡ k = cc in (omega (arith, same), omega (arith, same))
    go false f rest = let later = rest f in (omega (arith, later.0), omega (arith, later.1))

-- what lets an interrupt be entered
record Enters (s : State) (k : ℕ) : Type 0 where
  extra : s.extra ≡ false
  sum : is_some s.waiting_sum ≡ false
  word : is_some s.waiting_word ≡ false
  least : 1 ≤ k
  most : k ≤ 10

enters : (s : State) (k : ℕ) → entry s ≡ Some k → Enters s k
unfolding entry
enters s k e = go (s.inhibit || s.inside || s.extra || is_some s.waiting_sum || is_some s.waiting_word
    || has_overflow (over (accumulator_of s))) refl e
  where
    go : (b : Bool) → (s.inhibit || s.inside || s.extra || is_some s.waiting_sum || is_some s.waiting_word
        || has_overflow (over (accumulator_of s))) ≡ b
        → cond b None (least_request s.requests) ≡ Some k → Enters s k
    go true is f = absurd (cc)
    go false is f =
        let one = or_parts _ _ is in
        let two = or_parts _ _ one.0 in
        let three = or_parts _ _ two.0 in
        let four = or_parts _ _ three.0 in
        let within = found_in (λ k. set.contains s.requests k) 1 10 k f in
        record { extra = four.1; sum = three.1; word = two.1; least = within.0; most = omega (arith, within.1) }

entered_z : (c : Cells) (k : ℕ) → k ≤ 10 → get (put c program_counter (first_address + 4 * k)) program_counter ≡ first_address + 4 * k
unfolding get kept
entered_z c k le = ap extend (at-put c program_counter (first_address + 4 * k) (λ e. omega arith) (λ e. omega arith))
    ∙ small (first_address + 4 * k) (omega (arith, le))
  where
    small : (n : ℕ) → n < 4096 → extend (correct n % 4096) ≡ n
    small n lt = grind (arith, nat_tests)

among_mapped : (a n k : ℕ) → a ≤ k → k < a + n → Among (vector k) (map vector (range_with_len a n))
among_mapped a zero k le lt = absurd (omega (arith, le, lt))
among_mapped a (suc n) k le lt = elim (cases_lt a k) [
  | inl more ↦ inr (among_mapped (a + 1) n k (omega (arith, more)) (omega (arith, lt)))
  | inr here ↦ inl (ap vector (let same : k ≡ a = omega (arith, le, here) in same))
]

pub among_vectors : (k : ℕ) → k ≤ 10 → Among (vector k) vectors
unfolding vectors
among_vectors k le = among_mapped 0 11 k (omega arith) (omega (arith, le))

vector_place : (t : State) (k b o : ℕ) → k ≤ 10 → place_in t (first_address + 4 * k) ≡ Fixed b o → b ≡ 2
unfolding place_in place
vector_place t k b o le e =
    let a = first_address + 4 * k in
    let first : nat_lt a 0o1400 ≡ false = grind (arith, nat_tests) in
    let second : nat_lt a 0o2000 ≡ false = grind (arith, nat_tests) in
    let third : nat_lt a 0o4000 ≡ false = grind (arith, nat_tests) in
    let fourth : nat_lt a 0o6000 ≡ true = grind (arith, nat_tests) in
    sym (same_bank 2 (a - 0o4000) b o (rw (first, second, third, fourth) at e))

-- what is executed next where Z holds the address of a vector
vector_spot : (t : State) (k : ℕ) (q : Spot) → next_address t ≡ first_address + 4 * k → t.extra ≡ false → is_some t.waiting_sum ≡ false
    → k ≤ 10 → Shape t q → q ≡ vector k
vector_spot t k q z extra sum le h =
    let bank = vector_place t k q.bank h.offset le (sym (ap (place_in t) z) ∙ h.there) in
    let address = h.address ∙ z in
    let how : q.how ≡ plain = h.how ∙ (λ j. Executes (extra j) (sum j)) in
    λ j. record { bank = bank j; address = address j; how = how j }

entered_spot : (r : Words) (s : State) (k : ℕ) (q : Spot) → Enters s k → Shape (entered r s k) q → q ≡ vector k
unfolding entered
entered_spot r s k q n h =
    vector_spot (entered r s k) k q (entered_z (put (put s.cells interrupted_word (extend (word_at_z r s))) interrupted_address
    (following_address s)) k n.most) n.extra n.sum n.most h

covered_by_entry : (scenario : Scenario) (roots : List Spot) (s : State) (k : ℕ) → HaveVectors roots → EntersInterrupt scenario s k
    → IsCovered scenario.rope roots (next scenario s).0
covered_by_entry scenario roots s k have e = λ q is.
    let n = enters s k e.enters in
    let to : spot_of (entered scenario.rope s k) ≡ Some q = subst (λ (t : State × Option Output). spot_of t.0 ≡ Some q)
    (by_entry scenario s k e) is in
    let same = entered_spot scenario.rope s k q n (shape (entered scenario.rope s k) q to) in
    Root q (have q (subst (λ (p : Spot). Among p vectors) (sym same) (among_vectors k n.most)))

-- ## Any step, and runs
pub step_is_covered : (scenario : Scenario) (roots : List Spot) (s : State) → StepIsCovered scenario roots s
step_is_covered scenario roots s zl have (ByInput given spares) covered = covered_by_input scenario roots s given spares covered
step_is_covered scenario roots s zl have (ByEntry k e) covered = covered_by_entry scenario roots s k have e
step_is_covered scenario roots s zl have (ByInstruction p code g) covered = covered_by_code scenario roots s p code zl g covered

-- Z holds an address of 12 bits
IsLow : State → Type 0
IsLow s = at s.cells program_counter < 4096

low_put : (c : Cells) (p x : ℕ) → at c program_counter < 4096 → at (put c p x) program_counter < 4096
unfolding kept
low_put c p x low = elim (cases_eq p program_counter) [
  | inl same ↦ subst (λ (n : ℕ). at (put c n x) program_counter < 4096) (sym same)
      (subst (λ (n : ℕ). n < 4096) (sym (at-put c program_counter x (λ e. omega arith) (λ e. omega arith))) (omega arith))
  | inr apart ↦ subst (λ (n : ℕ). n < 4096) (sym (put_miss c p x program_counter (missed p apart))) low
]
  where
    missed : (p : ℕ) → (p ≡ program_counter → ⊥) → is_in program_counter (place_cells p) ≡ false
    missed p apart = grind (arith, nat_tests)

low_channel : (c : Cells) (n x : ℕ) → at c program_counter < 4096 → at (put_channel c n x) program_counter < 4096
low_channel c n x low = subst (λ (m : ℕ). m < 4096) (sym (channel_miss c n x program_counter (missed n))) low
  where
    missed : (n : ℕ) → is_in program_counter (cell_of_channel n ∷ []) ≡ false
    missed n = grind (arith, nat_tests)

low_changes : (cs : List Change) (s : State) → IsLow s → IsLow (changes s cs)
unfolding IsLow
low_changes [] s low = low
low_changes (AtPlace p x ∷ cs) s low = low_changes cs (change s (AtPlace p x)) (low_put s.cells p x low)
low_changes (OnChannel n x ∷ cs) s low = low_changes cs (change s (OnChannel n x)) (low_channel s.cells n x low)
low_changes (Inhibits b ∷ cs) s low = low_changes cs (change s (Inhibits b)) low
low_changes (Serves b ∷ cs) s low = low_changes cs (change s (Serves b)) low
low_changes (WaitsWithSum x ∷ cs) s low = low_changes cs (change s (WaitsWithSum x)) low
low_changes (WaitsWithWord w ∷ cs) s low = low_changes cs (change s (WaitsWithWord w)) low

low_after : (r : Words) (s : State) (i : Instruction) (k : ℕ) → IsLow s → IsLow (after r s i k)
unfolding after dxch
low_after r s Relint k low = low_changes relint s low
low_after r s Inhint k low = low_changes inhint s low
low_after r s Extend k low = low
low_after r s Edrupt k low = low
low_after r s Dxch k low =
    let u = changes s (exchange s lower_accumulator (erasable_in s k)) in
    low_changes (exchange u accumulator (erasable_in s (first_of greatest_short k))) u
    (low_changes (exchange s lower_accumulator (erasable_in s k)) s low)
low_after r s Resume k low = low_changes (resume s) s low
low_after r s Tc k low = low_changes (tc s k) s low
low_after r s Ccs k low = low_changes (ccs r s k) s low
low_after r s Tcf k low = low_changes (tcf k) s low
low_after r s Das k low = low_changes (das s k) s low
low_after r s Lxch k low = low_changes (lxch s k) s low
low_after r s Incr k low = low_changes (incr s k) s low
low_after r s Ads k low = low_changes (ads s k) s low
low_after r s Ca k low = low_changes (ca r s k) s low
low_after r s Cs k low = low_changes (cs r s k) s low
low_after r s Index k low = low_changes (index r s k) s low
low_after r s Ts k low = low_changes (ts s k) s low
low_after r s Xch k low = low_changes (xch s k) s low
low_after r s Ad k low = low_changes (ad r s k) s low
low_after r s Mask k low = low_changes (mask r s k) s low
low_after r s Read n low = low_changes (read s n) s low
low_after r s Write n low = low_changes (write s n) s low
low_after r s Rand n low = low_changes (rand s n) s low
low_after r s Wand n low = low_changes (wand s n) s low
low_after r s Ror n low = low_changes (ror s n) s low
low_after r s Wor n low = low_changes (wor s n) s low
low_after r s Rxor n low = low_changes (rxor s n) s low
low_after r s Dv k low = low_changes (dv r s k) s low
low_after r s Bzf k low = low_changes (bzf s k) s low
low_after r s Msu k low = low_changes (msu r s k) s low
low_after r s Qxch k low = low_changes (qxch s k) s low
low_after r s Aug k low = low_changes (aug s k) s low
low_after r s Dim k low = low_changes (dim s k) s low
low_after r s Dca k low = low_changes (dca r s k) s low
low_after r s Dcs k low = low_changes (dcs r s k) s low
low_after r s Su k low = low_changes (su r s k) s low
low_after r s Bzmf k low = low_changes (bzmf s k) s low
low_after r s Mp k low = low_changes (mp r s k) s low

low_fetched : (s : State) (w : Option ℕ) → IsLow s → IsLow (fetched_by s w)
unfolding IsLow
low_fetched s (Some w) low = low
low_fetched s None low = low_put s.cells program_counter (following_address s) low

low_asked : (s : State) (o : Option ℕ) → IsLow s → IsLow (asked s o)
unfolding IsLow
low_asked s None low = low
low_asked s (Some k) low = low

low_carried : (s : State) (o : Option Counter) (carry : Carry) → IsLow s → IsLow (carried s o carry)
low_carried s None carry low = low
low_carried s (Some counter) carry low = go (is_overflow carry)
  where
    go : (b : Bool) → IsLow (cond b (stepped s counter (pinc (count_of s counter))) s)
    go true = low_changes (AtPlace (counter_place counter) (extend (pinc (count_of s counter)).word) ∷ []) s low
    go false = low

low_effect : (s : State) (input : Input) → IsLow s → IsLow (input_effect s input)
unfolding counted received
low_effect s (Count counter sequence) low =
    let step = step_of sequence (count_of s counter) in
    low_asked _ (asked_after counter step) (low_carried (stepped s counter step) (carries_into counter) step.carry
    (low_changes (AtPlace (counter_place counter) (extend step.word) ∷ []) s low))
low_effect s (Word n w) low = low_asked _ (asked_on n) (low_changes (OnChannel n (extend w) ∷ []) s low)
low_effect s (Interrupt k) low = low_asked s (Some k) low

low_next_by : (r : Words) (s : State) (d : Option (Input × Option ℕ)) (k : Option ℕ) → IsLow s → IsLow (next_by r s d k).0
unfolding IsLow take entered execute executed fetched
low_next_by r s (Some given) k low = low_effect (counted_in s given) given.0 low
low_next_by r s None (Some k) low =
    low_put _ program_counter (first_address + 4 * k)
    (low_put _ interrupted_address (following_address s) (low_put s.cells interrupted_word (extend (word_at_z r s)) low))
low_next_by r s None None low =
    let code = code_of s.extra (instruction_word r s) in
    low_after r (fetched_by s s.waiting_word) code.instruction code.operand (low_fetched s s.waiting_word low)

low_run : (scenario : Scenario) (n : ℕ) → IsLow (run scenario n)
unfolding IsLow run next start kept
low_run scenario zero =
    subst (λ (n : ℕ). n < 4096) (sym (at-put zero_cells program_counter first_address (λ e. omega arith) (λ e. omega arith))) (omega arith)
low_run scenario (suc n) = low_next_by scenario.rope (run scenario n) (due scenario.inputs (run scenario n).taken (run scenario n).cycles)
    (entry (run scenario n)) (low_run scenario n)

low_address : (s : State) → IsLow s → next_address s < 4096
unfolding IsLow get
low_address s low = small (at s.cells program_counter) low
  where
    small : (n : ℕ) → n < 4096 → extend n < 4096
    small n lt = grind (arith, nat_tests)

-- where a run starts
covered_at_start : (words : Words) (roots : List Spot) → HaveVectors roots → IsCovered words roots start
unfolding start
covered_at_start words roots have = λ q is.
    let same = vector_spot start 0 q (entered_z zero_cells 0 (omega arith)) refl refl (omega arith) (shape start q is) in
    Root q (have q (subst (λ (p : Spot). Among p vectors) (sym same) (among_vectors 0 (omega arith))))

pub run_is_covered : (scenario : Scenario) (roots : List Spot) (n : ℕ) → RunIsCovered scenario roots n
unfolding run
run_is_covered scenario roots n have each zero le = covered_at_start scenario.rope roots have
run_is_covered scenario roots n have each (suc t) le = elim (each t (omega (arith, le))) [
  | inl told ↦ step_is_covered scenario roots (run scenario t) (low_address (run scenario t) (low_run scenario t)) have told
      (run_is_covered scenario roots n have each t (omega (arith, le)))
  | inr covered ↦ subst (λ (m : ℕ). IsCovered scenario.rope roots (run scenario m)) (add-one t) covered
]
