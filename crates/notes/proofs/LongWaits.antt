-- Interrupts that are asked for, step by step; and what a line of one that waits says.
use Rattle.std.proofs.Common.{◌≡◌, ◌≢◌, ℕ, zero, suc, ◌+◌, ◌-◌, ◌≤◌, ◌++◌, Bool, true, false, List, length, replicate, get_or, set, Option}
use Rattle.std.proofs.Common.{Some, None, is_some, unwrap_or, refl, sym, ap, ◌∙◌, inl, inr, arith, add-one, if◌then◌else◌, subst}
use Rattle.std.proofs.lemmas.Bool.{cases_Bool, leb-true, le-leb}
use Rattle.std.proofs.lemmas.Bool.Decides.{eqb_tells, nat_tests}
use Rattle.std.proofs.lemmas.List.{get_or-set_same, get_or-set_other, length-set, length-replicate, append-nil, append_assoc}
use Rattle.std.specs.Option.{option_map}
use Rattle.std.specs.Ordering.{nat_cmp}
use Rattle.std.specs.Cmp.{nat_cmp_total}
use Rattle.std.specs.FinSet.{FinSet, contains, insert, remove, contains-empty, contains-insert, contains-remove}
use Rattle.words.proofs.Replicated.{get_replicated}
use Rattle.rope.specs.Places.{Words}
use Rattle.feed.specs.Merged.{due}
use Rattle.feed.specs.declared.input.Counter.{Counter}
use Rattle.feed.specs.declared.input.Input.{Input}
use Rattle.feed.specs.declared.input.Input.TheVariants.{Count, Word, Interrupt}
use Rattle.json_text.specs.declared.notation.Notation.{Notation}
use Rattle.words.specs.declared.counters.Carry.{Carry}
use Rattle.words.specs.declared.counters.Carry.TheVariants.{No, Plus, Minus, ShiftedOut}
use Rattle.words.specs.Numbers.{extend}
use Rattle.cpu.specs.declared.next_step.NextStep.{NextStep}
use Rattle.cpu.specs.declared.next_step.NextStep.TheVariants.{Takes, Enters, Executes}
use Rattle.cpu.specs.Asking.{interrupt_asked}
use Rattle.cpu.specs.Codes.{code_of}
use Rattle.cpu.specs.Effects.{change}
use Rattle.cpu.specs.Effects.Change.{OnChannel}
use Rattle.cpu.specs.Inputs.{asked, asked_after, asked_on, carried, carries_into, count_of, counted, input_cycles, input_effect, received}
use Rattle.cpu.specs.Inputs.{step_of, stepped, take}
use Rattle.cpu.specs.Next.{entered, entry, execute, executed, fetched, instruction_word, next, next_by}
use Rattle.cpu.specs.NextStep.{next_step, next_step_by}
use Rattle.cpu.specs.Run.{run}
use Rattle.cpu.specs.State.{State, Scenario, start}
use Rattle.cpu.proofs.LeavingFlags.{leaves_flags}
use Rattle.cpu.proofs.RunLaws.{counted_in, cycles-effect, rise-run, run-add-one, run-zero}
use Rattle.notes.specs.declared.waits.Moment.{Moment}
use Rattle.notes.specs.Waits.{IsAskedSince, Keeps, LongWait, MomentsAreExact, Waits, WaitsAreExact, asked_at, asked_by, is_long, kept_from}
use Rattle.notes.specs.Waits.{kept_text, long_wait, moment_of, since, wait_text, waits_after, waits_since, waits_text}

-- ## What a step does to what is asked for
abbrev asked_set : FinSet nat_cmp → Option ℕ → FinSet nat_cmp
asked_set requests None = requests
asked_set requests (Some k) = insert requests k

asked_is : (s : State) (o : Option ℕ) → (asked s o).requests ≡ asked_set s.requests o
asked_is s None = refl
asked_is s (Some k) = refl

carried_asks_nothing : (s : State) (o : Option Counter) (carry : Carry) → (carried s o carry).requests ≡ s.requests
carried_asks_nothing s None carry = refl
carried_asks_nothing s (Some counter) No = refl
carried_asks_nothing s (Some counter) Plus = refl
carried_asks_nothing s (Some counter) Minus = refl
carried_asks_nothing s (Some counter) ShiftedOut = refl

input_asks : (s : State) (input : Input) → (input_effect s input).requests ≡ asked_set s.requests (interrupt_asked s input)
unfolding counted received
input_asks s (Count counter sequence) =
    let step = step_of sequence (count_of s counter) in
    let t = stepped s counter step in
    asked_is (carried t (carries_into counter) step.carry) (asked_after counter step)
    ∙ ap (λ requests. asked_set requests (asked_after counter step)) (carried_asks_nothing t (carries_into counter) step.carry)
input_asks s (Word n w) = asked_is (change s (OnChannel n (extend w))) (asked_on n)
input_asks s (Interrupt k) = refl

asked_alike : (s : State) (given : Input × Option ℕ) (input : Input) → interrupt_asked (counted_in s given) input ≡ interrupt_asked s input
asked_alike s given (Count counter sequence) = refl
asked_alike s given (Word n w) = refl
asked_alike s given (Interrupt k) = refl

take_asks : (s : State) (given : Input × Option ℕ) → (take s given).requests ≡ asked_set s.requests (interrupt_asked s given.0)
unfolding take
take_asks s given = input_asks (counted_in s given) given.0 ∙ ap (asked_set s.requests) (asked_alike s given given.0)

take_lasts : (s : State) (given : Input × Option ℕ) → (take s given).cycles ≡ s.cycles + input_cycles given.0
unfolding take
take_lasts s given = cycles-effect (counted_in s given) given.0

execution_asks_nothing : (rope : Words) (s : State) → (execute rope s).0.requests ≡ s.requests
unfolding execute executed fetched
execution_asks_nothing rope s =
    let code = code_of s.extra (instruction_word rope s) in
    (leaves_flags rope (fetched s) code.instruction code.operand).1.1.1

-- what is asked for after a step
abbrev asked_after_step : State → NextStep → FinSet nat_cmp
asked_after_step s (Takes input) = asked_set s.requests (interrupt_asked s input)
asked_after_step s (Enters k) = remove s.requests k
asked_after_step s (Executes f) = s.requests

-- an input lasts its cycles
abbrev LastsAfter : State → NextStep → State → Type 0
LastsAfter s (Takes input) t = t.cycles ≡ s.cycles + input_cycles input
LastsAfter s step t = Unit {0}

by_requests : (rope : Words) (s : State) (d : Option (Input × Option ℕ)) (k : Option ℕ)
    → ((next_by rope s d k).0.requests ≡ asked_after_step s (next_step_by rope s d k))
    × LastsAfter s (next_step_by rope s d k) (next_by rope s d k).0
unfolding entered
by_requests rope s (Some given) k = (take_asks s given, take_lasts s given)
by_requests rope s None (Some k) = (refl, tt)
by_requests rope s None None = (execution_asks_nothing rope s, tt)

step_asks : (scenario : Scenario) (s : State) → ((next scenario s).0.requests ≡ asked_after_step s (next_step scenario s))
    × LastsAfter s (next_step scenario s) (next scenario s).0
unfolding next next_step
step_asks scenario s = by_requests scenario.rope s (due scenario.inputs s.taken s.cycles) (entry s)

-- ## Since when
start_asks_nothing : (k : ℕ) → contains start.requests k ≡ false
unfolding start
start_asks_nothing k = contains-empty nat_cmp k

since_by : (b : Bool) (t : Option ℕ) (n : ℕ) → is_some (if b then Some (unwrap_or t n) else None) ≡ b
since_by true t n = refl
since_by false t n = refl

-- it is told since when exactly of what is asked for
stands : (scenario : Scenario) (k n : ℕ) → is_some (waits_since scenario k n) ≡ contains (run scenario n).requests k
unfolding waits_since
stands scenario k zero = sym (ap (λ (s : State). contains s.requests k) (run-zero scenario) ∙ start_asks_nothing k)
stands scenario k (suc n) = since_by (contains (run scenario (suc n)).requests k) (waits_since scenario k n) (suc n)

pub since_more : (scenario : Scenario) (k n : ℕ) (b : Bool) → contains (run scenario (n + 1)).requests k ≡ b
    → waits_since scenario k (n + 1) ≡ (if b then Some (unwrap_or (waits_since scenario k n) (n + 1)) else None)
unfolding waits_since
since_more scenario k n b e = rw (sym e, add-one n) refl

-- ## What is kept
abbrev no_moment : Option Moment
no_moment = None

none_in : (n k : ℕ) → get_or (replicate n no_moment) k no_moment ≡ no_moment
none_in n k = get_replicated no_moment n k

pub keeps_none : (scenario : Scenario) (waits : Waits) → waits ≡ replicate 11 None → Keeps scenario 0 waits
unfolding waits_since
keeps_none scenario waits e = record {
  each = ap length e ∙ length-replicate 11 no_moment;
  since = λ k known. ap (λ (w : Waits). get_or w k None) e ∙ none_in 11 k;
}

-- as before
same_since : (f : ℕ → Moment) (t : Option ℕ) (n : ℕ) → option_map f t ≡ option_map f (if is_some t then Some (unwrap_or t n) else None)
same_since f None n = refl
same_since f (Some t) n = refl

kept_same : (scenario : Scenario) (k n : ℕ) → contains (run scenario (n + 1)).requests k ≡ contains (run scenario n).requests k
    → since scenario k n ≡ since scenario k (n + 1)
kept_same scenario k n e =
    same_since (moment_of scenario) (waits_since scenario k n) (n + 1)
    ∙ ap (λ b. option_map (moment_of scenario) (if b then Some (unwrap_or (waits_since scenario k n) (n + 1)) else None))
    (stands scenario k n ∙ sym e)
    ∙ ap (λ t. option_map (moment_of scenario) t) (sym (since_more scenario k n _ refl))

-- no longer
kept_none : (scenario : Scenario) (k n : ℕ) → contains (run scenario (n + 1)).requests k ≡ false → None ≡ since scenario k (n + 1)
kept_none scenario k n e = ap (λ t. option_map (moment_of scenario) t) (sym (since_more scenario k n false e))

-- asked for
asked_other : (waits : Waits) (j k : ℕ) (m : Moment) → k ≢ j → get_or (asked_at j m waits) k None ≡ get_or waits k None
asked_other waits j k m apart =
    elim (cases_Bool (is_some (get_or waits j None))) [
      | inl there ↦ rw there refl
      | inr none ↦ rw none (get_or-set_other waits j k (Some m) None apart)
    ]

asked_here : (f : ℕ → Moment) (waits : Waits) (k n : ℕ) (t : Option ℕ) → k ≤ 10 → length waits ≡ 11 → get_or waits k None ≡ option_map f t
    → get_or (asked_at k (f n) waits) k None ≡ Some (f (unwrap_or t n))
asked_here f waits k n None known each e = rw e (get_or-set_same waits k (Some (f n)) None (omega (arith, known, each)))
asked_here f waits k n (Some t) known each e = rw e e

kept_asked : (scenario : Scenario) (k n : ℕ) → contains (run scenario (n + 1)).requests k ≡ true
    → Some (moment_of scenario (unwrap_or (waits_since scenario k n) (n + 1))) ≡ since scenario k (n + 1)
kept_asked scenario k n e = ap (λ t. option_map (moment_of scenario) t) (sym (since_more scenario k n true e))

-- what is asked for after a step, one by one
inserted_other : (requests : FinSet nat_cmp) (j k : ℕ) → k ≢ j → contains (insert requests j) k ≡ contains requests k
inserted_other requests j k apart = contains-insert nat_cmp_total requests j k ∙ grind (arith, nat_tests)

inserted_here : (requests : FinSet nat_cmp) (k : ℕ) → contains (insert requests k) k ≡ true
inserted_here requests k = contains-insert nat_cmp_total requests k k ∙ grind (arith, nat_tests)

removed_other : (requests : FinSet nat_cmp) (j k : ℕ) → k ≢ j → contains (remove requests j) k ≡ contains requests k
removed_other requests j k apart = contains-remove nat_cmp_total requests j k ∙ grind (arith, nat_tests)

removed_here : (requests : FinSet nat_cmp) (k : ℕ) → contains (remove requests k) k ≡ false
removed_here requests k = contains-remove nat_cmp_total requests k k ∙ grind (arith, nat_tests)

-- a step more, which is an input
kept_by : (scenario : Scenario) (n k : ℕ) (old : Waits) (input : Input) (o : Option ℕ) → Keeps scenario n old → k ≤ 10
    → (run scenario (n + 1)).requests ≡ asked_set (run scenario n).requests o
    → (run scenario (n + 1)).cycles ≡ (run scenario n).cycles + input_cycles input
    → get_or (asked_by o (record { step = n + 1; cycles = (run scenario n).cycles + input_cycles input }) old) k None
    ≡ since scenario k (n + 1)
kept_by scenario n k old input None before known asks lasts =
    before.since k known ∙ kept_same scenario k n (ap (λ r. contains r k) asks)
kept_by scenario n k old input (Some j) before known asks lasts =
    let m : Moment = record { step = n + 1; cycles = (run scenario n).cycles + input_cycles input } in
    elim (eqb_tells k j) [
      | inl one ↦
          let here : contains (run scenario (n + 1)).requests k
          ≡ true = ap (λ r. contains r k) asks ∙ ap (λ i. contains (insert (run scenario n).requests i) k) (sym one.1)
          ∙ inserted_here (run scenario n).requests k in
          let now : m ≡ moment_of scenario (n + 1) = ap (λ c. record { step = n + 1; cycles = c }) (sym lasts) in
          ap (λ i. get_or (asked_at i m old) k None) (sym one.1) ∙ ap (λ (x : Moment). get_or (asked_at k x old) k None) now
          ∙ asked_here (moment_of scenario) old k (n + 1) (waits_since scenario k n) known before.each (before.since k known)
          ∙ kept_asked scenario k n here
      | inr apart ↦
          asked_other old j k m apart.1 ∙ before.since k known
          ∙ kept_same scenario k n (ap (λ r. contains r k) asks ∙ inserted_other (run scenario n).requests j k apart.1)
    ]

-- a step more
kept_of : (scenario : Scenario) (n k : ℕ) (old : Waits) (step : NextStep) → Keeps scenario n old → k ≤ 10
    → (run scenario (n + 1)).requests ≡ asked_after_step (run scenario n) step → LastsAfter (run scenario n) step (run scenario (n + 1))
    → get_or (waits_after (run scenario n) step (n + 1) old) k None ≡ since scenario k (n + 1)
kept_of scenario n k old (Executes f) before known asks lasts =
    before.since k known ∙ kept_same scenario k n (ap (λ r. contains r k) asks)
kept_of scenario n k old (Enters j) before known asks lasts =
    elim (eqb_tells k j) [
      | inl one ↦
          let here : contains (run scenario (n + 1)).requests k
          ≡ false = ap (λ r. contains r k) asks ∙ ap (λ i. contains (remove (run scenario n).requests i) k) (sym one.1)
          ∙ removed_here (run scenario n).requests k in
          ap (λ i. get_or (set old i None) k None) (sym one.1) ∙ get_or-set_same old k None None (omega (arith, known, before.each))
          ∙ kept_none scenario k n here
      | inr apart ↦
          get_or-set_other old j k None None apart.1 ∙ before.since k known
          ∙ kept_same scenario k n (ap (λ r. contains r k) asks ∙ removed_other (run scenario n).requests j k apart.1)
    ]
kept_of scenario n k old (Takes input) before known asks lasts =
    kept_by scenario n k old input (interrupt_asked (run scenario n) input) before known asks lasts

length_asked : (o : Option ℕ) (m : Moment) (waits : Waits) → length (asked_by o m waits) ≡ length waits
length_asked None m waits = refl
length_asked (Some k) m waits =
    elim (cases_Bool (is_some (get_or waits k None))) [
      | inl there ↦ rw there refl
      | inr none ↦ rw none (length-set waits k (Some m))
    ]

length_after : (s : State) (step : NextStep) (n : ℕ) (waits : Waits) → length (waits_after s step n waits) ≡ length waits
length_after s (Takes input) n waits = length_asked (interrupt_asked s input) _ waits
length_after s (Enters k) n waits = length-set waits k None
length_after s (Executes f) n waits = refl

pub keeps_more : (scenario : Scenario) (n : ℕ) (old new : Waits) → Keeps scenario n old
    → new ≡ waits_after (run scenario n) (next_step scenario (run scenario n)) (n + 1) old → Keeps scenario (n + 1) new
keeps_more scenario n old new before e =
    let s = run scenario n in
    let asks = step_asks scenario s in
    record {
      each = ap length e ∙ length_after s (next_step scenario s) (n + 1) old ∙ before.each;
      since = λ k known.
          ap (λ (w : Waits). get_or w k None) e
          ∙ kept_of scenario n k old (next_step scenario s) before known (ap (λ (t : State). t.requests) (run-add-one scenario n) ∙ asks.0)
          (subst (λ t. LastsAfter s (next_step scenario s) t) (sym (run-add-one scenario n)) asks.1);
    }

-- the lines of what is kept are those of the run
pub kept_is : (notation : Notation) (scenario : Scenario) (n cycles : ℕ) (waits : Waits) → Keeps scenario n waits
    → cycles ≡ (run scenario n).cycles → kept_text notation cycles waits ≡ waits_text notation scenario n
unfolding waits_text
kept_is notation scenario n cycles waits keeps e =
    rw (
      e,
      keeps.since 1 (omega arith),
      keeps.since 2 (omega arith),
      keeps.since 3 (omega arith),
      keeps.since 4 (omega arith),
      keeps.since 5 (omega arith),
      keeps.since 6 (omega arith),
      keeps.since 7 (omega arith),
      keeps.since 8 (omega arith),
      keeps.since 9 (omega arith),
      keeps.since 10 (omega arith),
    ) refl

-- the lines of one interrupt after another
kept_first : (notation : Notation) (cycles : ℕ) (waits : Waits) (k n : ℕ) → k ≤ 10 → n ≡ 11 - k
    → kept_from notation cycles waits k n ≡ wait_text notation cycles k (get_or waits k None)
    ++ kept_from notation cycles waits (k + 1) (11 - (k + 1))
kept_first notation cycles waits k zero le e = absurd (omega (arith, le, e))
kept_first notation cycles waits k (suc n) le e = ap
    (λ m. wait_text notation cycles k (get_or waits k None) ++ kept_from notation cycles waits (k + 1) m) (omega (arith, le, e))

pub kept_more : (notation : Notation) (cycles : ℕ) (waits : Waits) (k j : ℕ) (lines new all : List ℕ) (m : Option Moment) → k ≤ 10
    → lines ++ kept_from notation cycles waits k (11 - k) ≡ all → new ≡ lines ++ wait_text notation cycles j m
    → j ≡ k → m ≡ get_or waits j None → new ++ kept_from notation cycles waits (k + 1) (11 - (k + 1)) ≡ all
kept_more notation cycles waits k j lines new all m le before e same since =
    let rest = kept_from notation cycles waits (k + 1) (11 - (k + 1)) in
    ap (λ text. text ++ rest) (e ∙ ap (λ (x : Option Moment). lines ++ wait_text notation cycles j x) since
    ∙ ap (λ i. lines ++ wait_text notation cycles i (get_or waits i None)) same)
    ∙ append_assoc lines (wait_text notation cycles k (get_or waits k None)) rest
    ∙ ap (λ text. lines ++ text) (sym (kept_first notation cycles waits k (11 - k) le refl)) ∙ before

pub kept_last : (notation : Notation) (cycles : ℕ) (waits : Waits) (k : ℕ) (lines all : List ℕ) → k ≡ 11
    → lines ++ kept_from notation cycles waits k (11 - k) ≡ all → lines ≡ all
kept_last notation cycles waits k lines all e before = sym (append-nil lines)
    ∙ ap (λ i. lines ++ kept_from notation cycles waits i (11 - i)) (sym e) ∙ before

-- ## What a line says
-- since when it is asked for: from then on without a break
abbrev Lasts : Scenario → ℕ → ℕ → ℕ → Type 0
Lasts scenario k n t = (t ≤ n) × ((u : ℕ) → t ≤ u → u ≤ n → contains (run scenario u).requests k ≡ true)

longer : (scenario : Scenario) (k n t : ℕ) → contains (run scenario (suc n)).requests k ≡ true → (before : Option ℕ)
    → waits_since scenario k n ≡ before → unwrap_or before (suc n) ≡ t
    → ((b : ℕ) → waits_since scenario k n ≡ Some b → Lasts scenario k n b) → Lasts scenario k (suc n) t
longer scenario k n t hit None e is shorter = (
  omega (arith, is),
  λ u from to. let last : u
      ≡ suc n = omega (arith, is, from, to) in rw last hit,
)
longer scenario k n t hit (Some b) e is shorter =
    let rest = shorter b e in (
      omega (arith, is, rest.0),
      λ u from to.
          elim (eqb_tells u (suc n)) [
            | inl last ↦ rw last.1 hit
            | inr apart ↦ rest.1 u (omega (arith, is, from)) (omega (arith, to, apart.1))
          ],
    )

without_break : (scenario : Scenario) (k n t : ℕ) → waits_since scenario k n ≡ Some t → Lasts scenario k n t
unfolding waits_since
without_break scenario k zero t e = absurd (let no : None ≡ Some t = e in cc)
without_break scenario k (suc n) t e =
    elim (cases_Bool (contains (run scenario (suc n)).requests k)) [
      | inl hit ↦
          let is : Some (unwrap_or (waits_since scenario k n) (suc n)) ≡ Some t = rw hit at e in
          longer scenario k n t hit (waits_since scenario k n) refl (cc) (without_break scenario k n)
      | inr miss ↦ absurd (let no : None ≡ Some t = rw miss at e in cc)
    ]

-- what is asked for from some step on is so since that step at the latest
earlier : (scenario : Scenario) (k n t from : ℕ) → t ≤ n → contains (run scenario n).requests k ≡ true → (before : Option ℕ)
    → waits_since scenario k n ≡ before
    → Some (unwrap_or before (suc n)) ≡ Some from → ((b : ℕ) → waits_since scenario k n ≡ Some b → b ≤ t) → from ≤ t
earlier scenario k n t from le hit None e is shorter =
    absurd (let none : is_some (waits_since scenario k n) ≡ false = ap is_some e in let there = stands scenario k n in let wrong : true
    ≡ false = sym
    hit ∙ sym there ∙ none in cc)
earlier scenario k n t from le hit (Some b) e is shorter =
    let same : b ≡ from = cc in
    let low = shorter b e in
    omega (arith, same, low)

not_later : (scenario : Scenario) (k n t : ℕ) → t ≤ n → ((u : ℕ) → t ≤ u → u ≤ n → contains (run scenario u).requests k ≡ true) → (from : ℕ)
    → waits_since scenario k n ≡ Some from → from ≤ t
unfolding waits_since
not_later scenario k zero t le all from e = absurd (let no : None ≡ Some from = e in cc)
not_later scenario k (suc n) t le all from e =
    let hit = all (suc n) le (omega arith) in
    let is : Some (unwrap_or (waits_since scenario k n) (suc n)) ≡ Some from = rw hit at e in
    elim (eqb_tells t (suc n)) [
      | inl last ↦ let low = (without_break scenario k (suc n) from e).0 in omega (arith, last.1, low)
      | inr apart ↦
          let before : t ≤ n = omega (arith, le, apart.1) in
          earlier scenario k n t from before (all n before (omega arith)) (waits_since scenario k n) refl is
          (not_later scenario k n t before (λ u low high. all u low (omega (arith, high))))
    ]

long_told : (scenario : Scenario) (k n : ℕ) (t : Option ℕ) → waits_since scenario k n ≡ t
    → is_long (run scenario n).cycles (option_map (moment_of scenario) t) ≡ true → LongWait scenario k n
long_told scenario k n None e long = absurd (cc)
long_told scenario k n (Some t) e long =
    let rest = without_break scenario k n t e in
    record {
      step = t;
      within = rest.0;
      asked = rest.1;
      long = omega
          (arith, leb-true long_wait ((run scenario n).cycles - (run scenario t).cycles) long);
    }

told_long : (scenario : Scenario) (k n : ℕ) (t : Option ℕ) → waits_since scenario k n ≡ t → LongWait scenario k n
    → is_long (run scenario n).cycles (option_map (moment_of scenario) t) ≡ true
told_long scenario k n None e w =
    absurd (let hit = w.asked n w.within (omega arith) in
    let there = stands scenario k n in
    let none : is_some (waits_since scenario k n) ≡ false = ap is_some e in
    let wrong : true ≡ false = sym hit ∙ sym there ∙ none in
    cc)
told_long scenario k n (Some t) e w =
    let from = not_later scenario k n w.step w.within w.asked t e in
    le-leb long_wait ((run scenario n).cycles - (run scenario t).cycles) (omega (arith, w.long, rise-run scenario t w.step from))

pub are_exact : WaitsAreExact
are_exact = λ scenario k n. (
  λ e. long_told scenario k n (waits_since scenario k n) refl e,
  λ w. told_long scenario k n
      (waits_since scenario k n) refl w,
)

-- and not before
begins_by : (scenario : Scenario) (k n t : ℕ) (before : Option ℕ) → waits_since scenario k n ≡ before → unwrap_or before (suc n) ≡ t
    → ((b : ℕ) → waits_since scenario k n ≡ Some b → contains (run scenario (b - 1)).requests k ≡ false)
    → contains (run scenario (t - 1)).requests k ≡ false
begins_by scenario k n t None e is shorter =
    let last : t - 1 ≡ n = omega (arith, is) in
    ap (λ u. contains (run scenario u).requests k) last ∙ sym (stands scenario k n) ∙ ap is_some e
begins_by scenario k n t (Some b) e is shorter = ap (λ u. contains (run scenario (u - 1)).requests k) (sym is) ∙ shorter b e

begins : (scenario : Scenario) (k n t : ℕ) → waits_since scenario k n ≡ Some t → contains (run scenario (t - 1)).requests k ≡ false
unfolding waits_since
begins scenario k zero t e = absurd (let no : None ≡ Some t = e in cc)
begins scenario k (suc n) t e =
    elim (cases_Bool (contains (run scenario (suc n)).requests k)) [
      | inl hit ↦
          let is : Some (unwrap_or (waits_since scenario k n) (suc n)) ≡ Some t = rw hit at e in
          begins_by scenario k n t (waits_since scenario k n) refl (cc) (begins scenario k n)
      | inr miss ↦ absurd (let no : None ≡ Some t = rw miss at e in cc)
    ]

moment_told : (scenario : Scenario) (k n : ℕ) (m : Moment) (t : Option ℕ) → waits_since scenario k n ≡ t
    → option_map (moment_of scenario) t ≡ Some m → IsAskedSince scenario k n m
moment_told scenario k n m None e is = absurd (let no : None ≡ Some m = is in cc)
moment_told scenario k n m (Some t) e is =
    let same : moment_of scenario t ≡ m = cc in
    let rest = without_break scenario k n t e in
    subst (λ (x : Moment). IsAskedSince scenario k n x) same
    (record { within = rest.0; asked = rest.1; not_before = begins scenario k n t e; cycles = refl })

told_moment : (scenario : Scenario) (k n : ℕ) (m : Moment) (t : Option ℕ) → waits_since scenario k n ≡ t → IsAskedSince scenario k n m
    → option_map (moment_of scenario) t ≡ Some m
told_moment scenario k n m None e w =
    absurd (let hit = w.asked n w.within (omega arith) in
    let there = stands scenario k n in
    let none : is_some (waits_since scenario k n) ≡ false = ap is_some e in
    let wrong : true ≡ false = sym hit ∙ sym there ∙ none in
    cc)
told_moment scenario k n m (Some t) e w =
    let low = not_later scenario k n m.step w.within w.asked t e in
    elim (eqb_tells t m.step) [
      | inl one ↦ λ i. Some (record { step = one.1 i; cycles = (ap (λ u. (run scenario u).cycles) one.1 ∙ sym w.cycles) i })
      | inr apart ↦
          absurd (let hit = (without_break scenario k n t e).1 (m.step - 1) (omega (arith, low, apart.1)) (omega (arith, w.within)) in
          let wrong : true ≡ false = sym hit ∙ w.not_before in cc)
    ]

pub moments_are_exact : MomentsAreExact
moments_are_exact = λ scenario k n m. (
  λ is. moment_told scenario k n m (waits_since scenario k n) refl is,
  λ w. told_moment scenario k n m
      (waits_since scenario k n) refl w,
)
