-- An interrupt whose routine is RESUME alone.
use Rattle.std.proofs.Common.{◌≡◌, ◌≢◌, ◌≤◌, ◌<◌, ℕ, zero, suc, ◌+◌, ◌-◌, ◌*◌, ◌/◌, ◌%◌, Bool, true, false, cond, ◌==◌, ◌||◌, List, find}
use Rattle.std.proofs.Common.{Option, Some, None, refl, ap, ◌∙◌, sym, subst, arith, ⊎_elim}
use Rattle.std.specs.Prelude.{is_some, slice_get}
use Rattle.std.specs.List.{range_with_len}
use Rattle.std.specs.Ordering.{nat_cmp}
use Rattle.std.specs.FinSet as set
use Rattle.std.proofs.lemmas.Bool.Decides.{nat_tests}
use Rattle.std.proofs.lemmas.Bool.{cases_eq}
use Rattle.words.specs.Numbers.{extend, correct}
use Rattle.words.specs.Signs.{over}
use Rattle.rope.specs.Places.{Words, word_at}
use Rattle.space.specs.Cells.{Cells, at, get, put, get_channel, superbank, kept, erasable_bank, fixed_bank, program_counter, channel_cell}
use Rattle.space.specs.Cells.{superbank_channel}
use Rattle.space.specs.Places.{place}
use Rattle.space.specs.declared.place.Linear.TheVariants.{Fixed}
use Rattle.space.proofs.CellLaws.{at-put, at-put_other}
use Rattle.feed.specs.declared.entry.Entry.{Entry}
use Rattle.feed.specs.Merged.{due, when_come}
use Rattle.cpu.specs.declared.instruction.Instruction.{Instruction}
use Rattle.cpu.specs.declared.instruction.Instruction.TheVariants.{Resume}
use Rattle.cpu.specs.declared.instruction.Role.{Role}
use Rattle.cpu.specs.declared.instruction.Role.TheVariants.{Plain, JumpsAtZero, JumpsAtZeroOrMinus, PutsOut, BeginsExtracode}
use Rattle.cpu.specs.declared.instruction.Role.TheVariants.{KeepsExtracode}
use Rattle.cpu.specs.declared.output.Output.{Output}
use Rattle.cpu.specs.declared.instruction.Operand.{Operand}
use Rattle.cpu.specs.declared.instruction.Operand.TheVariants.{Nothing, Short, Long, ShortPair, LongPair, Channel}
use Rattle.cpu.specs.State.{State, Scenario, first_address, interrupted_address, interrupted_word}
use Rattle.cpu.specs.Codes.{Code, row_of, basic_rows, code_of}
use Rattle.cpu.specs.Effects.{place_in, value_at, operand, accumulator_of, next_address, has_overflow, after, resume}
use Rattle.cpu.specs.Next.{fetched_cells, fetched, following_address, word_at_z, instruction_word, jumps_by, cycles_of, extra_after}
use Rattle.cpu.specs.Next.{executed, execute_code, output_on, written_channel, least_request, entry, entered, next}
use Rattle.cpu.specs.Interrupts.{after_steps, ResumesAtOnce, IsSameBut, with_word_waiting, LeadsBack, InterruptLeadsBack, IsApart}
use Rattle.cpu.specs.Interrupts.{NamesNeither, unasked, later, IsNotFelt, InterruptIsNotFelt}
use Rattle.cpu.proofs.StepLaws.{by_entry, by_code, corrected_twice, requests-after}
use Rattle.cpu.proofs.SameBut.{same_after, with_extra, acc, channels}

-- ## What an entry asks for
either_parts : (b c : Bool) → (b || c) ≡ false → (b ≡ false) × (c ≡ false)
either_parts false c e = (refl, e)
either_parts true c e = absurd (cc)

not_barred : (b : Bool) (o : Option ℕ) (k : ℕ) → cond b None o ≡ Some k → (b ≡ false) × (o ≡ Some k)
not_barred false o k e = (refl, e)
not_barred true o k e = absurd (cc)

is_none : (o : Option ℕ) → is_some o ≡ false → o ≡ None
is_none None e = refl
is_none (Some x) e = absurd (cc)

record MayEnter (s : State) (k : ℕ) : Type 0 where
  inhibit : s.inhibit ≡ false
  inside : s.inside ≡ false
  extra : s.extra ≡ false
  sum : s.waiting_sum ≡ None
  word : s.waiting_word ≡ None
  least : least_request s.requests ≡ Some k

may_enter : (s : State) (k : ℕ) → entry s ≡ Some k → MayEnter s k
unfolding entry
may_enter s k e =
    let a = not_barred (s.inhibit || s.inside || s.extra || is_some s.waiting_sum || is_some s.waiting_word
    || has_overflow (over (accumulator_of s))) (least_request s.requests) k e in
    let g = either_parts (s.inhibit || s.inside || s.extra || is_some s.waiting_sum || is_some s.waiting_word)
    (has_overflow (over (accumulator_of s))) a.0 in
    let f = either_parts (s.inhibit || s.inside || s.extra || is_some s.waiting_sum) (is_some s.waiting_word) g.0 in
    let d = either_parts (s.inhibit || s.inside || s.extra) (is_some s.waiting_sum) f.0 in
    let c = either_parts (s.inhibit || s.inside) s.extra d.0 in
    let b = either_parts s.inhibit s.inside c.0 in
    record { inhibit = b.0; inside = b.1; extra = c.1; sum = is_none s.waiting_sum d.1; word = is_none s.waiting_word f.1; least = a.1 }

found_by : (b : Bool) (a k : ℕ) (rest : Option ℕ) → cond b (Some a) rest ≡ Some k → (rest ≡ Some k → k < 11) → a < 11 → k < 11
found_by true a k rest e more le = let same : a ≡ k = cc in omega arith
found_by false a k rest e more le = more e

found_below : (p : ℕ → Bool) (n a k : ℕ) → a + n ≤ 11 → find p (range_with_len a n) ≡ Some k → k < 11
found_below p zero a k le e = absurd (cc)
found_below p (suc n) a k le e = found_by (p a) a k (find p (range_with_len (a + 1) n)) e
    (λ later. found_below p n (a + 1) k (omega arith) later) (omega arith)

-- ## The state in which it stands
-- a state that may enter, with that written out
abbrev ready : State → State
ready s = record s { extra = false; inhibit = false; inside = false; waiting_sum = None; waiting_word = None }

is_ready : (s : State) (k : ℕ) → MayEnter s k → ready s ≡ s
is_ready s k m = λ i. record s {
  extra = sym m.extra i;
  inhibit = sym m.inhibit i;
  inside = sym m.inside i;
  waiting_sum = sym m.sum i;
  waiting_word = sym m.word i;
}

-- what is due no later is due no earlier
none_come : (o : Option Entry) (c d : ℕ) → c ≤ d → when_come d o ≡ None → when_come c o ≡ None
none_come None c d le e = refl
none_come (Some x) c d le e = grind (arith, nat_tests)

none_earlier : (list : List Entry) (k c d : ℕ) → c ≤ d → due list k d ≡ None → due list k c ≡ None
unfolding due
none_earlier list k c d le e = none_come (slice_get list k) c d le e

-- ## Cells
address_below : (s : State) → following_address s < 4096
address_below s = omega arith

kept_zrupt : (s : Cells) (f : ℕ) → f < 4096 → at (put s interrupted_address f) interrupted_address ≡ f
unfolding kept
kept_zrupt s f lt = let same : correct f ≡ f = grind (arith, nat_tests) in at-put s interrupted_address f (λ e. omega arith)
    (λ e. omega arith) ∙ same

kept_brupt : (s : Cells) (w : ℕ) → correct (extend w) ≡ w → at (put s interrupted_word (extend w)) interrupted_word ≡ w
unfolding kept
kept_brupt s w e = at-put s interrupted_word (extend w) (λ e. omega arith) (λ e. omega arith) ∙ e

kept_z : (s : Cells) (f : ℕ) → f < 4096 → at (put s program_counter f) program_counter ≡ f
unfolding kept
kept_z s f lt = let same : correct f % 4096 ≡ f = grind (arith, nat_tests) in at-put s program_counter f (λ e. omega arith)
    (λ e. omega arith) ∙ same

read_word : (s : Cells) (p : ℕ) → 8 ≤ p → get s p ≡ extend (at s p)
unfolding get
read_word s p le = grind (arith, nat_tests)

read_z : (s : Cells) → get s program_counter ≡ extend (at s program_counter)
unfolding get
read_z s = refl

small : (f : ℕ) → f < 4096 → extend f ≡ f
small f lt = grind (arith, nat_tests)

-- the cells in which an entry leaves a word, an address and Z
abbrev entered_cells : Cells → ℕ → ℕ → ℕ → Cells
entered_cells c w f z = put (put (put c interrupted_word (extend w)) interrupted_address f) program_counter z

-- and after the fetch of its routine
abbrev routine_cells : Cells → ℕ → ℕ → ℕ → ℕ → Cells
routine_cells c w f z y = put (entered_cells c w f z) program_counter y

zrupt_there : (c : Cells) (w f z y : ℕ) → f < 4096 → at (routine_cells c w f z y) interrupted_address ≡ f
zrupt_there c w f z y lt =
    at-put_other (entered_cells c w f z) program_counter y interrupted_address (λ e. omega arith) (λ e. omega arith)
    ∙ at-put_other (put (put c interrupted_word (extend w)) interrupted_address f) program_counter z interrupted_address (λ e. omega arith)
    (λ e. omega arith)
    ∙ kept_zrupt (put c interrupted_word (extend w)) f lt

brupt_there : (c : Cells) (w f z y : ℕ) → correct (extend w) ≡ w → at (routine_cells c w f z y) interrupted_word ≡ w
brupt_there c w f z y e =
    at-put_other (entered_cells c w f z) program_counter y interrupted_word (λ e. omega arith) (λ e. omega arith)
    ∙ at-put_other (put (put c interrupted_word (extend w)) interrupted_address f) program_counter z interrupted_word (λ e. omega arith)
    (λ e. omega arith)
    ∙ at-put_other (put c interrupted_word (extend w)) interrupted_address f interrupted_word (λ e. omega arith) (λ e. omega arith)
    ∙ kept_brupt c w e

other_there : (c : Cells) (w f z y q : ℕ) → q ≢ interrupted_address → q ≢ interrupted_word → q ≢ program_counter
    → at (routine_cells c w f z y) q ≡ at c q
other_there c w f z y q nz nb np =
    at-put_other (entered_cells c w f z) program_counter y q (λ e. omega arith) np
    ∙ at-put_other (put (put c interrupted_word (extend w)) interrupted_address f) program_counter z q (λ e. omega arith) np
    ∙ at-put_other (put c interrupted_word (extend w)) interrupted_address f q (λ e. omega arith) nz
    ∙ at-put_other c interrupted_word (extend w) q (λ e. omega arith) nb

-- ## The two steps
abbrev resuming : Code
resuming = record { instruction = Resume; operand = 0 }

is_resume : code_of false 0o50017 ≡ resuming
unfolding code_of basic_rows
is_resume = refl

-- the place of a routine
routine_place : (s : State) (k : ℕ) → k < 11 → place_in s (first_address + 4 * k) ≡ Fixed 2 (4 * k)
unfolding place_in place
routine_place s k lt =
    let off : first_address + 4 * k - 0o4000 ≡ 4 * k = omega arith in
    grind (arith, nat_tests, off)

-- the state that an entry of interrupt k leads to from a ready state, and the one after RESUME
abbrev first : Words → State → ℕ → State
first rope s k = entered rope (ready s) k

abbrev second : Words → State → ℕ → State
second rope s k = executed rope (fetched (first rope s k)) resuming

z_there : (rope : Words) (s : State) (k : ℕ) → k < 11 → next_address (first rope s k) ≡ first_address + 4 * k
unfolding entered
z_there rope s k lt =
    let c = put (put s.cells interrupted_word (extend (word_at_z rope (ready s)))) interrupted_address (following_address (ready s)) in
    read_z (put c program_counter (first_address + 4 * k)) ∙ ap extend (kept_z c (first_address + 4 * k) (omega arith))
    ∙ small (first_address + 4 * k) (omega arith)

routine_word : (rope : Words) (s : State) (k : ℕ) → k < 11 → word_at rope 2 (4 * k) ≡ 0o50017
    → instruction_word rope (first rope s k) ≡ 0o50017
unfolding instruction_word entered value_at
routine_word rope s k lt is =
    ap (λ a. correct (operand rope (first rope s k) a)) (z_there rope s k lt)
    ∙ ap (λ l. correct (value_at rope (first rope s k) l)) (routine_place (first rope s k) k lt)
    ∙ ap (λ w. correct (extend w)) is

first_step : (scenario : Scenario) (s : State) (k : ℕ) → ResumesAtOnce scenario (ready s) k
    → next scenario (ready s) ≡ (first scenario.rope s k, None)
first_step scenario s k r = by_entry scenario (ready s) k r.enters

second_step : (scenario : Scenario) (s : State) (k : ℕ) → k < 11 → ResumesAtOnce scenario (ready s) k
    → next scenario (first scenario.rope s k) ≡ execute_code scenario.rope (first scenario.rope s k) resuming
unfolding entry entered
second_step scenario s k lt r =
    by_code scenario (first scenario.rope s k) resuming (record {
      none_due = none_earlier scenario.inputs s.taken (s.cycles + 3) (s.cycles + 5) (omega arith) r.quiet;
      none_entered = refl;
      executes = ap (code_of false) (routine_word scenario.rope s k lt r.routine) ∙ is_resume;
    })

two_steps : (scenario : Scenario) (s : State) (k : ℕ) → k < 11 → ResumesAtOnce scenario (ready s) k
    → after_steps scenario 2 (ready s) ≡ second scenario.rope s k
unfolding after_steps
two_steps scenario s k lt r =
    ap (λ (t : State × Option Output). (next scenario t.0).0) (first_step scenario s k r)
    ∙ ap (λ (t : State × Option Output). t.0) (second_step scenario s k lt r)

-- what stands after them: the cells, by the address and the word that were kept
cells_back : (c : Cells) (w f z y g q : ℕ) → f < 4096 → g ≡ f → q ≢ interrupted_address → q ≢ interrupted_word
    → at (put (routine_cells c w f z y) program_counter g) q ≡ at (put c program_counter f) q
cells_back c w f z y g q lt e nz nb =
    ⊎_elim
    (λ (is : q ≡ program_counter).
    let b : at (put (routine_cells c w f z y) program_counter g) q
    ≡ at (put (routine_cells c w f z y) program_counter f) program_counter = ap
    (λ x. at (put (routine_cells c w f z y) program_counter x) q) e ∙ ap (at (put (routine_cells c w f z y) program_counter f)) is in
    b ∙ kept_z (routine_cells c w f z y) f lt ∙ sym (kept_z c f lt) ∙ ap (at (put c program_counter f)) (sym is))
    (λ (np : q ≢ program_counter).
    at-put_other (routine_cells c w f z y) program_counter g q (λ e. omega arith) np ∙ other_there c w f z y q nz nb np
    ∙ sym (at-put_other c program_counter f q (λ e. omega arith) np))
    (cases_eq q program_counter)

-- the word that is put off is a word
is_word : (rope : Words) (s : State) → correct (extend (word_at_z rope s)) ≡ word_at_z rope s
is_word rope s = corrected_twice (operand rope s (next_address s))

lead_back : (rope : Words) (s : State) (k : ℕ) (scenario : Scenario) → scenario.rope ≡ rope
    → LeadsBack scenario (ready s) k (second scenario.rope s k)
unfolding instruction_word entered fetched executed after resume entry
lead_back rope s k scenario e =
    let r = ready s in
    let w = word_at_z scenario.rope r in
    let f = following_address r in
    let z = first_address + 4 * k in
    let y = following_address (first scenario.rope s k) in
    let lt : f < 4096 = address_below r in
    let c = routine_cells s.cells w f z y in
    let back : get c interrupted_address ≡ f = read_word c interrupted_address (omega arith) ∙ ap extend (zrupt_there s.cells w f z y lt)
    ∙ small f lt in
    let word : correct (get c interrupted_word) ≡ w = ap correct
    (read_word c interrupted_word (omega arith) ∙ ap extend (brupt_there s.cells w f z y (is_word scenario.rope r)))
    ∙ is_word scenario.rope r in
    let left = λ (q : ℕ) (np : q ≢ program_counter). at-put_other c program_counter (get c interrupted_address) q (λ e. omega arith) np in
    record {
      same = record {
        cells = λ q nz nb. cells_back s.cells w f z y (get c interrupted_address) q lt back nz nb;
        extra = refl;
        inhibit = refl;
        inside = refl;
        waiting_sum = refl;
        waiting_word = ap Some word;
        taken = refl;
        counts = refl;
      };
      word = word;
      zrupt = left interrupted_address (λ e. omega arith) ∙ zrupt_there s.cells w f z y lt
          ∙ sym (read_z (put s.cells program_counter f) ∙ ap extend (kept_z s.cells f lt) ∙ small f lt);
      brupt = left interrupted_word (λ e. omega arith) ∙ brupt_there s.cells w f z y (is_word scenario.rope r);
      requests = refl;
      cycles = omega arith;
      none_entered = refl;
    }

pub interrupt_leads_back : (scenario : Scenario) (s : State) (k : ℕ) → InterruptLeadsBack scenario s k
interrupt_leads_back scenario s k r =
    let m = may_enter s k r.enters.enters in
    let lt = found_below (λ j. set.contains s.requests j) 10 1 k (omega arith) m.least in
    subst (λ (t : State). LeadsBack scenario t k (after_steps scenario 2 t)) (is_ready s k m)
    (subst (LeadsBack scenario (ready s) k) (sym (two_steps scenario s k lt
    (subst (λ (t : State). ResumesAtOnce scenario t k) (sym (is_ready s k m)) r))) (lead_back scenario.rope s k scenario refl))

-- ## The third step
-- an instruction takes the same cycles in states whose A is the same
same_jumps : (s t : State) (role : Role) → accumulator_of t ≡ accumulator_of s → jumps_by t role ≡ jumps_by s role
same_jumps s t Plain e = refl
same_jumps s t JumpsAtZero e = cc
same_jumps s t JumpsAtZeroOrMinus e = cc
same_jumps s t PutsOut e = refl
same_jumps s t BeginsExtracode e = refl
same_jumps s t KeepsExtracode e = refl

same_cycles : (s t : State) (i : Instruction) → accumulator_of t ≡ accumulator_of s → cycles_of t i ≡ cycles_of s i
same_cycles s t i e = ap (λ b. cond b 1 (row_of i).cycles) (same_jumps s t (row_of i).role e)

-- and puts out the same, later
same_output : (s t : State) (n : ℕ) (channel : Option ℕ) → ((c : ℕ) → get_channel t.cells c ≡ get_channel s.cells c)
    → t.cycles ≡ s.cycles + n → output_on t channel ≡ later n (output_on s channel)
same_output s t n None same e = refl
same_output s t n (Some c) same e = on (c == 1 || c == 2 || c == 7)
  where
    on : (b : Bool) → cond b None (Some (record { cycles = t.cycles; channel = c; word = correct (get_channel t.cells c) }))
        ≡ later n (cond b None (Some (record { cycles = s.cycles; channel = c; word = correct (get_channel s.cells c) })))
    on true = refl
    on false = let w = same c in cc

-- what an instruction leaves, in states that are the same but for ZRUPT and BRUPT
same_executed : (rope : Words) (s t : State) (code : Code) → IsSameBut s t → code.instruction ≢ Resume
    → NamesNeither s (row_of code.instruction).operand code.operand
    → IsSameBut (executed rope s code) (executed rope t code)
unfolding executed
same_executed rope s t code h differs a =
    with_extra _ _ _ _ _ _ (ap (extra_after code.instruction) h.extra) (same_after rope s t code.instruction code.operand h differs a)

-- the fetch moves Z alone
pub fetched_place : (s : State) (f k : ℕ) → place_in (record s { cells = put s.cells program_counter f }) k ≡ place_in s k
unfolding place_in superbank
fetched_place s f k =
    let eb = at-put_other s.cells program_counter f erasable_bank (λ e. omega arith) (λ e. omega arith) in
    let fb = at-put_other s.cells program_counter f fixed_bank (λ e. omega arith) (λ e. omega arith) in
    let super = at-put_other s.cells program_counter f (channel_cell superbank_channel) (λ e. omega arith) (λ e. omega arith) in
    λ i. place k (eb i) (fb i) (super i / 0o100 % 2 == 1)

names_on : (s t : State) (kind : Operand) (k : ℕ) → ((j : ℕ) → place_in t j ≡ place_in s j) → NamesNeither s kind k → NamesNeither t kind k
names_on s t Nothing k e a = a
names_on s t Short k e a = subst IsApart (sym (e k)) a
names_on s t Long k e a = subst IsApart (sym (e k)) a
names_on s t ShortPair k e a = (subst IsApart (sym (e _)) a.0, subst IsApart (sym (e k)) a.1)
names_on s t LongPair k e a = (subst IsApart (sym (e _)) a.0, subst IsApart (sym (e k)) a.1)
names_on s t Channel k e a = a

none_asked : least_request set.empty ≡ None
none_asked = simp (set.contains-empty nat_cmp)

or_none : (b : Bool) (o : Option ℕ) → o ≡ None → cond b None o ≡ None
or_none true o e = refl
or_none false o e = e

never_enters : (s : State) → entry (unasked s) ≡ None
unfolding entry
never_enters s = or_none (s.inhibit || s.inside || s.extra || is_some s.waiting_sum || is_some s.waiting_word
    || has_overflow (over (accumulator_of s))) (least_request set.empty) none_asked

same_instruction : (rope : Words) (s : State) → instruction_word rope (unasked s) ≡ instruction_word rope s
unfolding instruction_word place_in value_at
same_instruction rope s = refl

-- where no interrupt is asked for, the instruction is executed
unasked_step : (scenario : Scenario) (s : State) (code : Code) → due scenario.inputs s.taken s.cycles ≡ None
    → code_of s.extra (instruction_word scenario.rope s) ≡ code
    → next scenario (unasked s) ≡ execute_code scenario.rope (unasked s) code
unasked_step scenario s code none is =
    by_code scenario (unasked s) code (record {
      none_due = none;
      none_entered = never_enters s;
      executes = ap (code_of s.extra)
          (same_instruction scenario.rope s) ∙ is;
    })

-- the instruction that was put off is executed next
put_off_step : (scenario : Scenario) (s t : State) (k : ℕ) (code : Code) → LeadsBack scenario s k t
    → due scenario.inputs s.taken (s.cycles + 5) ≡ None → code_of s.extra (instruction_word scenario.rope s) ≡ code
    → next scenario t ≡ execute_code scenario.rope t code
unfolding fetched
put_off_step scenario s t k code b quiet is = by_code scenario t code (record {
  none_due = rw (b.same.taken, b.cycles) quiet;
  none_entered = b.none_entered;
  executes = ap (λ e. code_of e (instruction_word scenario.rope t)) b.same.extra ∙ ap (code_of s.extra) b.word ∙ is;
})

-- after the fetch of a word that waits the state is as after that of the word at Z
same_fetched : (s t : State) (w : ℕ) → IsSameBut (with_word_waiting s w) t → IsSameBut (fetched (unasked s)) (fetched t)
unfolding fetched
same_fetched s t w h = on t.waiting_word h.waiting_word
  where
    on : (o : Option ℕ) → o ≡ Some w → IsSameBut (fetched (unasked s))
        (record t { cells = fetched_cells t o; waiting_sum = None; waiting_word = None })
    on None e = absurd (cc)
    on (Some v) e = record {
      cells = h.cells;
      extra = h.extra;
      inhibit = h.inhibit;
      inside = h.inside;
      waiting_sum = refl;
      waiting_word
          = refl;
      taken = h.taken;
      counts = h.counts;
    }

-- the places to which addresses lead after the fetch
places_fetched : (s : State) (k : ℕ) → place_in (fetched (unasked s)) k ≡ place_in s k
unfolding fetched place_in superbank
places_fetched s k = on s.waiting_word
  where
    on : (o : Option ℕ) → place_in (record s {
      cells = fetched_cells (unasked s) o;
      waiting_sum = None;
      waiting_word = None;
      requests
          = set.empty;
    }) k ≡ place_in s k
    on (Some v) = refl
    on None = fetched_place s (following_address s) k

executed_later : (rope : Words) (s t : State) (code : Code) → t.cycles ≡ s.cycles + 5
    → accumulator_of (fetched t) ≡ accumulator_of (fetched (unasked s))
    → (executed rope (fetched t) code).cycles ≡ (executed rope (fetched (unasked s)) code).cycles + 5
unfolding executed fetched
executed_later rope s t code e a = let same = same_cycles (fetched (unasked s)) (fetched t) code.instruction a in omega (arith, e, same)

executed_requests : (rope : Words) (t : State) (code : Code) → (executed rope (fetched t) code).requests ≡ t.requests
unfolding executed fetched
executed_requests rope t code = requests-after rope (fetched t) code.instruction code.operand

third_step : (scenario : Scenario) (s : State) (k : ℕ) (code : Code) → ResumesAtOnce scenario s k
    → LeadsBack scenario s k (after_steps scenario 2 s)
    → code_of s.extra (instruction_word scenario.rope s) ≡ code → code.instruction ≢ Resume
    → NamesNeither s (row_of code.instruction).operand code.operand → IsNotFelt scenario s k
unfolding after_steps
third_step scenario s k code r b is differs names =
    let rope = scenario.rope in
    let t = after_steps scenario 2 s in
    let u = fetched (unasked s) in
    let v = fetched t in
    let without = unasked_step scenario s code r.enters.none_due is in
    let with' = put_off_step scenario s t k code b r.quiet is in
    let h : IsSameBut u v = same_fetched s t (instruction_word rope s) b.same in
    let apart : NamesNeither u (row_of code.instruction).operand code.operand = names_on s u (row_of code.instruction).operand code.operand
    (places_fetched s) names in
    let e : IsSameBut (executed rope u code) (executed rope v code) = same_executed rope u v code h differs apart in
    let cycles : (executed rope v code).cycles ≡ (executed rope u code).cycles + 5 = executed_later rope s t code b.cycles (acc u v h) in
    record {
      same = subst (λ (x : State × Option Output). IsSameBut x.0 (next scenario t).0) (sym without)
          (subst (λ (x : State × Option Output). IsSameBut (executed rope u code) x.0) (sym with') e);
      output =
          ap (λ (x : State × Option Output). x.1) with'
          ∙ same_output (executed rope u code) (executed rope v code) 5 (written_channel code)
          (channels (executed rope u code) (executed rope v code) e) cycles
          ∙ sym (ap (λ (x : State × Option Output). later 5 x.1) without);
      requests = ap (λ (x : State × Option Output). x.0.requests) with' ∙ executed_requests rope t code ∙ b.requests;
      cycles = ap (λ (x : State × Option Output). x.0.cycles) with' ∙ cycles
          ∙ sym (ap (λ (x : State × Option Output). x.0.cycles + 5) without);
    }

pub interrupt_is_not_felt : (scenario : Scenario) (s : State) (k : ℕ) → InterruptIsNotFelt scenario s k
interrupt_is_not_felt scenario s k r differs names =
    third_step scenario s k (code_of s.extra (instruction_word scenario.rope s)) r (interrupt_leads_back scenario s k r) refl differs names
