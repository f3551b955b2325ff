-- From what come the flags after a step, and the interrupts then asked for.
use Rattle.std.proofs.Common.{◌≡◌, ℕ, Bool, true, false, cond, not, ◌==◌, ◌&&◌, ◌||◌, List, [], ◌∷◌, ◌++◌, Option, Some, None, refl, ap}
use Rattle.std.proofs.Common.{◌∙◌, sym}
use Rattle.std.specs.Prelude.{nat_le}
use Rattle.std.specs.Ordering.{nat_cmp, eq_by_cmp}
use Rattle.std.specs.Cmp.{nat_cmp_total}
use Rattle.std.specs.FinSet as set
use Rattle.words.specs.declared.counters.Carry.{Carry}
use Rattle.words.specs.Numbers.{extend, correct}
use Rattle.words.specs.Signs.{over, is_zero}
use Rattle.words.specs.Counters.{pinc}
use Rattle.rope.specs.Places.{Words}
use Rattle.space.specs.Cells.{get, accumulator, return_address, program_counter, cycle_right, edit_opcode}
use Rattle.space.specs.declared.place.Linear.{Linear}
use Rattle.space.specs.declared.place.Linear.TheVariants.{Erasable, Fixed}
use Rattle.feed.specs.declared.counter.Asks.{Asks}
use Rattle.feed.specs.declared.counter.Asks.TheVariants.{Nothing, CarryInto, OnOverflow, AtZero, OnOneShiftedOut}
use Rattle.feed.specs.declared.input.Counter.{Counter}
use Rattle.feed.specs.declared.input.Sequence.{Sequence}
use Rattle.feed.specs.Counters as counters
use Rattle.feed.specs.declared.input.Input.{Input}
use Rattle.feed.specs.declared.input.Input.TheVariants.{Count, Word, Interrupt}
use Rattle.feed.specs.Merged.{due}
use Rattle.cpu.specs.declared.instruction.Instruction.{Instruction}
use Rattle.cpu.specs.declared.instruction.Instruction.TheVariants.{Relint, Inhint, Resume, Tc, Ccs, Das, Ca, Cs, Index, Ts, Ad, Mask, Dv}
use Rattle.cpu.specs.declared.instruction.Instruction.TheVariants.{Bzf, Msu, Dim, Dca, Dcs, Su, Bzmf, Mp}
use Rattle.cpu.specs.State.{State, Scenario}
use Rattle.cpu.specs.Codes.{Code, code_of}
use Rattle.cpu.specs.Effects.{Change, change, changes, value_at, edits, place_in, erasable_in, accumulator_of, first_of, greatest_short}
use Rattle.cpu.specs.Effects.{has_overflow, is_at_zero, is_at_zero_or_minus, after, tc, ccs, tcf, ca, cs, ad, su, mask, ts, xch, lxch, qxch}
use Rattle.cpu.specs.Effects.{dxch, ads, incr, aug, dim, das, dca, dcs, index, mp, dv, msu, bzf, bzmf, read, write, rand, ror, rxor, wand}
use Rattle.cpu.specs.Effects.{wor, relint, inhint, resume}
use Rattle.cpu.specs.Effects.Change.{AtPlace, OnChannel, WaitsWithSum}
use Rattle.cpu.specs.Inputs.{asked_by, take, input_effect, counted, received, asked, asked_after, asked_on, carried, carries_into, stepped}
use Rattle.cpu.specs.Inputs.{step_of, count_of, is_overflow}
use Rattle.cpu.specs.Next.{extra_after, fetched, executed, execute, instruction_word, entry, entered, next_by, next}
use Rattle.cpu.specs.Links.{carries_in, link_by, link}
use Rattle.cpu.specs.Beside.{SameFlags, FlagsDependOnLink, ControlFixesFlags, asking_spots, input_request_sources, request_sources}
use Rattle.cpu.specs.Beside.{RequestsDependOnSources, ControlFixesRequests}
use Rattle.cpu.proofs.RunLaws.{counted_in}
use Rattle.cpu.proofs.ChangeLaws.{changes_append}
use Rattle.cpu.proofs.Flowing.{Agree, get_same}
use Rattle.cpu.proofs.Linking.{alike_agree, control_fixes_link}

-- the flags and what is asked for are as they were
abbrev Stays : State → State → Type 0
Stays s u = (u.extra ≡ s.extra) × ((u.inhibit ≡ s.inhibit) × ((u.inside ≡ s.inside) × (u.requests ≡ s.requests)))

cond_stays : (s : State) (b : Bool) (cs ds : List Change) → Stays s (changes s cs) → Stays s (changes s ds)
    → Stays s (changes s (cond b cs ds))
cond_stays s true cs ds first second = first
cond_stays s false cs ds first second = second

edits_stay : (u : State) (l : Linear) (x : ℕ) → Stays u (changes u (edits l x))
unfolding edits
edits_stay u (Erasable p) x =
    cond_stays u (nat_le cycle_right p && nat_le p edit_opcode) (AtPlace p x ∷ []) [] (refl, (refl, (refl, refl)))
    (refl, (refl, (refl, refl)))
edits_stay u (Fixed bank offset) x = (refl, (refl, (refl, refl)))

two_edits_stay : (u : State) (l m : Linear) (x y : ℕ) → Stays u (changes u (edits l x ++ edits m y))
two_edits_stay u l m x y =
    let both = changes_append (edits l x) (edits m y) u in
    let v = changes u (edits l x) in
    let first = edits_stay u l x in
    let second = edits_stay v m y in (
      ap (λ (w : State). w.extra) both ∙ second.0 ∙ first.0,
      (
        ap (λ (w : State). w.inhibit) both ∙ second.1.0 ∙ first.1.0,
        (
          ap (λ (w : State). w.inside) both ∙ second.1.1.0 ∙ first.1.1.0,
          ap (λ (w : State). w.requests) both ∙ second.1.1.1 ∙ first.1.1.1,
        ),
      ),
    )

-- the flags that each instruction leaves
abbrev pub left_inhibit : State → Instruction → Bool
left_inhibit s Relint = false
left_inhibit s Inhint = true
left_inhibit s _ = s.inhibit

abbrev pub left_inside : State → Instruction → Bool
left_inside s Resume = false
left_inside s _ = s.inside

abbrev pub LeavesFlags : Words → State → Instruction → ℕ → Type 0
LeavesFlags r s i k =
    ((after r s i k).extra ≡ s.extra)
    × (((after r s i k).inhibit ≡ left_inhibit s i)
    × (((after r s i k).inside ≡ left_inside s i) × ((after r s i k).requests ≡ s.requests)))

pub leaves_flags : (r : Words) (s : State) (i : Instruction) (k : ℕ) → LeavesFlags r s i k
unfolding after resume tc ccs tcf das lxch incr ads ca cs index dxch ts xch ad mask read write rand wand ror wor rxor dv bzf msu qxch aug
    dim dca dcs su bzmf mp relint inhint
leaves_flags r s Tc k = cond_stays s (k == return_address) _ _ (refl, (refl, (refl, refl))) (refl, (refl, (refl, refl)))
leaves_flags r s Ccs k = edits_stay _ (place_in s k) _
leaves_flags r s Das k = cond_stays s (erasable_in s (first_of greatest_short k) == accumulator) _ _ (refl, (refl, (refl, refl)))
    (refl, (refl, (refl, refl)))
leaves_flags r s Ca k = edits_stay _ (place_in s k) _
leaves_flags r s Cs k = edits_stay _ (place_in s k) _
leaves_flags r s Index k = edits_stay (change s (WaitsWithSum (value_at r s (place_in s k)))) (place_in s k) (value_at r s (place_in s k))
leaves_flags r s Ts k =
    cond_stays s (not (has_overflow (over (accumulator_of s)))) _ _ (refl, (refl, (refl, refl)))
    (cond_stays s (erasable_in s k == accumulator) _ _ (refl, (refl, (refl, refl)))
    (cond_stays s (erasable_in s k == program_counter) _ _ (refl, (refl, (refl, refl))) (refl, (refl, (refl, refl)))))
leaves_flags r s Ad k = edits_stay _ (place_in s k) _
leaves_flags r s Mask k = edits_stay _ (place_in s k) _
leaves_flags r s Dv k = edits_stay _ (place_in s k) _
leaves_flags r s Bzf k = cond_stays s (is_at_zero s) _ _ (refl, (refl, (refl, refl))) (refl, (refl, (refl, refl)))
leaves_flags r s Msu k = edits_stay _ (place_in s k) _
leaves_flags r s Dim k = cond_stays s (is_zero (get s.cells (erasable_in s k))) [] _ (refl, (refl, (refl, refl)))
    (refl, (refl, (refl, refl)))
leaves_flags r s Dca k = two_edits_stay _ _ _ _ _
leaves_flags r s Dcs k = two_edits_stay _ _ _ _ _
leaves_flags r s Su k = edits_stay _ (place_in s k) _
leaves_flags r s Bzmf k = cond_stays s (is_at_zero_or_minus s) _ _ (refl, (refl, (refl, refl))) (refl, (refl, (refl, refl)))
leaves_flags r s Mp k = edits_stay _ (place_in s k) _
leaves_flags r s instruction k = (refl, (refl, (refl, refl)))

-- an input leaves the flags, and what a counter carries leaves what is asked for
carry_stays : (s : State) (other : Option Counter) (x : Carry) (b : Bool) → is_overflow x ≡ b → Stays s (carried s other x)
carry_stays s None x b e = (refl, (refl, (refl, refl)))
carry_stays s (Some other) x true e = (
  ap (λ b. (cond b (stepped s other (pinc (count_of s other))) s).extra) e,
  (
    ap (λ b. (cond b (stepped s other (pinc (count_of s other))) s).inhibit) e,
    (
      ap (λ b. (cond b (stepped s other (pinc (count_of s other))) s).inside) e,
      ap
          (λ b. (cond b (stepped s other (pinc (count_of s other))) s).requests) e,
    ),
  ),
)
carry_stays s (Some other) x false e = (
  ap (λ b. (cond b (stepped s other (pinc (count_of s other))) s).extra) e,
  (
    ap (λ b. (cond b (stepped s other (pinc (count_of s other))) s).inhibit) e,
    (
      ap (λ b. (cond b (stepped s other (pinc (count_of s other))) s).inside) e,
      ap
          (λ b. (cond b (stepped s other (pinc (count_of s other))) s).requests) e,
    ),
  ),
)

abbrev pub KeepsFlags : State → State → Type 0
KeepsFlags s u = (u.extra ≡ s.extra) × ((u.inhibit ≡ s.inhibit) × (u.inside ≡ s.inside))

asked_keeps : (s : State) (o : Option ℕ) → KeepsFlags s (asked s o)
asked_keeps s None = (refl, (refl, refl))
asked_keeps s (Some k) = (refl, (refl, refl))

pub input_keeps : (s : State) (input : Input) → KeepsFlags s (input_effect s input)
unfolding counted received
input_keeps s (Count counter sequence) =
    let step = step_of sequence (count_of s counter) in
    let t = stepped s counter step in
    let u = carried t (carries_into counter) step.carry in
    let carries = carry_stays t (carries_into counter) step.carry (is_overflow step.carry) refl in
    let asks = asked_keeps u (asked_after counter step) in
    (asks.0 ∙ carries.0, (asks.1.0 ∙ carries.1.0, asks.1.1 ∙ carries.1.1.0))
input_keeps s (Word n w) = asked_keeps (change s (OnChannel n (extend w))) (asked_on n)
input_keeps s (Interrupt k) = (refl, (refl, refl))

-- what is asked for, beside what was
abbrev asked_set : set.FinSet nat_cmp → Option ℕ → set.FinSet nat_cmp
asked_set requests None = requests
asked_set requests (Some k) = set.insert requests k

asked_is : (s : State) (o : Option ℕ) → (asked s o).requests ≡ asked_set s.requests o
asked_is s None = refl
asked_is s (Some k) = refl

-- for what an input asks
abbrev asks_of : State → Input → Option ℕ
asks_of s (Count counter sequence) = asked_after counter (step_of sequence (count_of s counter))
asks_of s (Word n w) = asked_on n
asks_of s (Interrupt k) = Some k

input_asks : (s : State) (input : Input) → (input_effect s input).requests ≡ asked_set s.requests (asks_of s input)
unfolding counted received
input_asks s (Count counter sequence) =
    let step = step_of sequence (count_of s counter) in
    let t = stepped s counter step in
    let u = carried t (carries_into counter) step.carry in
    asked_is u (asked_after counter step)
    ∙ ap (λ requests. asked_set requests (asked_after counter step))
    (carry_stays t (carries_into counter) step.carry (is_overflow step.carry) refl).1.1.1
input_asks s (Word n w) = asked_is (change s (OnChannel n (extend w))) (asked_on n)
input_asks s (Interrupt k) = refl

-- an input withdraws nothing that was asked for
or_true : (b : Bool) → (b || true) ≡ true
or_true true = refl
or_true false = refl

inserted : (requests : set.FinSet nat_cmp) (o : Option ℕ) (k : ℕ) → set.contains requests k ≡ true
    → set.contains (asked_set requests o) k ≡ true
inserted requests None k there = there
inserted requests (Some j) k there = set.contains-insert nat_cmp_total requests j k ∙ rw there (or_true (eq_by_cmp nat_cmp k j))

pub input_withdraws_none : (s : State) (input : Input) (k : ℕ) → set.contains s.requests k ≡ true
    → set.contains (input_effect s input).requests k ≡ true
input_withdraws_none s input k there = ap (λ requests. set.contains requests k) (input_asks s input)
    ∙ inserted s.requests (asks_of s input) k there

asks_same : (r : Words) (s : State) (o : Words) (t : State) (asks : Asks) (counter : Counter) (sequence : Sequence)
    → is_overflow (step_of sequence (count_of s counter)).carry ≡ is_overflow (step_of sequence (count_of t counter)).carry
    → Agree r s o t (asking_spots asks counter)
    → asked_by asks (step_of sequence (count_of s counter)) ≡ asked_by asks (step_of sequence (count_of t counter))
asks_same r s o t Nothing counter sequence e h = refl
asks_same r s o t (CarryInto other) counter sequence e h = refl
asks_same r s o t (OnOverflow k) counter sequence e h = λ i. cond (e i) (Some k) None
asks_same r s o t (AtZero k) counter sequence e h =
    ap (λ w. asked_by (AtZero k) (step_of sequence (correct w))) (get_same r s o t (counters.counter_place counter) h)
asks_same r s o t (OnOneShiftedOut k) counter sequence e h =
    ap (λ w. asked_by (OnOneShiftedOut k) (step_of sequence (correct w))) (get_same r s o t (counters.counter_place counter) h)

input_asks_same : (r : Words) (s : State) (o : Words) (t : State) (input : Input) → carries_in s input ≡ carries_in t input
    → Agree r s o t (input_request_sources input) → asks_of s input ≡ asks_of t input
input_asks_same r s o t (Count counter sequence) e h = asks_same r s o t (counters.row_of counter).asks counter sequence e h
input_asks_same r s o t (Word n w) e h = refl
input_asks_same r s o t (Interrupt k) e h = refl

-- the same flags are left
inhibit_same : (u v : State) (i : Instruction) → u.inhibit ≡ v.inhibit → left_inhibit u i ≡ left_inhibit v i
inhibit_same u v Relint e = refl
inhibit_same u v Inhint e = refl
inhibit_same u v instruction e = e

inside_same : (u v : State) (i : Instruction) → u.inside ≡ v.inside → left_inside u i ≡ left_inside v i
inside_same u v Resume e = refl
inside_same u v instruction e = e

next_flags : (r : Words) (s : State) (o : Words) (t : State) (d d' : Option (Input × Option ℕ)) (k k' : Option ℕ)
    → link_by r s d k ≡ link_by o t d' k'
    → SameFlags s t → SameFlags (next_by r s d k).0 (next_by o t d' k').0
unfolding take execute executed fetched entered
next_flags r s o t (Some given) (Some given') k k' e f =
    let one = input_keeps (counted_in s given) given.0 in
    let other = input_keeps (counted_in t given') given'.0 in
    record {
      extra = one.0 ∙ f.extra ∙ sym other.0;
      inhibit = one.1.0 ∙ f.inhibit ∙ sym other.1.0;
      inside = one.1.1 ∙ f.inside
          ∙ sym other.1.1;
    }
next_flags r s o t None None (Some k) (Some k') e f = record { extra = f.extra; inhibit = f.inhibit; inside = refl }
next_flags r s o t None None None None e f =
    let code = code_of s.extra (instruction_word r s) in
    let other = code_of t.extra (instruction_word o t) in
    let same : code ≡ other = cc in
    let one = leaves_flags r (fetched s) code.instruction code.operand in
    let two = leaves_flags o (fetched t) other.instruction other.operand in
    record {
      extra = λ i. extra_after (same i).instruction (f.extra i);
      inhibit = one.1.0 ∙ inhibit_same (fetched s) (fetched t) code.instruction f.inhibit
          ∙ ap (λ (code : Code). left_inhibit (fetched t) code.instruction) same ∙ sym two.1.0;
      inside = one.1.1.0 ∙ inside_same (fetched s) (fetched t) code.instruction f.inside
          ∙ ap (λ (code : Code). left_inside (fetched t) code.instruction) same ∙ sym two.1.1.0;
    }
next_flags r s o t (Some given) None k (Some k') e f = absurd (cc)
next_flags r s o t (Some given) None k None e f = absurd (cc)
next_flags r s o t None (Some given') (Some k) k' e f = absurd (cc)
next_flags r s o t None (Some given') None k' e f = absurd (cc)
next_flags r s o t None None (Some k) None e f = absurd (cc)
next_flags r s o t None None None (Some k') e f = absurd (cc)

next_requests : (r : Words) (s : State) (o : Words) (t : State) (d d' : Option (Input × Option ℕ)) (k k' : Option ℕ)
    → link_by r s d k ≡ link_by o t d' k'
    → Agree r s o t (request_sources (link_by r s d k)) → s.requests ≡ t.requests
    → (next_by r s d k).0.requests ≡ (next_by o t d' k').0.requests
unfolding take execute executed fetched entered
next_requests r s o t (Some given) (Some given') k k' e h w =
    let inputs : given.0 ≡ given'.0 = cc in
    let overflows : carries_in s given.0 ≡ carries_in t given'.0 = cc in
    input_asks (counted_in s given) given.0
    ∙ (λ i. asked_set (w i) (input_asks_same r s o t given.0 (overflows ∙ ap (λ input. carries_in t input) (sym inputs)) h i))
    ∙ ap (λ input. asked_set t.requests (asks_of t input)) inputs
    ∙ sym (input_asks (counted_in t given') given'.0)
next_requests r s o t None None (Some k) (Some k') e h w =
    let same : k ≡ k' = cc in
    λ i. set.remove (w i) (same i)
next_requests r s o t None None None None e h w =
    let code = code_of s.extra (instruction_word r s) in
    let other = code_of t.extra (instruction_word o t) in
    (leaves_flags r (fetched s) code.instruction code.operand).1.1.1 ∙ w
    ∙ sym (leaves_flags o (fetched t) other.instruction other.operand).1.1.1
next_requests r s o t (Some given) None k (Some k') e h w = absurd (cc)
next_requests r s o t (Some given) None k None e h w = absurd (cc)
next_requests r s o t None (Some given') (Some k) k' e h w = absurd (cc)
next_requests r s o t None (Some given') None k' e h w = absurd (cc)
next_requests r s o t None None (Some k) None e h w = absurd (cc)
next_requests r s o t None None None (Some k') e h w = absurd (cc)

pub flags_depend_on_link : (one : Scenario) (s : State) (other : Scenario) (t : State) → FlagsDependOnLink one s other t
unfolding link next
flags_depend_on_link one s other t = λ e f.
    next_flags one.rope s other.rope t (due one.inputs s.taken s.cycles) (due other.inputs t.taken t.cycles) (entry s) (entry t) e f

pub requests_depend_on_sources : (one : Scenario) (s : State) (other : Scenario) (t : State) → RequestsDependOnSources one s other t
unfolding link next
requests_depend_on_sources one s other t = λ e h w.
    let d = due one.inputs s.taken s.cycles in
    next_requests one.rope s other.rope t d (due other.inputs t.taken t.cycles) (entry s) (entry t) e
    (alike_agree one.rope s other.rope t (request_sources (link_by one.rope s d (entry s))) h) w

-- what controls fixes them with the link
pub control_fixes_flags : (one : Scenario) (s : State) (other : Scenario) (t : State) → ControlFixesFlags one s other t
control_fixes_flags one s other t = λ c.
    flags_depend_on_link one s other t (control_fixes_link one s other t c)
    (record { extra = c.extra; inhibit = c.inhibit; inside = c.inside })

pub control_fixes_requests : (one : Scenario) (s : State) (other : Scenario) (t : State) → ControlFixesRequests one s other t
control_fixes_requests one s other t = λ c h. requests_depend_on_sources one s other t (control_fixes_link one s other t c) h c.requests

pub ruleset flags_by = (flags_depend_on_link, control_fixes_flags)

pub ruleset requests_by = (requests_depend_on_sources, control_fixes_requests)
