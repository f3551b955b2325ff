-- From what comes what each step writes.
use Rattle.std.proofs.Common.{rules, ◌≡◌, ℕ, zero, suc, ◌+◌, ◌*◌, ◌/◌, ◌%◌, Bool, true, false, cond, ◌||◌, ◌==◌, List, [], ◌∷◌, ◌++◌}
use Rattle.std.proofs.Common.{Option, Some, None, refl, ap, ◌∙◌, sym, subst, arith}
use Rattle.std.specs.Prelude.{is_some, unwrap_or}
use Rattle.std.specs.List.{flat_map}
use Rattle.words.specs.Numbers.{extend, correct}
use Rattle.words.specs.Counters.{pinc}
use Rattle.words.specs.declared.counters.Carry.{Carry}
use Rattle.words.specs.declared.counters.CounterStep.{CounterStep}
use Rattle.rope.specs.Places.{Words}
use Rattle.feed.specs.declared.input.Counter.{Counter}
use Rattle.feed.specs.declared.input.Counter.TheVariants.{Time1, Time2}
use Rattle.feed.specs.declared.input.Input.{Input}
use Rattle.feed.specs.declared.input.Input.TheVariants.{Count, Word, Interrupt}
use Rattle.feed.specs.declared.input.Sequence.{Sequence}
use Rattle.feed.specs.Merged.{due}
use Rattle.feed.specs.Counters.{counter_place}
use Rattle.space.specs.Cells.{accumulator, at, get, put, superbank, channel_cell, erasable_bank, fixed_bank, program_counter}
use Rattle.space.specs.Cells.{superbank_channel}
use Rattle.space.specs.Places.{place}
use Rattle.space.specs.declared.place.Linear.{Linear}
use Rattle.words.specs.declared.wide.Overflow.{Overflow}
use Rattle.words.specs.declared.wide.Overflow.TheVariants.{No}
use Rattle.words.specs.Signs.{over}
use Rattle.cpu.specs.declared.instruction.Instruction.{Instruction}
use Rattle.cpu.specs.declared.instruction.Instruction.TheVariants.{Ts}
use Rattle.cpu.specs.State.{State, Scenario, first_address, interrupted_address, interrupted_word}
use Rattle.cpu.specs.Codes.{Code, code_of}
use Rattle.cpu.specs.Effects.{change, changes, value_at, place_in, next_address, accumulator_of, has_overflow, after}
use Rattle.cpu.specs.Effects.Change.{AtPlace, OnChannel}
use Rattle.cpu.specs.Inputs.{take, input_effect, counted, received, asked, asked_after, asked_on, carried, carries_into, stepped, step_of}
use Rattle.cpu.specs.Inputs.{count_of, is_overflow}
use Rattle.cpu.specs.Next.{fetched_cells, fetched, following_address, word_at_z, with_sum, least_request, executed, execute}
use Rattle.cpu.specs.Next.{instruction_word, entry, entered, next_by, next}
use Rattle.cpu.specs.Run.{run}
use Rattle.cpu.specs.declared.spot.Spot.{Spot}
use Rattle.cpu.specs.Links.{spot_word, Flow, to_place, place_spots, spots, is_in, sources_by, overflow_of, overflow_in, carries_in}
use Rattle.cpu.specs.Links.{fetch_flows, flows_of, Link, link_by, link, carry_flows, input_flows, flows, sources}
use Rattle.cpu.specs.Dependence.{carried_by_due, StandAlike, DependsOnSources, origins, SameLinks, DependsOnOrigins, ControlFixesLink}
use Rattle.cpu.specs.declared.spot.Spot.TheVariants.{Cell, InRope}
use Rattle.cpu.specs.Links.Link.{Takes, Enters, Executes}
use Rattle.cpu.proofs.RunLaws.{run-add-one, counted_in}
use Rattle.cpu.proofs.Flowing.{Agree, agree_left, agree_right, put_hit, put_miss, get_same, value_same, Tracks, here, tracks_start}
use Rattle.cpu.proofs.Flowing.{tracks_place, tracks_channel, sources_append}
use Rattle.cpu.proofs.Following.{follows, is_one, one, two}

-- the fetch moves Z alone
abbrev pub fetched_by : State → Option ℕ → State
fetched_by s w = record s { cells = fetched_cells s w; waiting_sum = None; waiting_word = None }

nexts : (r : Words) (s : State) (o : Words) (t : State) → at s.cells program_counter ≡ at t.cells program_counter
    → following_address s ≡ following_address t
nexts r s o t e = λ i. (get_same r s o t program_counter (e, tt) i + 1) % 0o10000

moved : (r : Words) (s : State) (o : Words) (t : State) (c : ℕ) (b : Bool) → at s.cells program_counter ≡ at t.cells program_counter
    → is_in c (program_counter ∷ []) ≡ b
    → at s.cells c ≡ at t.cells c
    → at (put s.cells program_counter (following_address s)) c ≡ at (put t.cells program_counter (following_address t)) c
moved r s o t c true zs m h =
    put_hit s.cells t.cells program_counter (following_address s) c m ∙ ap (λ x. at (put t.cells program_counter x) c) (nexts r s o t zs)
moved r s o t c false zs m h = put_miss s.cells program_counter (following_address s) c m ∙ h
    ∙ sym (put_miss t.cells program_counter (following_address t) c m)

fetched_cell : (r : Words) (s : State) (o : Words) (t : State) (w v : Option ℕ) (c : ℕ)
    → at s.cells program_counter ≡ at t.cells program_counter → is_some w ≡ is_some v
    → at s.cells c ≡ at t.cells c → at (fetched_by s w).cells c ≡ at (fetched_by t v).cells c
fetched_cell r s o t (Some w) (Some v) c zs e h = h
fetched_cell r s o t (Some w) None c zs e h = absurd (cc)
fetched_cell r s o t None (Some v) c zs e h = absurd (cc)
fetched_cell r s o t None None c zs e h = moved r s o t c (is_in c (program_counter ∷ [])) zs refl h

pub fetched_agree : (r : Words) (s : State) (o : Words) (t : State) (w v : Option ℕ)
    → at s.cells program_counter ≡ at t.cells program_counter → is_some w ≡ is_some v
    → (xs : List Spot) → Agree r s o t xs → Agree r (fetched_by s w) o (fetched_by t v) xs
fetched_agree r s o t w v zs e [] h = tt
fetched_agree r s o t w v zs e (Cell c ∷ xs) h = (fetched_cell r s o t w v c zs e h.0, fetched_agree r s o t w v zs e xs h.1)
fetched_agree r s o t w v zs e (InRope bank offset ∷ xs) h = (h.0, fetched_agree r s o t w v zs e xs h.1)

pub fetched_place : (s : State) (w : Option ℕ) (k : ℕ)
    → place_in (fetched_by s w) k ≡ place k (at s.cells erasable_bank) (at s.cells fixed_bank) (superbank s.cells)
unfolding place_in superbank
fetched_place s (Some w) k = refl
fetched_place s None k =
    let x = following_address s in
    λ i. place k (put_miss s.cells program_counter x erasable_bank refl i) (put_miss s.cells program_counter x fixed_bank refl i)
    (put_miss s.cells program_counter x (channel_cell superbank_channel) refl i / 0o100 % 2 == 1)

-- A is as before the fetch
pub fetched_a : (s : State) (w : Option ℕ) → accumulator_of (fetched_by s w) ≡ accumulator_of s
unfolding get
fetched_a s (Some w) = refl
fetched_a s None = put_miss s.cells program_counter (following_address s) accumulator refl

-- Z is fetched alike
source_zs : (r : Words) (s : State) (o : Words) (t : State) (w v : Option ℕ) → at s.cells program_counter ≡ at t.cells program_counter
    → is_some w ≡ is_some v
    → (c : ℕ) (b : Bool) → is_in c (program_counter ∷ []) ≡ b → Agree r s o t (cond b [] (here c))
    → Agree r (fetched_by s w) o (fetched_by t v) (here c)
source_zs r s o t w v zs e c true m h =
    (fetched_cell r s o t w v c zs e (subst (λ c. at s.cells c ≡ at t.cells c) (sym (is_one c program_counter m)) zs), tt)
source_zs r s o t w v zs e c false m h = fetched_agree r s o t w v zs e (here c) h

fetch_source : (r : Words) (s : State) (o : Words) (t : State) (w v : Option ℕ) → at s.cells program_counter ≡ at t.cells program_counter
    → is_some w ≡ is_some v
    → (c : ℕ) (b : Bool) → Agree r s o t (sources_by (fetch_flows b) c (here c)) → Agree r (fetched_by s w) o (fetched_by t v) (here c)
fetch_source r s o t w v zs e c true h = fetched_agree r s o t w v zs e (here c) h
fetch_source r s o t w v zs e c false h = source_zs r s o t w v zs e c (is_in c (program_counter ∷ [])) refl h

-- what agrees before the fetch agrees after it
either_fetched : (r : Words) (s : State) (o : Words) (t : State) (w v : Option ℕ) → at s.cells program_counter ≡ at t.cells program_counter
    → is_some w ≡ is_some v
    → (from before now : List Spot) (b : Bool) → (Agree r s o t before → Agree r (fetched_by s w) o (fetched_by t v) now)
    → Agree r s o t (cond b from before) → Agree r (fetched_by s w) o (fetched_by t v) (cond b from now)
either_fetched r s o t w v zs e from before now true f h = fetched_agree r s o t w v zs e from h
either_fetched r s o t w v zs e from before now false f h = f h

sources_fetched : (r : Words) (s : State) (o : Words) (t : State) (w v : Option ℕ) → at s.cells program_counter ≡ at t.cells program_counter
    → is_some w ≡ is_some v
    → (fs : List Flow) (c : ℕ) (before now : List Spot) → (Agree r s o t before → Agree r (fetched_by s w) o (fetched_by t v) now)
    → Agree r s o t (sources_by fs c before) → Agree r (fetched_by s w) o (fetched_by t v) (sources_by fs c now)
sources_fetched r s o t w v zs e [] c before now f h = f h
sources_fetched r s o t w v zs e (g ∷ fs) c before now f h =
    sources_fetched r s o t w v zs e fs c (cond (is_in c g.into) g.from before) (cond (is_in c g.into) g.from now)
    (either_fetched r s o t w v zs e g.from before now (is_in c g.into) f) h

execute_tracks : (r : Words) (s : State) (o : Words) (t : State) (w v : Option ℕ) (code : Code) (k eb fb : ℕ) (sup : Bool)
    → is_some w ≡ is_some v
    → at s.cells program_counter ≡ at t.cells program_counter
    → at s.cells erasable_bank ≡ eb → at s.cells fixed_bank ≡ fb → superbank s.cells ≡ sup
    → at t.cells erasable_bank ≡ eb → at t.cells fixed_bank ≡ fb → superbank t.cells ≡ sup
    → overflow_in code.instruction s ≡ overflow_in code.instruction t
    → Tracks r s o t (λ c. sources_by (flows (Executes k code (is_some w) eb fb sup (overflow_in code.instruction s))) c (here c))
    (after r (fetched_by s w) code.instruction code.operand) (after o (fetched_by t v) code.instruction code.operand)
execute_tracks r s o t w v code k eb fb sup e zs es fs us et ft ut same = λ c h.
    let lead = λ (k : ℕ). place k eb fb sup in
    let gs = flows_of lead (overflow_in code.instruction s) code.instruction code.operand in
    let overflows : overflow_in code.instruction (fetched_by s w)
    ≡ overflow_in code.instruction s = ap (overflow_of code.instruction) (fetched_a s w) in
    let others : overflow_in code.instruction (fetched_by t v)
    ≡ overflow_in code.instruction t = ap (overflow_of code.instruction) (fetched_a t v) in
    let moved_z : at (fetched_by s w).cells program_counter
    ≡ at (fetched_by t v).cells program_counter = fetched_cell r s o t w v program_counter zs e zs in
    let before : Agree r s o t (sources_by gs c (sources_by (fetch_flows (is_some w)) c (here c))) =
    subst (λ xs. Agree r s o t xs) (sources_append (fetch_flows (is_some w)) gs c (here c)) h in
    let now : Agree r (fetched_by s w) o (fetched_by t v) (sources_by gs c (here c)) =
    sources_fetched r s o t w v zs e gs c (sources_by (fetch_flows (is_some w)) c (here c)) (here c)
    (fetch_source r s o t w v zs e c (is_some w)) before in
    follows r (fetched_by s w) o (fetched_by t v) lead code.instruction code.operand
    (record {
      places = λ k. fetched_place s w k ∙ (λ i. place k (es i) (fs i) (us i));
      others = λ k. fetched_place t v k ∙ (λ i. place k (et i) (ft i) (ut i));
      zs = moved_z;
    })
    (overflows ∙ same ∙ sym others)
    c (subst (λ x. Agree r (fetched_by s w) o (fetched_by t v) (sources_by (flows_of lead x code.instruction code.operand) c (here c)))
    (sym overflows) now)

-- an input
pub asked_cells : (s : State) (o : Option ℕ) (c : ℕ) → at (asked s o).cells c ≡ at s.cells c
asked_cells s None c = refl
asked_cells s (Some k) c = refl

abbrev place_of : Counter → ℕ
place_of counter = counter_place counter

count_same : (r : Words) (s : State) (o : Words) (t : State) (counter : Counter) → Agree r s o t (place_spots (place_of counter))
    → count_of s counter ≡ count_of t counter
count_same r s o t counter h = λ i. correct (get_same r s o t (place_of counter) h i)

abbrev step_in : State → Counter → Sequence → CounterStep
step_in s counter sequence = step_of sequence (count_of s counter)

abbrev own_flow : Counter → List Flow
own_flow counter = to_place (place_of counter) (place_spots (place_of counter)) ∷ []

stepped_tracks : (r : Words) (s : State) (o : Words) (t : State) (counter : Counter) (sequence : Sequence)
    → Tracks r s o t (λ c. sources_by (own_flow counter) c (here c)) (stepped s counter (step_in s counter sequence))
    (stepped t counter (step_in t counter sequence))
stepped_tracks r s o t counter sequence =
    one r s o t (place_of counter) (place_spots (place_of counter)) (extend (step_in s counter sequence).word)
    (extend (step_in t counter sequence).word)
    (λ h i. extend (step_of sequence (count_same r s o t counter h i)).word)

-- an overflow of TIME1 is carried into TIME2, after TIME1's own step
later_same : (r : Words) (s : State) (o : Words) (t : State) (u v : State)
    → Tracks r s o t (λ c. sources_by (own_flow Time1) c (here c)) u v
    → Agree r s o t (place_spots (place_of Time2)) → Agree r u o v (place_spots (place_of Time2))
later_same r s o t u v old h = (old (place_of Time2) (h.0, tt), tt)

carry_by : (r : Words) (s : State) (o : Words) (t : State) (u v : State) (b d : Bool) → b ≡ d
    → Tracks r s o t (λ c. sources_by (own_flow Time1) c (here c)) u v
    → Tracks r s o t (λ c. sources_by (own_flow Time1 ++ cond b (carry_flows (Some Time2)) []) c (here c))
    (cond b (stepped u Time2 (pinc (count_of u Time2))) u) (cond d (stepped v Time2 (pinc (count_of v Time2))) v)
carry_by r s o t u v true true e old =
    tracks_place r s o t (λ c. sources_by (own_flow Time1) c (here c)) (place_spots (place_of Time2)) u v (place_of Time2)
    (extend (pinc (count_of u Time2)).word) (extend (pinc (count_of v Time2)).word) old
    (λ h i. extend (pinc (count_same r u o v Time2 (later_same r s o t u v old h) i)).word)
carry_by r s o t u v true false e old = absurd (cc)
carry_by r s o t u v false true e old = absurd (cc)
carry_by r s o t u v false false e old = old

none_carried : (fs : List Flow) (b : Bool) (c : ℕ) → sources_by (fs ++ cond b [] []) c (here c) ≡ sources_by fs c (here c)
none_carried fs true c = sources_append fs [] c (here c)
none_carried fs false c = sources_append fs [] c (here c)

carried_tracks : (r : Words) (s : State) (o : Words) (t : State) (counter : Counter) (u v : State) (x y : Carry)
    → is_overflow x ≡ is_overflow y
    → Tracks r s o t (λ c. sources_by (own_flow counter) c (here c)) u v
    → Tracks r s o t (λ c. sources_by (own_flow counter ++ cond (is_overflow x) (carry_flows (carries_into counter)) []) c (here c))
    (carried u (carries_into counter) x) (carried v (carries_into counter) y)
carried_tracks r s o t Time1 u v x y e old = carry_by r s o t u v (is_overflow x) (is_overflow y) e old
carried_tracks r s o t counter u v x y e old = λ c h. old c
    (subst (λ xs. Agree r s o t xs) (none_carried (own_flow counter) (is_overflow x) c) h)

input_tracks : (r : Words) (s : State) (o : Words) (t : State) (input : Input) → carries_in s input ≡ carries_in t input
    → Tracks r s o t (λ c. sources_by (input_flows input (carries_in s input)) c (here c)) (input_effect s input) (input_effect t input)
unfolding counted received
input_tracks r s o t (Count counter sequence) e = λ c h.
    let x = step_in s counter sequence in
    let y = step_in t counter sequence in
    asked_cells (carried (stepped s counter x) (carries_into counter) x.carry) (asked_after counter x) c
    ∙ carried_tracks r s o t counter (stepped s counter x) (stepped t counter y) x.carry y.carry e (stepped_tracks r s o t counter sequence)
    c h
    ∙ sym (asked_cells (carried (stepped t counter y) (carries_into counter) y.carry) (asked_after counter y) c)
input_tracks r s o t (Word n w) e = λ c h.
    asked_cells (change s (OnChannel n (extend w))) (asked_on n) c
    ∙ tracks_channel r s o t here [] s t n (extend w) (extend w) (tracks_start r s o t) (λ _. refl) c h
    ∙ sym (asked_cells (change t (OnChannel n (extend w))) (asked_on n) c)
input_tracks r s o t (Interrupt k) e = λ c h. h.0

-- an interrupt is entered
words_at_z : (r : Words) (s : State) (o : Words) (t : State) → place_in s (next_address s) ≡ place_in t (next_address t)
    → Agree r s o t (spots (place_in s (next_address s))) → word_at_z r s ≡ word_at_z o t
words_at_z r s o t e h =
    ap (λ x. correct x) (value_same r s o t (place_in s (next_address s)) h ∙ ap (λ m. value_at o t m) e)

entered_tracks : (r : Words) (s : State) (o : Words) (t : State) (k k' : ℕ) → k ≡ k'
    → at s.cells program_counter ≡ at t.cells program_counter → place_in s (next_address s) ≡ place_in t (next_address t)
    → Tracks r s o t (λ c. sources_by (flows (Enters k (at s.cells program_counter) (place_in s (next_address s)))) c (here c))
    (entered r s k) (entered o t k')
unfolding entered
entered_tracks r s o t k k' e zs d =
    let word = spots (place_in s (next_address s)) in
    let x = extend (word_at_z r s) in
    let y = extend (word_at_z o t) in
    let f2 = to_place interrupted_word word ∷ to_place interrupted_address [] ∷ [] in
    tracks_place r s o t (λ c. sources_by f2 c (here c)) []
    (changes s (AtPlace interrupted_word x ∷ AtPlace interrupted_address (following_address s) ∷ []))
    (changes t (AtPlace interrupted_word y ∷ AtPlace interrupted_address (following_address t) ∷ [])) program_counter
    (first_address + 4 * k) (first_address + 4 * k')
    (two r s o t interrupted_word word x y (λ h i. extend (words_at_z r s o t d h i))
    interrupted_address [] (following_address s) (following_address t) (λ _. nexts r s o t zs))
    (λ _ i. first_address + 4 * e i)

pub next_tracks : (r : Words) (s : State) (o : Words) (t : State) (d d' : Option (Input × Option ℕ)) (k k' : Option ℕ)
    → link_by r s d k ≡ link_by o t d' k'
    → Tracks r s o t (λ c. sources_by (flows (link_by r s d k)) c (here c)) (next_by r s d k).0 (next_by o t d' k').0
unfolding take execute executed fetched
next_tracks r s o t (Some given) (Some given') k k' e = λ c h.
    let same : given.0 ≡ given'.0 = cc in
    let carry : carries_in s given.0 ≡ carries_in t given'.0 = cc in
    let carries = carry ∙ ap (λ input. carries_in t input) (sym same) in
    input_tracks r (counted_in s given) o (counted_in t given') given.0 carries c h
    ∙ ap (λ input. at (input_effect (counted_in t given') input).cells c) same
next_tracks r s o t (Some given) None k (Some k') e = absurd (cc)
next_tracks r s o t (Some given) None k None e = absurd (cc)
next_tracks r s o t None (Some given') (Some k) k' e = absurd (cc)
next_tracks r s o t None (Some given') None k' e = absurd (cc)
next_tracks r s o t None None (Some k) (Some k') e =
    let same : k ≡ k' = cc in
    let place : place_in s (next_address s) ≡ place_in t (next_address t) = cc in
    let zs : at s.cells program_counter ≡ at t.cells program_counter = cc in
    entered_tracks r s o t k k' same zs place
next_tracks r s o t None None (Some k) None e = absurd (cc)
next_tracks r s o t None None None (Some k') e = absurd (cc)
next_tracks r s o t None None None None e =
    let code : code_of s.extra (instruction_word r s) ≡ code_of t.extra (instruction_word o t) = cc in
    let zs : at s.cells program_counter ≡ at t.cells program_counter = cc in
    let waited : is_some s.waiting_word ≡ is_some t.waiting_word = cc in
    let eb : at s.cells erasable_bank ≡ at t.cells erasable_bank = cc in
    let fb : at s.cells fixed_bank ≡ at t.cells fixed_bank = cc in
    let sup : superbank s.cells ≡ superbank t.cells = cc in
    let overflow : overflow_in (code_of s.extra (instruction_word r s)).instruction s
    ≡ overflow_in (code_of t.extra (instruction_word o t)).instruction t = cc in
    let same = overflow ∙ ap (λ (code : Code). overflow_in code.instruction t) (sym code) in
    λ c h.
    execute_tracks r s o t s.waiting_word t.waiting_word (code_of s.extra (instruction_word r s)) (at s.cells program_counter)
    (at s.cells erasable_bank) (at s.cells fixed_bank) (superbank s.cells) waited zs refl refl refl (sym eb) (sym fb) (sym sup) same c h
    ∙ ap (λ (code : Code). at (after o (fetched_by t t.waiting_word) code.instruction code.operand).cells c) code

-- the same in lists
pub alike_agree : (r : Words) (s : State) (o : Words) (t : State) (xs : List Spot) → StandAlike r s o t xs → Agree r s o t xs
alike_agree r s o t [] e = tt
alike_agree r s o t (x ∷ xs) e =
    let head : spot_word r s x ≡ spot_word o t x = cc in
    let tail : StandAlike r s o t xs = cc in
    (head, alike_agree r s o t xs tail)

pub agree_alike : (r : Words) (s : State) (o : Words) (t : State) (xs : List Spot) → Agree r s o t xs → StandAlike r s o t xs
agree_alike r s o t [] e = refl
agree_alike r s o t (x ∷ xs) e = λ i. e.0 i ∷ agree_alike r s o t xs e.1 i

agree_after : (one other : Scenario) (s t : State) (x : Spot) → link one s ≡ link other t
    → Agree one.rope s other.rope t (sources (link one s) x)
    → spot_word one.rope (next one s).0 x ≡ spot_word other.rope (next other t).0 x
unfolding link next sources
agree_after one other s t (Cell c) e h =
    next_tracks one.rope s other.rope t (due one.inputs s.taken s.cycles) (due other.inputs t.taken t.cycles) (entry s) (entry t) e c h
agree_after one other s t (InRope bank offset) e h = h.0

-- the theorem of a step
pub depends_on_sources : (one : Scenario) (s : State) (other : Scenario) (t : State) (x : Spot) → DependsOnSources one s other t x
depends_on_sources one s other t x = λ e h. agree_after one other s t x e (alike_agree one.rope s other.rope t (sources (link one s) x) h)

-- of several spots
pub agree_all : (one other : Scenario) (s t : State) (xs : List Spot) → link one s ≡ link other t
    → Agree one.rope s other.rope t (flat_map (sources (link one s)) xs)
    → Agree one.rope (next one s).0 other.rope (next other t).0 xs
agree_all one other s t [] e h = tt
agree_all one other s t (x ∷ xs) e h = (
  agree_after one other s t x e (agree_left one.rope s other.rope t (sources (link one s) x) (flat_map (sources (link one s)) xs) h),
  agree_all one other s t xs e (agree_right one.rope s other.rope t (sources (link one s) x) (flat_map (sources (link one s)) xs) h),
)

pub run_later : (scenario : Scenario) (m k : ℕ) → run scenario (m + suc k) ≡ (next scenario (run scenario (m + k))).0
run_later scenario m k = let e : m + suc k ≡ m + k + 1 = omega arith in ap (run scenario) e ∙ run-add-one scenario (m + k)

agree_on : (one : Scenario) (m : ℕ) (other : Scenario) (n k : ℕ) (xs : List Spot) → SameLinks one m other n k
    → Agree one.rope (run one m) other.rope (run other n) (origins one m k xs)
    → Agree one.rope (run one (m + k)) other.rope (run other (n + k)) xs
unfolding origins
agree_on one m other n zero xs links h =
    let e : m ≡ m + 0 = omega arith in
    let d : n ≡ n + 0 = omega arith in
    subst (λ m. Agree one.rope (run one m) other.rope (run other (n + 0)) xs) e
    (subst (λ n. Agree one.rope (run one m) other.rope (run other n) xs) d h)
agree_on one m other n (suc k) xs links h =
    subst (λ (u : State). Agree one.rope u other.rope (run other (n + suc k)) xs) (sym (run_later one m k))
    (subst (λ (v : State). Agree one.rope (next one (run one (m + k))).0 other.rope v xs) (sym (run_later other n k))
    (agree_all one other (run one (m + k)) (run other (n + k)) xs (links k (omega arith))
    (agree_on one m other n k (flat_map (sources (link one (run one (m + k)))) xs) (λ j lt. links j (omega arith)) h)))

-- the theorem of many steps
pub depends_on_origins : (one : Scenario) (m : ℕ) (other : Scenario) (n k : ℕ) (xs : List Spot) → DependsOnOrigins one m other n k xs
depends_on_origins one m other n k xs = λ links h.
    agree_alike one.rope (run one (m + k)) other.rope (run other (n + k)) xs
    (agree_on one m other n k xs links (alike_agree one.rope (run one m) other.rope (run other n) (origins one m k xs) h))

-- what controls fixes the link
abbrev link_parts : Bool → Option (Input × Option ℕ) → Option ℕ → ℕ → Linear → Code → Bool → ℕ → ℕ → Bool → Overflow → Link
link_parts carries (Some given) k z word code waited eb fb sup overflow = Takes given.0 carries
link_parts carries None (Some k) z word code waited eb fb sup overflow = Enters k z word
link_parts carries None None z word code waited eb fb sup overflow = Executes z code waited eb fb sup overflow

-- how A overflows, where TS is executed
abbrev overflow_by : Instruction → Overflow → Overflow
overflow_by Ts x = x
overflow_by instruction x = No

by_overflow : (i : Instruction) (x : ℕ) → overflow_of i x ≡ overflow_by i (over x)
by_overflow i x = search rules

parted : (r : Words) (s : State) (d : Option (Input × Option ℕ)) (k : Option ℕ)
    → link_by r s d k
    ≡ link_parts (carried_by_due s d) d k (at s.cells program_counter) (place_in s (next_address s))
    (code_of s.extra (instruction_word r s)) (is_some s.waiting_word)
    (at s.cells erasable_bank) (at s.cells fixed_bank) (superbank s.cells)
    (overflow_by (code_of s.extra (instruction_word r s)).instruction (over (accumulator_of s)))
parted r s (Some given) k = refl
parted r s None (Some k) = refl
parted r s None None =
    let code = code_of s.extra (instruction_word r s) in
    ap (λ x. Executes (at s.cells program_counter) code (is_some s.waiting_word) (at s.cells erasable_bank) (at s.cells fixed_bank)
    (superbank s.cells) x)
    (by_overflow code.instruction (accumulator_of s))

pub control_fixes_link : (one : Scenario) (s : State) (other : Scenario) (t : State) → ControlFixesLink one s other t
unfolding link entry instruction_word place_in superbank
control_fixes_link one s other t = λ c.
    let banks = alike_agree one.rope s other.rope t
    (Cell program_counter ∷ Cell erasable_bank ∷ Cell fixed_bank ∷ Cell (channel_cell superbank_channel) ∷ []) c.banks in
    let zs : next_address s ≡ next_address t = get_same one.rope s other.rope t program_counter (banks.0, tt) in
    let sups : superbank s.cells ≡ superbank t.cells = λ i. banks.1.1.1.0 i / 0o100 % 2 == 1 in
    let places : place_in s (next_address s) ≡ place_in t (next_address t) = λ i. place (zs i) (banks.1.0 i) (banks.1.1.0 i) (sups i) in
    let words : word_at_z one.rope s ≡ word_at_z other.rope t = words_at_z one.rope s other.rope t places
    (alike_agree one.rope s other.rope t (spots (place_in s (next_address s))) c.fetched) in
    let entries : entry s ≡ entry t =
    λ i. cond (c.inhibit i || c.inside i || c.extra i || is_some (c.sum i) || is_some (c.word i) || has_overflow (c.overflow i)) None
    (least_request (c.requests i)) in
    let executes : instruction_word one.rope s ≡ instruction_word other.rope t = λ i. with_sum (c.sum i) (unwrap_or (c.word i) (words i)) in
    parted one.rope s (due one.inputs s.taken s.cycles) (entry s)
    ∙ (λ i. link_parts (c.carries i) (c.due i) (entries i) (banks.0 i) (places i) (code_of (c.extra i) (executes i)) (is_some (c.word i))
    (banks.1.0 i) (banks.1.1.0 i) (sups i)
    (overflow_by (code_of (c.extra i) (executes i)).instruction (c.overflow i)))
    ∙ sym (parted other.rope t (due other.inputs t.taken t.cycles) (entry t))
