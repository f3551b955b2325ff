-- What no instruction's flows are into stays.
use Rattle.std.proofs.Common.{◌≡◌, ℕ, ◌+◌, ◌*◌, Bool, true, false, cond, not, ◌&&◌, ◌==◌, List, [], ◌∷◌, ◌++◌, Option, Some, None, refl, ap}
use Rattle.std.proofs.Common.{◌∙◌, sym, subst}
use Rattle.std.specs.Prelude.{nat_le, is_some}
use Rattle.words.specs.Numbers.{extend, correct, sum, neg_wide}
use Rattle.words.specs.Signs.{over, is_zero, is_minus_wide}
use Rattle.words.specs.Counters.{pinc}
use Rattle.words.specs.declared.counters.Carry.{Carry}
use Rattle.rope.specs.Places.{Words}
use Rattle.space.specs.Cells.{at, get, put, superbank, accumulator, return_address, lower_accumulator, program_counter, cycle_right}
use Rattle.space.specs.Cells.{edit_opcode, erasable_bank, fixed_bank}
use Rattle.space.specs.Places.{place}
use Rattle.space.specs.declared.place.Linear.{Linear}
use Rattle.space.specs.declared.place.Linear.TheVariants.{Erasable, Fixed}
use Rattle.feed.specs.declared.input.Counter.{Counter}
use Rattle.feed.specs.declared.input.Input.{Input}
use Rattle.feed.specs.declared.input.Input.TheVariants.{Count, Word, Interrupt}
use Rattle.feed.specs.Merged.{due}
use Rattle.cpu.specs.declared.instruction.Instruction.{Instruction}
use Rattle.cpu.specs.declared.instruction.Instruction.TheVariants.{Relint, Inhint, Extend, Resume, Tc, Ccs, Tcf, Das, Lxch, Incr, Ads, Ca}
use Rattle.cpu.specs.declared.instruction.Instruction.TheVariants.{Cs, Index, Dxch, Ts, Xch, Ad, Mask, Read, Write, Rand, Wand, Ror, Wor}
use Rattle.cpu.specs.declared.instruction.Instruction.TheVariants.{Rxor, Edrupt, Dv, Bzf, Msu, Qxch, Aug, Dim, Dca, Dcs, Su, Bzmf, Mp}
use Rattle.feed.specs.Counters.{counter_place}
use Rattle.cpu.specs.State.{State, Scenario, interrupted_word, interrupted_address, first_address}
use Rattle.cpu.specs.Codes.{code_of}
use Rattle.cpu.specs.Effects.{Change, change, changes, value_at, edits, place_in, erasable_in, erasable_number, accumulator_of, lower_of}
use Rattle.cpu.specs.Effects.{carry, exchange, next_address, first_of, greatest_short, greatest_address, has_overflow, is_at_zero}
use Rattle.cpu.specs.Effects.{is_at_zero_or_minus, after, tc, ccs, tcf, ca, cs, ad, su, mask, ts, xch, lxch, qxch, dxch, ads, incr, aug}
use Rattle.cpu.specs.Effects.{dim, das, dca, dcs, index, mp, dv, msu, bzf, bzmf, read, write, rand, ror, rxor, wand, wor, relint, inhint}
use Rattle.cpu.specs.Effects.{resume}
use Rattle.cpu.specs.Effects.Change.{AtPlace, OnChannel, Inhibits, Serves, WaitsWithSum, WaitsWithWord}
use Rattle.cpu.specs.Inputs.{take, input_effect, counted, received, asked_after, asked_on, carried, carries_into, stepped, step_of}
use Rattle.cpu.specs.Inputs.{count_of, is_overflow}
use Rattle.cpu.specs.Next.{fetched, executed, execute, instruction_word, entry, entered, word_at_z, following_address, next_by, next}
use Rattle.cpu.specs.declared.spot.Spot.TheVariants.{Cell}
use Rattle.cpu.specs.declared.spot.Spot.{Spot}
use Rattle.cpu.specs.Links.{carries_in, place_spots, Flow, to_place, place_cells, cell_of_channel, is_in, targets_by, overflow_of}
use Rattle.cpu.specs.Links.{overflow_in, edit_flows, das_flows, flows_of, fetch_flows, input_flows, carry_flows, link_by, link, flows}
use Rattle.cpu.specs.Links.{targets}
use Rattle.cpu.specs.Dependence.{LeavesRest}
use Rattle.cpu.proofs.RunLaws.{counted_in}
use Rattle.cpu.proofs.Trails.{not_first, not_second}
use Rattle.cpu.proofs.Flowing.{put_miss, channel_miss}
use Rattle.cpu.proofs.Following.{Leads, number, ts_list, may_miss}
use Rattle.cpu.proofs.Linking.{fetched_by, fetched_place, fetched_a, asked_cells}

-- no change reaches a cell
abbrev Misses : ℕ → List Change → Type 0
Misses c [] = Unit {0}
Misses c (AtPlace p x ∷ cs) = (is_in c (place_cells p) ≡ false) × Misses c cs
Misses c (OnChannel n x ∷ cs) = (is_in c (cell_of_channel n ∷ []) ≡ false) × Misses c cs
Misses c (_ ∷ cs) = Misses c cs

stays : (c : ℕ) (cs : List Change) (s : State) → Misses c cs → at (changes s cs).cells c ≡ at s.cells c
stays c [] s m = refl
stays c (AtPlace p x ∷ cs) s m = stays c cs (change s (AtPlace p x)) m.1 ∙ put_miss s.cells p x c m.0
stays c (OnChannel n x ∷ cs) s m = stays c cs (change s (OnChannel n x)) m.1 ∙ channel_miss s.cells n x c m.0
stays c (Inhibits b ∷ cs) s m = stays c cs (change s (Inhibits b)) m
stays c (Serves b ∷ cs) s m = stays c cs (change s (Serves b)) m
stays c (WaitsWithSum x ∷ cs) s m = stays c cs (change s (WaitsWithSum x)) m
stays c (WaitsWithWord w ∷ cs) s m = stays c cs (change s (WaitsWithWord w)) m

misses_append : (c : ℕ) (cs ds : List Change) → Misses c cs → Misses c ds → Misses c (cs ++ ds)
misses_append c [] ds m n = n
misses_append c (AtPlace p x ∷ cs) ds m n = (m.0, misses_append c cs ds m.1 n)
misses_append c (OnChannel k x ∷ cs) ds m n = (m.0, misses_append c cs ds m.1 n)
misses_append c (Inhibits b ∷ cs) ds m n = misses_append c cs ds m n
misses_append c (Serves b ∷ cs) ds m n = misses_append c cs ds m n
misses_append c (WaitsWithSum x ∷ cs) ds m n = misses_append c cs ds m n
misses_append c (WaitsWithWord w ∷ cs) ds m n = misses_append c cs ds m n

-- no flow is into a cell
abbrev pub Spared : ℕ → List Flow → Type 0
Spared c [] = Unit {0}
Spared c (f ∷ fs) = (is_in c f.into ≡ false) × Spared c fs

spared : (c : ℕ) (fs : List Flow) → is_in c (targets_by fs) ≡ false → Spared c fs
spared c [] h = tt
spared c (f ∷ fs) h = (not_first c f.into (targets_by fs) h, spared c fs (not_second c f.into (targets_by fs) h))

spared_first : (c : ℕ) (fs gs : List Flow) → Spared c (fs ++ gs) → Spared c fs
spared_first c [] gs h = tt
spared_first c (f ∷ fs) gs h = (h.0, spared_first c fs gs h.1)

spared_second : (c : ℕ) (fs gs : List Flow) → Spared c (fs ++ gs) → Spared c gs
spared_second c [] gs h = h
spared_second c (f ∷ fs) gs h = spared_second c fs gs h.1

edits_by : (c p x : ℕ) (from : List Spot) (b : Bool) → Spared c (cond b (to_place p from ∷ []) []) → Misses c (cond b (AtPlace p x ∷ []) [])
edits_by c p x from true h = (h.0, tt)
edits_by c p x from false h = tt

edits_miss : (c : ℕ) (l : Linear) (x : ℕ) → Spared c (edit_flows l) → Misses c (edits l x)
unfolding edits
edits_miss c (Erasable p) x h = edits_by c p x (place_spots p) (nat_le cycle_right p && nat_le p edit_opcode) h
edits_miss c (Fixed bank offset) x h = tt

edits_at : (c : ℕ) (m l : Linear) (x : ℕ) → m ≡ l → Spared c (edit_flows l) → Misses c (edits m x)
edits_at c m l x e h = subst (λ m. Misses c (edits m x)) (sym e) (edits_miss c l x h)

place_at : (c m p : ℕ) → m ≡ p → is_in c (place_cells p) ≡ false → is_in c (place_cells m) ≡ false
place_at c m p e h = subst (λ m. is_in c (place_cells m) ≡ false) (sym e) h

edited : (r : Words) (s : State) (lead : ℕ → Linear) (k : ℕ) → Leads s lead → (c : ℕ) → Spared c (edit_flows (lead k))
    → Misses c (edits (place_in s k) (value_at r s (place_in s k)))
edited r s lead k e c h = edits_at c (place_in s k) (lead k) (value_at r s (place_in s k)) (e k) h

edited_two : (r : Words) (s : State) (lead : ℕ → Linear) (j k : ℕ) → Leads s lead → (c : ℕ)
    → Spared c (edit_flows (lead j) ++ edit_flows (lead k))
    → Misses c (edits (place_in s j) (value_at r s (place_in s j)) ++ edits (place_in s k) (value_at r s (place_in s k)))
edited_two r s lead j k e c h =
    misses_append c (edits (place_in s j) (value_at r s (place_in s j))) (edits (place_in s k) (value_at r s (place_in s k)))
    (edited r s lead j e c (spared_first c (edit_flows (lead j)) (edit_flows (lead k)) h))
    (edited r s lead k e c (spared_second c (edit_flows (lead j)) (edit_flows (lead k)) h))

missed : (s : State) (lead : ℕ → Linear) (k : ℕ) → Leads s lead → (c : ℕ) → is_in c (place_cells (erasable_number (lead k))) ≡ false
    → is_in c (place_cells (erasable_in s k)) ≡ false
missed s lead k e c h = place_at c (erasable_in s k) (erasable_number (lead k)) (number s lead e k) h

-- what an instruction's flows are not into stays
abbrev pub Stays : Words → State → (ℕ → Linear) → Instruction → ℕ → Type 0
Stays r s lead i k = (c : ℕ) → Spared c (flows_of lead (overflow_in i s) i k) → at (after r s i k).cells c ≡ at s.cells c

dim_by : (s : State) (p c : ℕ) (b : Bool) (x : ℕ) → is_in c (place_cells p) ≡ false
    → at (changes s (cond b [] (AtPlace p x ∷ []))).cells c ≡ at s.cells c
dim_by s p c true x h = refl
dim_by s p c false x h = put_miss s.cells p x c h

tc_by : (s : State) (k c : ℕ) (b : Bool) → Spared c
    (cond b (to_place program_counter [] ∷ []) (to_place return_address [] ∷ to_place program_counter [] ∷ []))
    → at (changes s (cond b (AtPlace program_counter k ∷ [])
    (AtPlace return_address (next_address s) ∷ AtPlace program_counter k ∷ []))).cells c ≡ at s.cells c
tc_by s k c true h = put_miss s.cells program_counter k c h.0
tc_by s k c false h = stays c (AtPlace return_address (next_address s) ∷ AtPlace program_counter k ∷ []) s (h.0, (h.1.0, tt))

das_by : (s : State) (p p' c x y z w : ℕ) (b : Bool) (f f' g g' : List Spot)
    → Spared c (cond b (to_place lower_accumulator f ∷ to_place accumulator g ∷ [])
    (to_place p' f ∷ to_place p g ∷ to_place lower_accumulator f' ∷ to_place accumulator g' ∷ []))
    → at (changes s (cond b (AtPlace lower_accumulator x ∷ AtPlace accumulator y ∷ [])
    (AtPlace p' x ∷ AtPlace p z ∷ AtPlace lower_accumulator 0 ∷ AtPlace accumulator w ∷ []))).cells c ≡ at s.cells c
das_by s p p' c x y z w true f f' g g' h = stays c (AtPlace lower_accumulator x ∷ AtPlace accumulator y ∷ []) s (h.0, (h.1.0, tt))
das_by s p p' c x y z w false f f' g g' h =
    stays c (AtPlace p' x ∷ AtPlace p z ∷ AtPlace lower_accumulator 0 ∷ AtPlace accumulator w ∷ []) s
    (h.0, (h.1.0, (h.1.1.0, (h.1.1.1.0, tt))))

abbrev das_list : State → ℕ → ℕ → List Change
das_list s p p' =
    let x = sum (lower_of s) (get s.cells p') in
    let y = sum (sum (accumulator_of s) (get s.cells p)) (carry (over x)) in
    cond (p == accumulator) (AtPlace lower_accumulator (extend (correct x)) ∷ AtPlace accumulator y ∷ [])
    (AtPlace p' (extend (correct x)) ∷ AtPlace p (extend (correct y)) ∷ AtPlace lower_accumulator 0 ∷ AtPlace accumulator (carry (over y))
    ∷ [])

das_at : (s : State) (m n p p' c : ℕ) → m ≡ p → n ≡ p' → Spared c (das_flows p p') → at (changes s (das_list s m n)).cells c ≡ at s.cells c
das_at s m n p p' c e d h =
    subst (λ m. at (changes s (das_list s m n)).cells c ≡ at s.cells c) (sym e)
    (subst (λ n. at (changes s (das_list s p n)).cells c ≡ at s.cells c) (sym d)
    (let x = sum (lower_of s) (get s.cells p') in
    let y = sum (sum (accumulator_of s) (get s.cells p)) (carry (over x)) in
    let lows = Cell lower_accumulator ∷ place_spots p' in
    let all = Cell accumulator ∷ place_spots p ++ lows in
    das_by s p p' c (extend (correct x)) y (extend (correct y)) (carry (over y)) (p == accumulator) lows [] all all h))

ts_stays : (s : State) (m p x k c : ℕ) (b d e : Bool) → m ≡ p
    → Spared c (cond b (to_place p (Cell accumulator ∷ []) ∷ []) (cond d (to_place program_counter [] ∷ [])
    (cond e (to_place p (Cell accumulator ∷ []) ∷ to_place accumulator [] ∷ [])
    (to_place p (Cell accumulator ∷ []) ∷ to_place accumulator [] ∷ to_place program_counter [] ∷ []))))
    → at (changes s (ts_list x k m b d e)).cells c ≡ at s.cells c
ts_stays s m p x k c true d e same h = put_miss s.cells m x c (place_at c m p same h.0)
ts_stays s m p x k c false true e same h = put_miss s.cells program_counter k c h.0
ts_stays s m p x k c false false true same h =
    stays c (AtPlace m (extend (correct x)) ∷ AtPlace accumulator (carry (over x)) ∷ []) s (place_at c m p same h.0, (h.1.0, tt))
ts_stays s m p x k c false false false same h =
    stays c (AtPlace m (extend (correct x)) ∷ AtPlace accumulator (carry (over x)) ∷ AtPlace program_counter k ∷ []) s
    (place_at c m p same h.0, (h.1.0, (h.1.1.0, tt)))

-- each instruction
pub leaves : (r : Words) (s : State) (lead : ℕ → Linear) (i : Instruction) (k : ℕ) → Leads s lead → Stays r s lead i k
unfolding after resume tc ccs tcf das lxch incr ads ca cs index dxch ts xch ad mask read write rand wand ror wor rxor dv bzf msu qxch aug
    dim dca dcs su bzmf mp relint inhint
leaves r s lead Relint k e = λ c h. refl
leaves r s lead Inhint k e = λ c h. refl
leaves r s lead Extend k e = λ c h. refl
leaves r s lead Resume k e = λ c h. stays c (resume s) s (h.0, tt)
leaves r s lead Tc k e = λ c h. tc_by s k c (k == return_address) h
leaves r s lead Ccs k e = λ c h. stays c (ccs r s k) s (h.0, (h.1.0, edited r s lead k e c h.1.1))
leaves r s lead Tcf k e = λ c h. stays c (tcf k) s (h.0, tt)
leaves r s lead Das k e =
    λ c h. das_at s (erasable_in s (first_of greatest_short k)) (erasable_in s k) (erasable_number (lead (first_of greatest_short k)))
    (erasable_number (lead k)) c (number s lead e (first_of greatest_short k)) (number s lead e k) h
leaves r s lead Lxch k e = λ c h. stays c (lxch s k) s (h.0, (missed s lead k e c h.1.0, tt))
leaves r s lead Incr k e = λ c h. stays c (incr s k) s (missed s lead k e c h.0, tt)
leaves r s lead Ads k e = λ c h. stays c (ads s k) s (missed s lead k e c h.0, (h.1.0, tt))
leaves r s lead Ca k e = λ c h. stays c (ca r s k) s (h.0, edited r s lead k e c h.1)
leaves r s lead Cs k e = λ c h. stays c (cs r s k) s (h.0, edited r s lead k e c h.1)
leaves r s lead Index k e = λ c h. stays c (index r s k) s (edited r s lead k e c h)
leaves r s lead Dxch k e = λ c h.
    let u = changes s (exchange s lower_accumulator (erasable_in s k)) in
    stays c (exchange u accumulator (erasable_in s (first_of greatest_short k))) u
    (h.1.1.0, (missed s lead (first_of greatest_short k) e c h.1.1.1.0, tt))
    ∙ stays c (exchange s lower_accumulator (erasable_in s k)) s (h.0, (missed s lead k e c h.1.0, tt))
leaves r s lead Ts k e = λ c h.
    let p = erasable_number (lead k) in
    let x = accumulator_of s in
    ap (λ m. at (changes s (ts_list x (next_address s + 1) (erasable_in s k) (not (has_overflow (over x))) (m == accumulator)
    (m == program_counter))).cells c) (number s lead e k)
    ∙ ts_stays s (erasable_in s k) p x (next_address s + 1) c (not (has_overflow (over x))) (p == accumulator) (p == program_counter)
    (number s lead e k) h
leaves r s lead Xch k e = λ c h. stays c (xch s k) s (h.0, (missed s lead k e c h.1.0, tt))
leaves r s lead Ad k e = λ c h. stays c (ad r s k) s (h.0, edited r s lead k e c h.1)
leaves r s lead Mask k e = λ c h. stays c (mask r s k) s (h.0, edited r s lead k e c h.1)
leaves r s lead Read k e = λ c h. stays c (read s k) s (h.0, tt)
leaves r s lead Write k e = λ c h. stays c (write s k) s (h.0, tt)
leaves r s lead Rand k e = λ c h. stays c (rand s k) s (h.0, tt)
leaves r s lead Wand k e = λ c h. stays c (wand s k) s (h.0, (h.1.0, tt))
leaves r s lead Ror k e = λ c h. stays c (ror s k) s (h.0, tt)
leaves r s lead Wor k e = λ c h. stays c (wor s k) s (h.0, (h.1.0, tt))
leaves r s lead Rxor k e = λ c h. stays c (rxor s k) s (h.0, tt)
leaves r s lead Edrupt k e = λ c h. refl
leaves r s lead Dv k e = λ c h. stays c (dv r s k) s (h.0, (h.1.0, edited r s lead k e c h.1.1))
leaves r s lead Bzf k e = λ c h. may_miss s program_counter k c (is_at_zero s) h.0
leaves r s lead Msu k e = λ c h. stays c (msu r s k) s (h.0, edited r s lead k e c h.1)
leaves r s lead Qxch k e = λ c h. stays c (qxch s k) s (h.0, (missed s lead k e c h.1.0, tt))
leaves r s lead Aug k e = λ c h. stays c (aug s k) s (missed s lead k e c h.0, tt)
leaves r s lead Dim k e =
    λ c h. let x = get s.cells (erasable_in s k) in dim_by s (erasable_in s k) c (is_zero x) (sum x (cond (is_minus_wide x) 1 (neg_wide 1)))
    (missed s lead k e c h.0)
leaves r s lead Dca k e = λ c h. stays c (dca r s k) s (h.0, (h.1.0, edited_two r s lead (first_of greatest_address k) k e c h.1.1))
leaves r s lead Dcs k e = λ c h. stays c (dcs r s k) s (h.0, (h.1.0, edited_two r s lead (first_of greatest_address k) k e c h.1.1))
leaves r s lead Su k e = λ c h. stays c (su r s k) s (h.0, edited r s lead k e c h.1)
leaves r s lead Bzmf k e = λ c h. may_miss s program_counter k c (is_at_zero_or_minus s) h.0
leaves r s lead Mp k e = λ c h. stays c (mp r s k) s (h.0, (h.1.0, edited r s lead k e c h.1.1))

-- the fetch
pub fetch_leaves : (s : State) (w : Option ℕ) (c : ℕ) → Spared c (fetch_flows (is_some w)) → at (fetched_by s w).cells c ≡ at s.cells c
fetch_leaves s (Some w) c h = refl
fetch_leaves s None c h = put_miss s.cells program_counter (following_address s) c h.0

-- an input
carry_by : (s : State) (other : Option Counter) (x : Carry) (c : ℕ) (b : Bool) → is_overflow x ≡ b
    → Spared c (cond b (carry_flows other) []) → at (carried s other x).cells c ≡ at s.cells c
carry_by s None x c b e h = refl
carry_by s (Some other) x c true e h =
    ap (λ b. at (cond b (stepped s other (pinc (count_of s other))) s).cells c) e
    ∙ put_miss s.cells (counter_place other) (extend (pinc (count_of s other)).word) c h.0
carry_by s (Some other) x c false e h = ap (λ b. at (cond b (stepped s other (pinc (count_of s other))) s).cells c) e

input_leaves : (s : State) (input : Input) (c : ℕ) → Spared c (input_flows input (carries_in s input))
    → at (input_effect s input).cells c ≡ at s.cells c
unfolding counted received
input_leaves s (Count counter sequence) c h =
    let step = step_of sequence (count_of s counter) in
    let t = stepped s counter step in
    asked_cells (carried t (carries_into counter) step.carry) (asked_after counter step) c
    ∙ carry_by t (carries_into counter) step.carry c (is_overflow step.carry) refl h.1
    ∙ put_miss s.cells (counter_place counter) (extend step.word) c h.0
input_leaves s (Word n w) c h = asked_cells (change s (OnChannel n (extend w))) (asked_on n) c ∙ channel_miss s.cells n (extend w) c h.0
input_leaves s (Interrupt k) c h = refl

next_leaves : (r : Words) (s : State) (d : Option (Input × Option ℕ)) (k : Option ℕ) (c : ℕ) → Spared c (flows (link_by r s d k))
    → at (next_by r s d k).0.cells c ≡ at s.cells c
unfolding take execute executed fetched entered
next_leaves r s (Some given) k c h = input_leaves (counted_in s given) given.0 c h
next_leaves r s None (Some k) c h =
    put_miss (put (put s.cells interrupted_word (extend (word_at_z r s))) interrupted_address (following_address s)) program_counter
    (first_address + 4 * k) c h.1.1.0
    ∙ put_miss (put s.cells interrupted_word (extend (word_at_z r s))) interrupted_address (following_address s) c h.1.0
    ∙ put_miss s.cells interrupted_word (extend (word_at_z r s)) c h.0
next_leaves r s None None c h =
    let code = code_of s.extra (instruction_word r s) in
    let lead = λ (k : ℕ). place k (at s.cells erasable_bank) (at s.cells fixed_bank) (superbank s.cells) in
    let fs = fetch_flows (is_some s.waiting_word) in
    let gs = flows_of lead (overflow_in code.instruction s) code.instruction code.operand in
    let same : overflow_in code.instruction s ≡ overflow_in code.instruction (fetched_by s s.waiting_word) = ap
    (overflow_of code.instruction) (sym (fetched_a s s.waiting_word)) in
    leaves r (fetched_by s s.waiting_word) lead code.instruction code.operand (λ k. fetched_place s s.waiting_word k) c
    (subst (λ x. Spared c (flows_of lead x code.instruction code.operand)) same (spared_second c fs gs h))
    ∙ fetch_leaves s s.waiting_word c (spared_first c fs gs h)

pub leaves_rest : (scenario : Scenario) (s : State) (c : ℕ) → LeavesRest scenario s c
unfolding link next targets
leaves_rest scenario s c = λ h.
    next_leaves scenario.rope s (due scenario.inputs s.taken s.cycles) (entry s) c
    (spared c (flows (link_by scenario.rope s (due scenario.inputs s.taken s.cycles) (entry s))) h)
