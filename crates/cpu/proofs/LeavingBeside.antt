-- From what comes what a step leaves beside the cells.
use Rattle.std.proofs.Common.{◌≡◌, ℕ, ◌+◌, Bool, true, false, cond, not, ◌==◌, ◌||◌, ◌&&◌, List, [], ◌∷◌, ◌++◌, Option, Some, None, refl}
use Rattle.std.proofs.Common.{ap, ◌∙◌, sym, subst}
use Rattle.std.specs.Prelude.{nat_le, is_some}
use Rattle.std.specs.List.{flat_map}
use Rattle.words.specs.declared.counters.Carry.{Carry}
use Rattle.words.specs.Numbers.{extend, correct}
use Rattle.words.specs.Signs.{over, is_zero}
use Rattle.words.specs.Counters.{pinc}
use Rattle.rope.specs.Places.{Words}
use Rattle.space.specs.Cells.{at, get, get_channel, superbank, accumulator, return_address, program_counter, lower_accumulator_channel}
use Rattle.space.specs.Cells.{return_address_channel, superbank_channel, erasable_bank, fixed_bank, cycle_right, edit_opcode}
use Rattle.space.specs.Places.{place}
use Rattle.space.specs.declared.place.Linear.{Linear}
use Rattle.space.specs.declared.place.Linear.TheVariants.{Erasable, Fixed}
use Rattle.feed.specs.declared.input.Counter.{Counter}
use Rattle.feed.specs.declared.input.Input.{Input}
use Rattle.feed.specs.declared.input.Input.TheVariants.{Count, Word, Interrupt}
use Rattle.feed.specs.Merged.{due}
use Rattle.cpu.specs.declared.instruction.Instruction.{Instruction}
use Rattle.cpu.specs.declared.instruction.Instruction.TheVariants.{Resume, Tc, Ccs, Das, Ca, Cs, Index, Ts, Ad, Mask, Dv, Bzf, Msu, Dim}
use Rattle.cpu.specs.declared.instruction.Instruction.TheVariants.{Dca, Dcs, Su, Bzmf, Mp}
use Rattle.cpu.specs.declared.instruction.Role.{Role}
use Rattle.cpu.specs.declared.instruction.Role.TheVariants.{PutsOut}
use Rattle.cpu.specs.declared.output.Output.{Output}
use Rattle.cpu.specs.State.{State, Scenario, interrupted_word}
use Rattle.cpu.specs.Codes.{Code, code_of, row_of}
use Rattle.cpu.specs.Effects.{Change, change, changes, value_at, edits, place_in, erasable_in, accumulator_of, first_of, greatest_short}
use Rattle.cpu.specs.Effects.{has_overflow, is_at_zero, is_at_zero_or_minus, after, tc, ccs, tcf, ca, cs, ad, su, mask, ts, xch, lxch, qxch}
use Rattle.cpu.specs.Effects.{dxch, ads, incr, aug, dim, das, dca, dcs, index, mp, dv, msu, bzf, bzmf, read, write, rand, ror, rxor, wand}
use Rattle.cpu.specs.Effects.{wor, relint, inhint, resume}
use Rattle.cpu.specs.Effects.Change.{AtPlace, OnChannel, WaitsWithSum}
use Rattle.cpu.specs.Inputs.{take, input_effect, counted, received, asked, asked_after, asked_on, carried, carries_into, stepped, step_of}
use Rattle.cpu.specs.Inputs.{count_of, is_overflow}
use Rattle.cpu.specs.Next.{fetched, executed, execute, instruction_word, entry, entered, next_by, next, written_by, jumps_by, jump_cycles}
use Rattle.cpu.specs.Next.{cycles_of, written_channel, output_on}
use Rattle.cpu.specs.Links.{cell_of_channel, sources_by, flows, link_by, link, sources}
use Rattle.cpu.specs.Beside.{is_instruction, index_spots, resume_spots, sum_sources, word_sources, SumDependsOnSources}
use Rattle.cpu.specs.Beside.{WordDependsOnSources, output_channel, channel_spots_of, OutputDependsOnSources}
use Rattle.cpu.proofs.RunLaws.{counted_in}
use Rattle.cpu.proofs.ChangeLaws.{changes_append}
use Rattle.cpu.proofs.Flowing.{Agree, agree_left, here, get_same, value_same, channel_same}
use Rattle.cpu.proofs.Following.{Leads}
use Rattle.cpu.proofs.Linking.{fetched_by, fetched_place, fetched_agree, next_tracks, alike_agree}

-- what waits is as it was
abbrev pub Keeps : State → State → Type 0
Keeps s u = (u.waiting_sum ≡ s.waiting_sum) × (u.waiting_word ≡ s.waiting_word)

cond_keeps : (s : State) (b : Bool) (cs ds : List Change) → Keeps s (changes s cs) → Keeps s (changes s ds)
    → Keeps s (changes s (cond b cs ds))
cond_keeps s true cs ds first second = first
cond_keeps s false cs ds first second = second

edits_keep : (u : State) (l : Linear) (x : ℕ) → Keeps u (changes u (edits l x))
unfolding edits
edits_keep u (Erasable p) x = cond_keeps u (nat_le cycle_right p && nat_le p edit_opcode) (AtPlace p x ∷ []) [] (refl, refl) (refl, refl)
edits_keep u (Fixed bank offset) x = (refl, refl)

two_edits_keep : (u : State) (l m : Linear) (x y : ℕ) → Keeps u (changes u (edits l x ++ edits m y))
two_edits_keep u l m x y =
    let both = changes_append (edits l x) (edits m y) u in
    let v = changes u (edits l x) in (
      ap (λ (w : State). w.waiting_sum) both ∙ (edits_keep v m y).0 ∙ (edits_keep u l x).0,
      ap (λ (w : State). w.waiting_word) both ∙ (edits_keep v m y).1 ∙ (edits_keep u l x).1,
    )

-- what each instruction leaves waiting
abbrev pub left_sum : Words → State → Instruction → ℕ → Option ℕ
left_sum r s Index k = Some (value_at r s (place_in s k))
left_sum r s _ k = s.waiting_sum

abbrev pub left_word : State → Instruction → Option ℕ
left_word s Resume = Some (correct (get s.cells interrupted_word))
left_word s _ = s.waiting_word

abbrev pub LeavesWaiting : Words → State → Instruction → ℕ → Type 0
LeavesWaiting r s i k = ((after r s i k).waiting_sum ≡ left_sum r s i k) × ((after r s i k).waiting_word ≡ left_word s i)

pub leaves_waiting : (r : Words) (s : State) (i : Instruction) (k : ℕ) → LeavesWaiting r s i k
unfolding after resume tc ccs tcf das lxch incr ads ca cs index dxch ts xch ad mask read write rand wand ror wor rxor dv bzf msu qxch aug
    dim dca dcs su bzmf mp relint inhint
leaves_waiting r s Tc k = cond_keeps s (k == return_address) _ _ (refl, refl) (refl, refl)
leaves_waiting r s Ccs k = edits_keep _ (place_in s k) _
leaves_waiting r s Das k = cond_keeps s (erasable_in s (first_of greatest_short k) == accumulator) _ _ (refl, refl) (refl, refl)
leaves_waiting r s Ca k = edits_keep _ (place_in s k) _
leaves_waiting r s Cs k = edits_keep _ (place_in s k) _
leaves_waiting r s Index k = edits_keep (change s (WaitsWithSum (value_at r s (place_in s k)))) (place_in s k) (value_at r s (place_in s k))
leaves_waiting r s Ts k =
    cond_keeps s (not (has_overflow (over (accumulator_of s)))) _ _ (refl, refl)
    (cond_keeps s (erasable_in s k == accumulator) _ _ (refl, refl)
    (cond_keeps s (erasable_in s k == program_counter) _ _ (refl, refl) (refl, refl)))
leaves_waiting r s Ad k = edits_keep _ (place_in s k) _
leaves_waiting r s Mask k = edits_keep _ (place_in s k) _
leaves_waiting r s Dv k = edits_keep _ (place_in s k) _
leaves_waiting r s Bzf k = cond_keeps s (is_at_zero s) _ _ (refl, refl) (refl, refl)
leaves_waiting r s Msu k = edits_keep _ (place_in s k) _
leaves_waiting r s Dim k = cond_keeps s (is_zero (get s.cells (erasable_in s k))) [] _ (refl, refl) (refl, refl)
leaves_waiting r s Dca k = two_edits_keep _ _ _ _ _
leaves_waiting r s Dcs k = two_edits_keep _ _ _ _ _
leaves_waiting r s Su k = edits_keep _ (place_in s k) _
leaves_waiting r s Bzmf k = cond_keeps s (is_at_zero_or_minus s) _ _ (refl, refl) (refl, refl)
leaves_waiting r s Mp k = edits_keep _ (place_in s k) _
leaves_waiting r s instruction k = (refl, refl)

-- an input leaves what waits
asked_keeps : (s : State) (o : Option ℕ) → Keeps s (asked s o)
asked_keeps s None = (refl, refl)
asked_keeps s (Some k) = (refl, refl)

carry_keeps : (s : State) (other : Option Counter) (x : Carry) (b : Bool) → is_overflow x ≡ b → Keeps s (carried s other x)
carry_keeps s None x b e = (refl, refl)
carry_keeps s (Some other) x true e = (
  ap (λ b. (cond b (stepped s other (pinc (count_of s other))) s).waiting_sum) e,
  ap (λ b. (cond b (stepped s other (pinc (count_of s other))) s).waiting_word) e,
)
carry_keeps s (Some other) x false e = (
  ap (λ b. (cond b (stepped s other (pinc (count_of s other))) s).waiting_sum) e,
  ap (λ b. (cond b (stepped s other (pinc (count_of s other))) s).waiting_word) e,
)

pub input_keeps : (s : State) (input : Input) → Keeps s (input_effect s input)
unfolding counted received
input_keeps s (Count counter sequence) =
    let step = step_of sequence (count_of s counter) in
    let t = stepped s counter step in
    let u = carried t (carries_into counter) step.carry in
    let carries = carry_keeps t (carries_into counter) step.carry (is_overflow step.carry) refl in
    let asks = asked_keeps u (asked_after counter step) in
    (asks.0 ∙ carries.0, asks.1 ∙ carries.1)
input_keeps s (Word n w) = asked_keeps (change s (OnChannel n (extend w))) (asked_on n)
input_keeps s (Interrupt k) = (refl, refl)

-- the same is left waiting
same_sum : (r : Words) (u : State) (o : Words) (v : State) (lead : ℕ → Linear) (i : Instruction) (k : ℕ) → Leads u lead → Leads v lead
    → u.waiting_sum ≡ v.waiting_sum
    → Agree r u o v (index_spots lead i k) → left_sum r u i k ≡ left_sum o v i k
same_sum r u o v lead Index k us vs e h =
    ap Some (ap (λ l. value_at r u l) (us k) ∙ value_same r u o v (lead k) h ∙ ap (λ l. value_at o v l) (sym (vs k)))
same_sum r u o v lead instruction k us vs e h = e

same_word : (r : Words) (u : State) (o : Words) (v : State) (i : Instruction) → u.waiting_word ≡ v.waiting_word
    → Agree r u o v (resume_spots i) → left_word u i ≡ left_word v i
same_word r u o v Resume e h = λ i. Some (correct (get_same r u o v interrupted_word h i))
same_word r u o v instruction e h = e

abbrev lead_of : State → ℕ → Linear
lead_of s k = place k (at s.cells erasable_bank) (at s.cells fixed_bank) (superbank s.cells)

next_sum : (r : Words) (s : State) (o : Words) (t : State) (d d' : Option (Input × Option ℕ)) (k k' : Option ℕ)
    → link_by r s d k ≡ link_by o t d' k'
    → Agree r s o t (sum_sources (link_by r s d k)) → (is_instruction (link_by r s d k) ≡ false → s.waiting_sum ≡ t.waiting_sum)
    → (next_by r s d k).0.waiting_sum ≡ (next_by o t d' k').0.waiting_sum
unfolding take execute executed fetched entered
next_sum r s o t (Some given) (Some given') k k' e h w = (input_keeps (counted_in s given) given.0).0 ∙ w refl
    ∙ sym (input_keeps (counted_in t given') given'.0).0
next_sum r s o t (Some given) None k (Some k') e h w = absurd (cc)
next_sum r s o t (Some given) None k None e h w = absurd (cc)
next_sum r s o t None (Some given') (Some k) k' e h w = absurd (cc)
next_sum r s o t None (Some given') None k' e h w = absurd (cc)
next_sum r s o t None None (Some k) (Some k') e h w = w refl
next_sum r s o t None None (Some k) None e h w = absurd (cc)
next_sum r s o t None None None (Some k') e h w = absurd (cc)
next_sum r s o t None None None None e h w =
    let code = code_of s.extra (instruction_word r s) in
    let same : code ≡ code_of t.extra (instruction_word o t) = cc in
    let zs : at s.cells program_counter ≡ at t.cells program_counter = cc in
    let waited : is_some s.waiting_word ≡ is_some t.waiting_word = cc in
    let eb : at s.cells erasable_bank ≡ at t.cells erasable_bank = cc in
    let fb : at s.cells fixed_bank ≡ at t.cells fixed_bank = cc in
    let sup : superbank s.cells ≡ superbank t.cells = cc in
    let u = fetched_by s s.waiting_word in
    let v = fetched_by t t.waiting_word in
    let after_fetch = fetched_agree r s o t s.waiting_word t.waiting_word zs waited (index_spots (lead_of s) code.instruction code.operand)
    h in
    (leaves_waiting r u code.instruction code.operand).0
    ∙ same_sum r u o v (lead_of s) code.instruction code.operand (λ k. fetched_place s s.waiting_word k)
    (λ k. fetched_place t t.waiting_word k ∙ (λ i. place k (sym eb i) (sym fb i) (sym sup i))) refl after_fetch
    ∙ sym (leaves_waiting o v code.instruction code.operand).0
    ∙ ap (λ (code : Code). (after o v code.instruction code.operand).waiting_sum) same

next_word : (r : Words) (s : State) (o : Words) (t : State) (d d' : Option (Input × Option ℕ)) (k k' : Option ℕ)
    → link_by r s d k ≡ link_by o t d' k'
    → Agree r s o t (word_sources (link_by r s d k)) → (is_instruction (link_by r s d k) ≡ false → s.waiting_word ≡ t.waiting_word)
    → (next_by r s d k).0.waiting_word ≡ (next_by o t d' k').0.waiting_word
unfolding take execute executed fetched entered
next_word r s o t (Some given) (Some given') k k' e h w = (input_keeps (counted_in s given) given.0).1 ∙ w refl
    ∙ sym (input_keeps (counted_in t given') given'.0).1
next_word r s o t (Some given) None k (Some k') e h w = absurd (cc)
next_word r s o t (Some given) None k None e h w = absurd (cc)
next_word r s o t None (Some given') (Some k) k' e h w = absurd (cc)
next_word r s o t None (Some given') None k' e h w = absurd (cc)
next_word r s o t None None (Some k) (Some k') e h w = w refl
next_word r s o t None None (Some k) None e h w = absurd (cc)
next_word r s o t None None None (Some k') e h w = absurd (cc)
next_word r s o t None None None None e h w =
    let code = code_of s.extra (instruction_word r s) in
    let same : code ≡ code_of t.extra (instruction_word o t) = cc in
    let zs : at s.cells program_counter ≡ at t.cells program_counter = cc in
    let waited : is_some s.waiting_word ≡ is_some t.waiting_word = cc in
    let u = fetched_by s s.waiting_word in
    let v = fetched_by t t.waiting_word in
    (leaves_waiting r u code.instruction code.operand).1
    ∙ same_word r u o v code.instruction refl (fetched_agree r s o t s.waiting_word t.waiting_word zs waited (resume_spots code.instruction)
    h)
    ∙ sym (leaves_waiting o v code.instruction code.operand).1
    ∙ ap (λ (code : Code). (after o v code.instruction code.operand).waiting_word) same

pub sum_depends_on_sources : (one : Scenario) (s : State) (other : Scenario) (t : State) → SumDependsOnSources one s other t
unfolding link next
sum_depends_on_sources one s other t = λ e h w.
    let d = due one.inputs s.taken s.cycles in
    next_sum one.rope s other.rope t d (due other.inputs t.taken t.cycles) (entry s) (entry t) e
    (alike_agree one.rope s other.rope t (sum_sources (link_by one.rope s d (entry s))) h) w

pub word_depends_on_sources : (one : Scenario) (s : State) (other : Scenario) (t : State) → WordDependsOnSources one s other t
unfolding link next
word_depends_on_sources one s other t = λ e h w.
    let d = due one.inputs s.taken s.cycles in
    next_word one.rope s other.rope t d (due other.inputs t.taken t.cycles) (entry s) (entry t) e
    (alike_agree one.rope s other.rope t (word_sources (link_by one.rope s d (entry s))) h) w

-- what goes out
abbrev gone_out : ℕ → ℕ → ℕ → Option Output
gone_out n cycles x =
    cond (n == lower_accumulator_channel || n == return_address_channel || n == superbank_channel) None
    (Some (record { cycles = cycles; channel = n; word = correct x }))

out_by : (role : Role) (n : ℕ) (x y : State) → (role ≡ PutsOut → get_channel x.cells n ≡ get_channel y.cells n)
    → (role ≡ PutsOut → x.cycles ≡ y.cycles)
    → output_on x (written_by role n) ≡ output_on y (written_by role n)
out_by PutsOut n x y channel cycles = λ i. gone_out n (cycles refl i) (channel refl i)
out_by role n x y channel cycles = refl

-- the cycles of what puts out do not hang on the state
plain_cycles : (role : Role) (u v : State) (c n : ℕ) → role ≡ PutsOut
    → c + cond (jumps_by u role) jump_cycles n ≡ c + cond (jumps_by v role) jump_cycles n
plain_cycles role u v c n is = ap (λ role. c + cond (jumps_by u role) jump_cycles n) is
    ∙ ap (λ role. c + cond (jumps_by v role) jump_cycles n) (sym is)

next_out : (r : Words) (s : State) (o : Words) (t : State) (d d' : Option (Input × Option ℕ)) (k k' : Option ℕ)
    → link_by r s d k ≡ link_by o t d' k'
    → Agree r s o t (flat_map (sources (link_by r s d k)) (channel_spots_of (output_channel (link_by r s d k)))) → s.cycles ≡ t.cycles
    → (next_by r s d k).1 ≡ (next_by o t d' k').1
unfolding sources execute executed fetched
next_out r s o t (Some given) (Some given') k k' e h w = refl
next_out r s o t (Some given) None k (Some k') e h w = absurd (cc)
next_out r s o t (Some given) None k None e h w = absurd (cc)
next_out r s o t None (Some given') (Some k) k' e h w = absurd (cc)
next_out r s o t None (Some given') None k' e h w = absurd (cc)
next_out r s o t None None (Some k) (Some k') e h w = refl
next_out r s o t None None (Some k) None e h w = absurd (cc)
next_out r s o t None None None (Some k') e h w = absurd (cc)
next_out r s o t None None None None e h w =
    let code = code_of s.extra (instruction_word r s) in
    let other = code_of t.extra (instruction_word o t) in
    let same : code ≡ other = cc in
    let x = executed r (fetched s) code in
    let y = executed o (fetched t) other in
    let role = (row_of code.instruction).role in
    let n = code.operand in
    let from = sources_by (flows (link_by r s None None)) (cell_of_channel n) (here (cell_of_channel n)) in
    let channel : role ≡ PutsOut → get_channel x.cells n ≡ get_channel y.cells n = λ is.
    let agree : Agree r s o t (from ++ []) = subst
    (λ role. Agree r s o t (flat_map (sources (link_by r s None None)) (channel_spots_of (written_by role n)))) is h in
    channel_same r x o y n (next_tracks r s o t None None None None e (cell_of_channel n) (agree_left r s o t from [] agree), tt) in
    let cycles : role ≡ PutsOut → x.cycles ≡ y.cycles = λ is.
    plain_cycles role (fetched s) (fetched t) s.cycles (row_of code.instruction).cycles is
    ∙ ap (λ c. c + cycles_of (fetched t) code.instruction) w
    ∙ ap (λ (code : Code). t.cycles + cycles_of (fetched t) code.instruction) same in
    out_by role n x y channel cycles ∙ ap (λ (code : Code). output_on y (written_channel code)) same

pub output_depends_on_sources : (one : Scenario) (s : State) (other : Scenario) (t : State) → OutputDependsOnSources one s other t
unfolding link next
output_depends_on_sources one s other t = λ e h w.
    let d = due one.inputs s.taken s.cycles in
    next_out one.rope s other.rope t d (due other.inputs t.taken t.cycles) (entry s) (entry t) e
    (alike_agree one.rope s other.rope t (flat_map (sources (link_by one.rope s d (entry s)))
    (channel_spots_of (output_channel (link_by one.rope s d (entry s))))) h) w
