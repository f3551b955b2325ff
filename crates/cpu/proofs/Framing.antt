-- An instruction leaves what is not of its row, and inputs and entries what is not theirs.
use Rattle.std.proofs.Common.{◌≡◌, ◌≢◌, ℕ, ◌+◌, ◌*◌, Bool, true, false, cond, not, ◌==◌, ◌&&◌, List, [], ◌∷◌, ◌++◌, Option, None, refl, ap}
use Rattle.std.proofs.Common.{◌∙◌, sym, subst}
use Rattle.std.specs.Prelude.{nat_le, is_some}
use Rattle.std.specs.List.{flat_map}
use Rattle.words.specs.declared.wide.Overflow.{Overflow}
use Rattle.rope.specs.Places.{Words}
use Rattle.words.specs.Numbers.{extend}
use Rattle.space.specs.Cells.{at, put, accumulator, lower_accumulator, return_address, program_counter, cycle_right, edit_opcode}
use Rattle.space.specs.declared.place.Linear.{Linear}
use Rattle.space.specs.declared.place.Linear.TheVariants.{Erasable, Fixed}
use Rattle.cpu.specs.declared.instruction.Instruction.{Instruction}
use Rattle.cpu.specs.declared.instruction.Instruction.TheVariants.{Relint, Inhint, Extend, Resume, Tc, Ccs, Tcf, Das, Lxch, Incr, Ads, Ca}
use Rattle.cpu.specs.declared.instruction.Instruction.TheVariants.{Cs, Index, Dxch, Ts, Xch, Ad, Mask, Read, Write, Rand, Wand, Ror, Wor}
use Rattle.cpu.specs.declared.instruction.Instruction.TheVariants.{Rxor, Edrupt, Dv, Bzf, Msu, Qxch, Aug, Dim, Dca, Dcs, Su, Bzmf, Mp}
use Rattle.cpu.specs.declared.spot.Spot.{Spot}
use Rattle.cpu.specs.declared.spot.Spot.TheVariants.{Cell}
use Rattle.cpu.specs.declared.output.Output.{Output}
use Rattle.feed.specs.declared.input.Input.{Input}
use Rattle.cpu.specs.State.{State, Scenario, first_address, interrupted_address, interrupted_word}
use Rattle.cpu.specs.Codes.{Code}
use Rattle.cpu.specs.Effects.{place_in, erasable_number, has_overflow, first_of, greatest_short, greatest_address}
use Rattle.cpu.specs.Inputs.{take}
use Rattle.cpu.specs.Next.{extra_after, fetched, executed, entered, following_address, word_at_z}
use Rattle.cpu.specs.Links.{Flow, to_place, place_cells, place_spots, is_in, edit_flows, fetch_flows, flows_of, overflow_in}
use Rattle.cpu.specs.Frames.{Part, changed_by, edited_cells, part_cells, row_cells, KeepsRest, ChangesItsRow, InputKeepsRest}
use Rattle.cpu.specs.Frames.{EntryKeepsRest, InputsKeepRest, EntriesKeepRest}
use Rattle.cpu.proofs.Trails.{not_first, not_second}
use Rattle.cpu.proofs.Linking.{fetched_by, fetched_place}
use Rattle.cpu.proofs.Leaving.{Spared, leaves, fetch_leaves}
use Rattle.cpu.proofs.LeavingBeside as beside
use Rattle.cpu.proofs.LeavingBeside.{left_sum, left_word, leaves_waiting}
use Rattle.cpu.proofs.LeavingFlags as flags
use Rattle.cpu.proofs.LeavingFlags.{left_inhibit, left_inside, leaves_flags}
use Rattle.cpu.proofs.RunLaws.{counted_in}
use Rattle.cpu.proofs.Flowing.{put_miss}
use Rattle.cpu.proofs.StepLaws.{by_code, by_entry, by_input}
use Rattle.cpu.proofs.TakenLaws.{account-after}

-- a cell is of none of some parts
abbrev Kept : ℕ → (ℕ → Linear) → ℕ → List Part → Type 0
Kept c lead k [] = Unit {0}
Kept c lead k (p ∷ ps) = (is_in c (part_cells lead k p) ≡ false) × Kept c lead k ps

kept : (c : ℕ) (lead : ℕ → Linear) (k : ℕ) (ps : List Part) → is_in c (flat_map (part_cells lead k) ps) ≡ false → Kept c lead k ps
kept c lead k [] h = tt
kept c lead k (p ∷ ps) h =
    let others = flat_map (part_cells lead k) ps in
    (not_first c (part_cells lead k p) others h, kept c lead k ps (not_second c (part_cells lead k p) others h))

-- TC, DAS and TS, by what they tell apart
tc_spared : (c : ℕ) (b : Bool) → is_in c (place_cells program_counter) ≡ false → is_in c (place_cells return_address) ≡ false
    → Spared c (cond b (to_place program_counter [] ∷ []) (to_place return_address [] ∷ to_place program_counter [] ∷ []))
tc_spared c true z q = (z, tt)
tc_spared c false z q = (q, (z, tt))

das_spared : (c p p' : ℕ) (b : Bool) (f f' g g' : List Spot)
    → is_in c (place_cells p) ≡ false → is_in c (place_cells p') ≡ false → is_in c (place_cells accumulator) ≡ false
    → is_in c (place_cells lower_accumulator) ≡ false
    → Spared c (cond b (to_place lower_accumulator f ∷ to_place accumulator g ∷ [])
    (to_place p' f ∷ to_place p g ∷ to_place lower_accumulator f' ∷ to_place accumulator g' ∷ []))
das_spared c p p' true f f' g g' first second a l = (l, (a, tt))
das_spared c p p' false f f' g g' first second a l = (second, (first, (l, (a, tt))))

ts_spared : (c p : ℕ) (b d e : Bool) → is_in c (place_cells program_counter) ≡ false → is_in c (place_cells accumulator) ≡ false
    → is_in c (place_cells p) ≡ false
    → Spared c (cond b (to_place p (Cell accumulator ∷ []) ∷ []) (cond d (to_place program_counter [] ∷ [])
    (cond e (to_place p (Cell accumulator ∷ []) ∷ to_place accumulator [] ∷ [])
    (to_place p (Cell accumulator ∷ []) ∷ to_place accumulator [] ∷ to_place program_counter [] ∷ []))))
ts_spared c p true d e z a k = (k, tt)
ts_spared c p false true e z a k = (z, tt)
ts_spared c p false false true z a k = (k, (a, tt))
ts_spared c p false false false z a k = (k, (a, (z, tt)))

append_spared : (c : ℕ) (fs gs : List Flow) → Spared c fs → Spared c gs → Spared c (fs ++ gs)
append_spared c [] gs first second = second
append_spared c (f ∷ fs) gs first second = (first.0, append_spared c fs gs first.1 second)

edit_spared_by : (c p : ℕ) (from : List Spot) (b : Bool) → is_in c (cond b (place_cells p) []) ≡ false
    → Spared c (cond b (to_place p from ∷ []) [])
edit_spared_by c p from true h = (h, tt)
edit_spared_by c p from false h = tt

edit_spared : (c : ℕ) (l : Linear) → is_in c (edited_cells l) ≡ false → Spared c (edit_flows l)
edit_spared c (Erasable p) h = edit_spared_by c p (place_spots p) (nat_le cycle_right p && nat_le p edit_opcode) h
edit_spared c (Fixed bank offset) h = tt

edits_spared : (c : ℕ) (l m : Linear) → is_in c (edited_cells l) ≡ false → is_in c (edited_cells m) ≡ false
    → Spared c (edit_flows l ++ edit_flows m)
edits_spared c l m first second = append_spared c (edit_flows l) (edit_flows m) (edit_spared c l first) (edit_spared c m second)

fetch_spared : (c : ℕ) (b : Bool) → is_in c (program_counter ∷ []) ≡ false → Spared c (fetch_flows b)
fetch_spared c true z = tt
fetch_spared c false z = (z, tt)

-- no flow of an instruction is into a cell that is neither Z nor of its row
spares : (lead : ℕ → Linear) (o : Overflow) (i : Instruction) (k c : ℕ) → is_in c (program_counter ∷ []) ≡ false
    → Kept c lead k (changed_by i) → Spared c (flows_of lead o i k)
spares lead o Relint k c z h = tt
spares lead o Inhint k c z h = tt
spares lead o Extend k c z h = tt
spares lead o Resume k c z h = (z, tt)
spares lead o Tc k c z h = tc_spared c (k == return_address) z h.0
spares lead o Ccs k c z h = (h.0, (z, edit_spared c (lead k) h.1.0))
spares lead o Tcf k c z h = (z, tt)
spares lead o Das k c z h =
    let high = erasable_number (lead (first_of greatest_short k)) in
    let low = erasable_number (lead k) in
    let lows = Cell lower_accumulator ∷ place_spots low in
    let all = Cell accumulator ∷ place_spots high ++ lows in
    das_spared c high low (high == accumulator) lows [] all all h.0 h.1.0 h.1.1.0 h.1.1.1.0
spares lead o Lxch k c z h = h
spares lead o Incr k c z h = h
spares lead o Ads k c z h = (h.1.0, (h.0, tt))
spares lead o Ca k c z h = (h.0, edit_spared c (lead k) h.1.0)
spares lead o Cs k c z h = (h.0, edit_spared c (lead k) h.1.0)
spares lead o Index k c z h = edit_spared c (lead k) h.0
spares lead o Dxch k c z h = (h.1.1.1.0, (h.1.0, (h.1.1.0, (h.0, tt))))
spares lead o Ts k c z h =
    let p = erasable_number (lead k) in
    ts_spared c p (not (has_overflow o)) (p == accumulator) (p == program_counter) z h.0 h.1.0
spares lead o Xch k c z h = h
spares lead o Ad k c z h = (h.0, edit_spared c (lead k) h.1.0)
spares lead o Mask k c z h = (h.0, edit_spared c (lead k) h.1.0)
spares lead o Read k c z h = h
spares lead o Write k c z h = h
spares lead o Rand k c z h = h
spares lead o Wand k c z h = h
spares lead o Ror k c z h = h
spares lead o Wor k c z h = h
spares lead o Rxor k c z h = h
spares lead o Edrupt k c z h = tt
spares lead o Dv k c z h = (h.0, (h.1.0, edit_spared c (lead k) h.1.1.0))
spares lead o Bzf k c z h = (z, tt)
spares lead o Msu k c z h = (h.0, edit_spared c (lead k) h.1.0)
spares lead o Qxch k c z h = h
spares lead o Aug k c z h = h
spares lead o Dim k c z h = h
spares lead o Dca k c z h = (h.0, (h.1.0, edits_spared c (lead (first_of greatest_address k)) (lead k) h.1.1.0 h.1.1.1.0))
spares lead o Dcs k c z h = (h.0, (h.1.0, edits_spared c (lead (first_of greatest_address k)) (lead k) h.1.1.0 h.1.1.1.0))
spares lead o Su k c z h = (h.0, edit_spared c (lead k) h.1.0)
spares lead o Bzmf k c z h = (z, tt)
spares lead o Mp k c z h = (h.0, (h.1.0, edit_spared c (lead k) h.1.1.0))

cells_kept : (r : Words) (s : State) (code : Code) (c : ℕ) → is_in c (row_cells s code) ≡ false
    → at (executed r (fetched s) code).cells c ≡ at s.cells c
unfolding executed fetched place_in
cells_kept r s code c h =
    let lead = place_in s in
    let others = flat_map (part_cells lead code.operand) (changed_by code.instruction) in
    let z = not_first c (program_counter ∷ []) others h in
    let rest = kept c lead code.operand (changed_by code.instruction) (not_second c (program_counter ∷ []) others h) in
    leaves r (fetched_by s s.waiting_word) lead code.instruction code.operand (λ k. fetched_place s s.waiting_word k) c
    (spares lead (overflow_in code.instruction (fetched_by s s.waiting_word)) code.instruction code.operand c z rest)
    ∙ fetch_leaves s s.waiting_word c (fetch_spared c (is_some s.waiting_word) z)

inhibit_kept : (s : State) (i : Instruction) → i ≢ Relint → i ≢ Inhint → left_inhibit s i ≡ s.inhibit
inhibit_kept s Relint n m = absurd (n refl)
inhibit_kept s Inhint n m = absurd (m refl)
inhibit_kept s instruction n m = refl

inside_kept : (s : State) (i : Instruction) → i ≢ Resume → left_inside s i ≡ s.inside
inside_kept s Resume n = absurd (n refl)
inside_kept s instruction n = refl

extracode_ended : (extra : Bool) (i : Instruction) → i ≢ Extend → i ≢ Index → extra_after i extra ≡ false
extracode_ended extra Extend n m = absurd (n refl)
extracode_ended extra Index n m = absurd (m refl)
extracode_ended extra instruction n m = refl

-- nothing waits after the fetch, and one instruction alone leaves a sum, and one a word
no_sum : (r : Words) (s : State) (i : Instruction) (k : ℕ) → s.waiting_sum ≡ None → i ≢ Index → left_sum r s i k ≡ None
no_sum r s Index k none n = absurd (n refl)
no_sum r s instruction k none n = none

no_word : (s : State) (i : Instruction) → s.waiting_word ≡ None → i ≢ Resume → left_word s i ≡ None
no_word s Resume none n = absurd (n refl)
no_word s instruction none n = none

keeps_rest : (r : Words) (s : State) (code : Code) → KeepsRest s (executed r (fetched s) code) code
unfolding executed fetched
keeps_rest r s code =
    let flags = leaves_flags r (fetched s) code.instruction code.operand in
    let waiting = leaves_waiting r (fetched s) code.instruction code.operand in
    let counted = account-after r (fetched s) code.instruction code.operand in
    record {
      cells = λ c h. cells_kept r s code c h;
      inhibit = λ n m. flags.1.0 ∙ inhibit_kept (fetched s) code.instruction n m;
      inside = λ n. flags.1.1.0 ∙ inside_kept (fetched s) code.instruction n;
      extracode_begins = λ e. ap (λ (i : Instruction). extra_after i s.extra) e;
      extracode_stays = λ e. ap (λ (i : Instruction). extra_after i s.extra) e;
      extracode_ends = λ n m. extracode_ended s.extra code.instruction n m;
      sum = λ n. waiting.0 ∙ no_sum r (fetched s) code.instruction code.operand refl n;
      word = λ n. waiting.1 ∙ no_word (fetched s) code.instruction refl n;
      requests = flags.1.1.1;
      taken = ap (λ (a : ℕ × List ℕ). a.0) counted;
      counts = ap (λ (a : ℕ × List ℕ). a.1) counted;
    }

pub changes_its_row : (scenario : Scenario) (s : State) → ChangesItsRow scenario s
changes_its_row scenario s = λ code e.
    subst (λ (t : State × Option Output). KeepsRest s t.0 code) (sym (by_code scenario s code e)) (keeps_rest scenario.rope s code)

taken_keeps : (s : State) (given : Input × Option ℕ) → InputKeepsRest s (take s given)
unfolding take
taken_keeps s given =
    let flag = flags.input_keeps (counted_in s given) given.0 in
    let waiting = beside.input_keeps (counted_in s given) given.0 in
    record {
      extra = flag.0;
      inhibit = flag.1.0;
      inside = flag.1.1;
      sum = waiting.0;
      word = waiting.1;
      requests = λ k there.
          flags.input_withdraws_none (counted_in s given) given.0 k there;
    }

pub inputs_keep_rest : (scenario : Scenario) (s : State) → InputsKeepRest scenario s
inputs_keep_rest scenario s = λ given e. subst (λ (t : State × Option Output). InputKeepsRest s t.0) (sym (by_input scenario s given e))
    (taken_keeps s given)

entered_keeps : (r : Words) (s : State) (k : ℕ) → EntryKeepsRest s (entered r s k) k
unfolding entered
entered_keeps r s k = record {
  cells = λ c h.
      let z = not_first c (program_counter ∷ []) (interrupted_address ∷ interrupted_word ∷ []) h in
      let rest = not_second c (program_counter ∷ []) (interrupted_address ∷ interrupted_word ∷ []) h in
      let address = not_first c (interrupted_address ∷ []) (interrupted_word ∷ []) rest in
      let word = not_second c (interrupted_address ∷ []) (interrupted_word ∷ []) rest in
      put_miss (put (put s.cells interrupted_word (extend (word_at_z r s))) interrupted_address (following_address s)) program_counter
      (first_address + 4 * k) c z
      ∙ put_miss (put s.cells interrupted_word (extend (word_at_z r s))) interrupted_address (following_address s) c address
      ∙ put_miss s.cells interrupted_word (extend (word_at_z r s)) c word;
  extra = refl;
  inhibit = refl;
  inside = refl;
  sum = refl;
  word = refl;
  requests = refl;
  taken = refl;
  counts = refl;
}

pub entries_keep_rest : (scenario : Scenario) (s : State) → EntriesKeepRest scenario s
entries_keep_rest scenario s = λ k e. subst (λ (t : State × Option Output). EntryKeepsRest s t.0 k) (sym (by_entry scenario s k e))
    (entered_keeps scenario.rope s k)
