-- Where a step leads.
use Rattle.std.proofs.Common.{◌≡◌, ℕ, ◌/◌, ◌%◌, Bool, true, false, cond, not, ◌&&◌, ◌==◌, List, [], ◌∷◌, ◌++◌, Option, Some, None, refl}
use Rattle.std.proofs.Common.{◌∙◌, sym}
use Rattle.std.proofs.Common.{subst}
use Rattle.std.specs.Prelude.{codes, is_some}
use Rattle.std.specs.List.{flat_map}
use Rattle.words.specs.declared.wide.Overflow.{Overflow}
use Rattle.words.specs.Signs.{over}
use Rattle.rope.specs.Places.{Words}
use Rattle.space.specs.Cells.{accumulator, at, channel_cell, erasable_bank, fixed_bank, program_counter, superbank, superbank_channel}
use Rattle.space.specs.Places.{place}
use Rattle.feed.specs.declared.input.Input.{Input}
use Rattle.feed.specs.Merged.{due}
use Rattle.cpu.specs.State.{State, Scenario}
use Rattle.agc_text.specs.Tables.{same_name}
use Rattle.cpu.specs.Codes.{code_of, row_of}
use Rattle.cpu.specs.Effects.{accumulator_of, erasable_number, has_overflow, place_in, next_address}
use Rattle.cpu.specs.Next.{entry, instruction_word, next}
use Rattle.cpu.specs.NextStep.{next_step, next_step_by}
use Rattle.cpu.specs.Links.{Flow, Link, a, fetch_flows, link, link_by, overflow_in, is_in, sources, sources_by}
use Rattle.cpu.specs.Links.{to_place, ts_flows}
use Rattle.cpu.specs.Links.{writes}
use Rattle.cpu.specs.Links.Link.{Executes}
use Rattle.cpu.specs.declared.instruction.Instruction.{Instruction}
use Rattle.cpu.specs.declared.instruction.Instruction.TheVariants.{Ts}
use Rattle.cpu.specs.declared.spot.Spot.{Spot}
use Rattle.cpu.specs.declared.spot.Spot.TheVariants.{Cell}
use Rattle.cpu.proofs.Flowing.{Agree, agree_left, agree_right, get_same}
use Rattle.cpu.proofs.Leaving.{leaves_rest}
use Rattle.cpu.proofs.Linking.{agree_alike, alike_agree, depends_on_sources}
use Rattle.debugger.specs.Ways.{chosen_by, skips, way_spots}
use Rattle.way_laws.specs.Leading.{written_from, bank_cells, bank_spots, StandAtOnePlace, IsOnePlace, LeadsToOnePlace}

-- ## One cell

-- what a step leaves in a cell where the same stood, and the same at that from which it writes there
cell_by : (one other : Scenario) (s t : State) (c : ℕ) (b : Bool) → link one s ≡ link other t → writes (link one s) c ≡ b
    → at s.cells c ≡ at t.cells c
    → Agree one.rope s other.rope t (cond b (sources (link one s) (Cell c)) [])
    → at (next one s).0.cells c ≡ at (next other t).0.cells c
cell_by one other s t c true e w same h =
    depends_on_sources one s other t (Cell c) e (agree_alike one.rope s other.rope t (sources (link one s) (Cell c)) h)
cell_by one other s t c false e w same h =
    leaves_rest one s c w ∙ same ∙ sym (leaves_rest other t c (subst (λ (k : Link). writes k c ≡ false) e w))

pub cell_after : (one other : Scenario) (s t : State) (c : ℕ) → link one s ≡ link other t → at s.cells c ≡ at t.cells c
    → Agree one.rope s other.rope t (written_from (link one s) c)
    → at (next one s).0.cells c ≡ at (next other t).0.cells c
cell_after one other s t c e same h = cell_by one other s t c (writes (link one s) c) e refl same h

-- of several cells
abbrev pub CellsAlike : State → State → List ℕ → Type 0
CellsAlike s t [] = Unit {0}
CellsAlike s t (c ∷ cs) = (at s.cells c ≡ at t.cells c) × CellsAlike s t cs

pub cells_after : (one other : Scenario) (s t : State) (cs : List ℕ) → link one s ≡ link other t → CellsAlike s t cs
    → Agree one.rope s other.rope t (flat_map (written_from (link one s)) cs)
    → CellsAlike (next one s).0 (next other t).0 cs
cells_after one other s t [] e same h = tt
cells_after one other s t (c ∷ cs) e same h =
    let first = written_from (link one s) c in
    let rest = flat_map (written_from (link one s)) cs in (
      cell_after one other s t c e same.0 (agree_left one.rope s other.rope t first rest h),
      cells_after one other s t cs e same.1 (agree_right one.rope s other.rope t first rest h),
    )

-- ## Z and the banks

pub place_cells_alike : (one : Scenario) (s : State) (other : Scenario) (t : State) → StandAtOnePlace one s other t
    → CellsAlike s t (program_counter ∷ bank_cells)
place_cells_alike one s other t e =
    alike_agree one.rope s other.rope t
    (Cell program_counter ∷ Cell erasable_bank ∷ Cell fixed_bank ∷ Cell (channel_cell superbank_channel) ∷ []) e

pub stand_at_one : (one : Scenario) (s : State) (other : Scenario) (t : State) → CellsAlike s t (program_counter ∷ bank_cells)
    → StandAtOnePlace one s other t
stand_at_one one s other t h =
    agree_alike one.rope s other.rope t
    (Cell program_counter ∷ Cell erasable_bank ∷ Cell fixed_bank ∷ Cell (channel_cell superbank_channel) ∷ []) h

pub is_one_place : (one other : Scenario) (s t : State) → IsOnePlace one s other t
unfolding place_in superbank
is_one_place one other s t = λ e.
    let same = place_cells_alike one s other t e in
    let zs : next_address s ≡ next_address t = get_same one.rope s other.rope t program_counter (same.0, tt) in
    let sups : superbank s.cells ≡ superbank t.cells = λ i. same.1.1.1.0 i / 0o100 % 2 == 1 in
    λ i. place (zs i) (same.1.0 i) (same.1.1.0 i) (sups i)

-- the step leads where it is led, by that from which it writes Z, and the banks
pub leads : (one other : Scenario) (s t : State) → link one s ≡ link other t → StandAtOnePlace one s other t
    → Agree one.rope s other.rope t (way_spots (link one s)) → Agree one.rope s other.rope t (bank_spots (link one s))
    → StandAtOnePlace one (next one s).0 other (next other t).0
leads one other s t e stand way banks =
    let same = place_cells_alike one s other t stand in
    stand_at_one one (next one s).0 other (next other t).0
    (cell_after one other s t program_counter e same.0 way, cells_after one other s t bank_cells e same.1 banks)

-- ## TS that skips

-- each flow comes from what agrees
abbrev AllAgree : Words → State → Words → State → List Flow → Type 0
AllAgree r s o t [] = Unit {0}
AllAgree r s o t (f ∷ fs) = Agree r s o t f.from × AllAgree r s o t fs

either_agrees : (r : Words) (s : State) (o : Words) (t : State) (b : Bool) (xs ys : List Spot) → Agree r s o t xs → Agree r s o t ys
    → Agree r s o t (cond b xs ys)
either_agrees r s o t true xs ys h g = h
either_agrees r s o t false xs ys h g = g

sources_agree : (r : Words) (s : State) (o : Words) (t : State) (fs : List Flow) (c : ℕ) (from : List Spot) → AllAgree r s o t fs
    → Agree r s o t from → Agree r s o t (sources_by fs c from)
sources_agree r s o t [] c from all h = h
sources_agree r s o t (f ∷ fs) c from all h =
    sources_agree r s o t fs c (cond (is_in c f.into) f.from from) all.1
    (either_agrees r s o t (is_in c f.into) f.from from all.0 h)

ts_by : (r : Words) (s : State) (o : Words) (t : State) (p : ℕ) (b d e : Bool) → Agree r s o t (a ∷ [])
    → AllAgree r s o t
    (cond b (to_place p (a ∷ []) ∷ [])
    (cond d (to_place program_counter [] ∷ [])
    (cond e (to_place p (a ∷ []) ∷ to_place accumulator [] ∷ [])
    (to_place p (a ∷ []) ∷ to_place accumulator [] ∷ to_place program_counter [] ∷ []))))
ts_by r s o t p true d e h = (h, tt)
ts_by r s o t p false true e h = (tt, tt)
ts_by r s o t p false false true h = (h, (tt, tt))
ts_by r s o t p false false false h = (h, (tt, (tt, tt)))

fetched_all : (r : Words) (s : State) (o : Words) (t : State) (b : Bool) (fs : List Flow) → AllAgree r s o t fs
    → AllAgree r s o t (fetch_flows b ++ fs)
fetched_all r s o t true fs h = h
fetched_all r s o t false fs h = (tt, h)

-- of TS all comes from A
ts_agrees : (r : Words) (s : State) (o : Words) (t : State) (z k : ℕ) (waited : Bool) (eb fb : ℕ) (sup : Bool) (x : Overflow)
    → at s.cells program_counter ≡ at t.cells program_counter → Agree r s o t (a ∷ [])
    → Agree r s o t (way_spots (Executes z (record { instruction = Ts; operand = k }) waited eb fb sup x))
unfolding sources
ts_agrees r s o t z k waited eb fb sup x zs h =
    let p = erasable_number (place k eb fb sup) in
    let step = Executes z (record { instruction = Ts; operand = k }) waited eb fb sup x in
    either_agrees r s o t (writes step program_counter) (sources step (Cell program_counter)) []
    (sources_agree r s o t (fetch_flows waited ++ ts_flows x p) program_counter (Cell program_counter ∷ [])
    (fetched_all r s o t waited (ts_flows x p)
    (ts_by r s o t p (not (has_overflow x)) (p == accumulator) (p == program_counter) h))
    (zs, tt))
    tt

-- what TS chooses by where A overflows does for Z, and any other step chooses by what it writes Z from
way_by : (x : Bool) (i : Instruction) (r : Words) (s : State) (o : Words) (t : State) (z k : ℕ) (waited : Bool) (eb fb : ℕ) (sup : Bool)
    (overflow : Overflow) → at s.cells program_counter ≡ at t.cells program_counter
    → Agree r s o t
    (cond (x && same_name (row_of i).name (codes "TS")) (a ∷ [])
    (way_spots (Executes z (record { instruction = i; operand = k }) waited eb fb sup overflow)))
    → Agree r s o t (way_spots (Executes z (record { instruction = i; operand = k }) waited eb fb sup overflow))
way_by true Ts r s o t z k waited eb fb sup overflow zs h = ts_agrees r s o t z k waited eb fb sup overflow zs h
way_by true i r s o t z k waited eb fb sup overflow zs h = h
way_by false i r s o t z k waited eb fb sup overflow zs h = h

way_of : (r : Words) (s : State) (o : Words) (t : State) (d : Option (Input × Option ℕ)) (k : Option ℕ)
    → at s.cells program_counter ≡ at t.cells program_counter
    → Agree r s o t (cond (skips s (next_step_by r s d k)) (a ∷ []) (way_spots (link_by r s d k)))
    → Agree r s o t (way_spots (link_by r s d k))
way_of r s o t (Some given) k zs h = h
way_of r s o t None (Some k) zs h = h
way_of r s o t None None zs h =
    let code = code_of s.extra (instruction_word r s) in
    way_by (has_overflow (over (accumulator_of s))) code.instruction r s o t (at s.cells program_counter) code.operand
    (is_some s.waiting_word) (at s.cells erasable_bank) (at s.cells fixed_bank) (superbank s.cells) (overflow_in code.instruction s) zs h

-- so what a step chooses by does for Z
pub way_chosen : (one : Scenario) (s : State) (other : Scenario) (t : State) → at s.cells program_counter ≡ at t.cells program_counter
    → Agree one.rope s other.rope t (chosen_by one s) → Agree one.rope s other.rope t (way_spots (link one s))
unfolding link next_step
way_chosen one s other t zs h = way_of one.rope s other.rope t (due one.inputs s.taken s.cycles) (entry s) zs h

pub leads_to_one_place : (one other : Scenario) (s t : State) → LeadsToOnePlace one s other t
leads_to_one_place one other s t = λ e stand alike.
    let agree = alike_agree one.rope s other.rope t (chosen_by one s ++ bank_spots (link one s)) alike in
    leads one other s t e stand
    (way_chosen one s other t (place_cells_alike one s other t stand).0
    (agree_left one.rope s other.rope t (chosen_by one s) (bank_spots (link one s)) agree))
    (agree_right one.rope s other.rope t (chosen_by one s) (bank_spots (link one s)) agree)
