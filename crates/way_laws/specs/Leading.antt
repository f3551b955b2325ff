-- Where a step leads, and on what this depends.
use Rattle.std.specs.Prelude.{◌≡◌, ℕ, List, [], ◌∷◌, ◌++◌, map, if◌then◌else◌}
use Rattle.std.specs.List.{flat_map}
use Rattle.space.specs.Cells.{channel_cell, erasable_bank, fixed_bank, program_counter, superbank_channel}
use Rattle.cpu.specs.State.{State, Scenario}
use Rattle.cpu.specs.Effects.{next_address, place_in}
use Rattle.cpu.specs.Next.{next}
use Rattle.cpu.specs.Links.{Link, link, sources, writes}
use Rattle.cpu.specs.Dependence.{StandAlike}
use Rattle.cpu.specs.declared.spot.Spot.{Spot}
use Rattle.cpu.specs.declared.spot.Spot.TheVariants.{Cell}
use Rattle.debugger.specs.Ways.{chosen_by}

-- from what comes what a step writes in a cell, where it writes there
abbrev pub written_from : Link → ℕ → List Spot
written_from k c = if writes k c then sources k (Cell c) else []

-- the banks under which Z leads to a place: EB, FB, and the channel of the superbank
abbrev pub bank_cells : List ℕ
bank_cells = erasable_bank ∷ fixed_bank ∷ channel_cell superbank_channel ∷ []

-- from what comes what a step writes there
abbrev pub bank_spots : Link → List Spot
bank_spots k = flat_map (written_from k) bank_cells

-- Z and the banks are the same
abbrev pub StandAtOnePlace : Scenario → State → Scenario → State → Type 0
StandAtOnePlace one s other t = StandAlike one.rope s other.rope t (map (λ c. Cell c) (program_counter ∷ bank_cells))

-- So Z leads to the same place.
abbrev pub IsOnePlace : Scenario → State → Scenario → State → Type 0
IsOnePlace one s other t = StandAtOnePlace one s other t → place_in s (next_address s) ≡ place_in t (next_address t)

-- Where a step leads depends on the step, on what it chooses by, and on that from which it sets the banks, and on nothing else: after the
-- same step at the same place, over any two ropes, with any inputs, a run stands at the same place as another.
abbrev pub LeadsToOnePlace : Scenario → State → Scenario → State → Type 0
LeadsToOnePlace one s other t =
    link one s ≡ link other t → StandAtOnePlace one s other t
    → StandAlike one.rope s other.rope t (chosen_by one s ++ bank_spots (link one s))
    → StandAtOnePlace one (next one s).0 other (next other t).0
