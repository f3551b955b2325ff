-- What is counted of a run: each read and each write of a cell, by the level of its step; and of one cell, by the place of its step too.
use Rattle.std.specs.Prelude.{◌≡◌, ℕ, zero, suc, ◌+◌, ◌*◌, ◌<◌, ◌==◌, List, [], ◌∷◌, ◌++◌, length, Option, Some, None, if◌then◌else◌}
use Rattle.std.specs.List.{flat_map}
use Rattle.cpu.specs.declared.account.Account.{Account}
use Rattle.cpu.specs.declared.account.Account.TheVariants.{Input, Entry, Waiting, Place}
use Rattle.cpu.specs.declared.next_step.NextStep.{NextStep}
use Rattle.cpu.specs.declared.next_step.NextStep.TheVariants.{Takes, Enters, Executes}
use Rattle.cpu.specs.declared.spot.Spot.{Spot}
use Rattle.cpu.specs.declared.spot.Spot.TheVariants.{Cell, InRope}
use Rattle.cpu.specs.Links.{Link, link, targets}
use Rattle.cpu.specs.NextStep.{next_step}
use Rattle.cpu.specs.Reads.{reads}
use Rattle.cpu.specs.Run.{run}
use Rattle.cpu.specs.State.{State, Scenario}
use Rattle.cover.specs.Tallies.{account_count, account_number}
use Rattle.access.specs.declared.view.View.{View}
use Rattle.access.specs.declared.view.View.TheVariants.{All, One}
use Rattle.access.specs.Levels.{last_entered, level_by}

-- the cells that a step reads, each as often as it does; places of fixed memory are left out
abbrev pub cell_in : Spot → List ℕ
cell_in (Cell c) = c ∷ []
cell_in (InRope bank offset) = []

abbrev pub read_cells : Link → List ℕ
read_cells link = flat_map cell_in (reads link)

-- where a step stands: an input and an entry have no place, nor has a word that waited
abbrev pub account_in : NextStep → Account
account_in (Takes input) = Input
account_in (Enters k) = Entry
account_in (Executes f) = if f.waited then Waiting else Place f.place

-- the rows of a table: one for each cell, or of one cell one for each account
abbrev pub row_count : View → ℕ
row_count All = 0o5000
row_count (One c) = account_count

-- the number of what is counted: of a row, at a level, reads (0) or writes (1)
abbrev pub slot : ℕ → ℕ → ℕ → ℕ
slot row level kind = 26 * row + (2 * level + kind)

abbrev pub slot_count : View → ℕ
slot_count view = 26 * row_count view

-- the row at which a cell is counted where a step at an account uses it, if it is
abbrev pub row_in : View → ℕ → ℕ → Option ℕ
row_in All number c = Some c
row_in (One d) number c = if c == d then Some number else None

-- what is counted where a step at an account and at a level reads (0) or writes (1) a cell
abbrev pub slots_in : Option ℕ → ℕ → ℕ → List ℕ
slots_in None level kind = []
slots_in (Some row) level kind = slot row level kind ∷ []

abbrev pub slots : View → ℕ → ℕ → ℕ → ℕ → List ℕ
slots view number level kind c = slots_in (row_in view number c) level kind

abbrev pub slots_by : View → ℕ → ℕ → List ℕ → List ℕ → List ℕ
slots_by view number level read written = flat_map (slots view number level 0) read ++ flat_map (slots view number level 1) written

-- what is counted of the step that follows a state, where an interrupt was entered last
unfoldable pub slots_after : View → Scenario → State → ℕ → List ℕ
slots_after view scenario s last =
    let step = next_step scenario s in
    slots_by view (account_number (account_in step)) (level_by step s last) (read_cells (link scenario s)) (targets (link scenario s))

abbrev pub slots_at : View → Scenario → ℕ → List ℕ
slots_at view scenario n = slots_after view scenario (run scenario n) (last_entered scenario n)

-- how often a number stands in a list
abbrev pub times_in : ℕ → List ℕ → ℕ
times_in i [] = 0
times_in i (j ∷ js) = (if i == j then 1 else 0) + times_in i js

-- how often it is counted in the first n steps
unfoldable pub times : View → Scenario → ℕ → ℕ → ℕ
times view scenario zero i = 0
times view scenario (suc n) i = times view scenario n i + times_in i (slots_at view scenario n)

-- ## The law: all counts add up to the reads and writes of the run
abbrev pub sum_below : (ℕ → ℕ) → ℕ → ℕ
sum_below f zero = 0
sum_below f (suc n) = sum_below f n + f n

-- how many cells are read and written in the first n steps
unfoldable pub accesses : Scenario → ℕ → ℕ
accesses scenario zero = 0
accesses scenario (suc n) = let l = link scenario (run scenario n) in accesses scenario n + (length (read_cells l) + length (targets l))

abbrev pub AccessesAddUp : Scenario → ℕ → Type 0
AccessesAddUp scenario n = sum_below (times All scenario n) (slot_count All) ≡ accesses scenario n

-- the numbers of two that are counted differ, unless row, level and kind are the same
abbrev pub SlotsDiffer : Type 0
SlotsDiffer =
    (row level kind other_row other_level other_kind : ℕ) → level < 13 → kind < 2 → other_level < 13 → other_kind < 2
    → slot row level kind ≡ slot other_row other_level other_kind → (row ≡ other_row) × (level ≡ other_level) × (kind ≡ other_kind)
