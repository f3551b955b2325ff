-- The first step after which a cell of two runs is not the same.
use Rattle.std.specs.Prelude.{ℕ, zero, suc, ◌+◌, ◌-◌, ◌==◌, ◌&&◌, not, nat_lt, Bool, true, List, [], ◌∷◌, Option, None, Some, if◌then◌else◌}
use Rattle.std.specs.Option.{option_map, option_or}
use Rattle.space.specs.Cells.{Cells, erasable_count, get, get_channel, is_cell}
use Rattle.cpu.specs.Run.{run}
use Rattle.cpu.specs.State.{Scenario}
use Rattle.differ.specs.declared.states.CellApart.{CellApart}

-- what is read at a cell: a register, an erasable place, or a channel
unfoldable pub reading : Cells → ℕ → ℕ
reading cells c = if nat_lt c erasable_count then get cells c else get_channel cells (c - erasable_count)

-- a cell that is not the same. BB is EB and FB, and L and Q are channels too: these stand once
abbrev pub is_apart : Cells → Cells → ℕ → Bool
is_apart here there c = is_cell c && not (reading here c == reading there c)

-- the first of those below n
unfoldable pub first_cell : Cells → Cells → ℕ → Option ℕ
first_cell here there zero = None
first_cell here there (suc n) = option_or (first_cell here there n) (if is_apart here there n then Some n else None)

-- none of some cells is
abbrev pub same_cells : Cells → Cells → List ℕ → Bool
same_cells here there [] = true
same_cells here there (c ∷ cs) = not (is_apart here there c) && same_cells here there cs

abbrev pub cell_count : ℕ
cell_count = 0o5000

-- after a step, with what is read there in both
abbrev pub cell_apart : ℕ → Cells → Cells → ℕ → CellApart
cell_apart step here there c = record { step = step; cell = c; here = reading here c; there = reading there c }

abbrev pub apart_after : ℕ → Cells → Cells → Option CellApart
apart_after step here there = option_map (cell_apart step here there) (first_cell here there cell_count)

-- the same, where one of those is that the steps have written
abbrev pub apart_in : ℕ → Cells → Cells → List ℕ → List ℕ → Option CellApart
apart_in step here there cells others = if same_cells here there cells
    && same_cells here there others then None else apart_after step here there

-- in k steps that follow the first n
unfoldable pub apart_from : Scenario → Scenario → ℕ → ℕ → Option CellApart
apart_from one other n zero = None
apart_from one other n (suc k) =
    option_or (apart_after (n + 1) (run one (n + 1)).cells (run other (n + 1)).cells) (apart_from one other (n + 1) k)

-- in the first n
abbrev pub first_state : Scenario → Scenario → ℕ → Option CellApart
first_state one other n = apart_from one other 0 n
