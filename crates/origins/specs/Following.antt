-- What a step writes of cells that are followed, and which cells are followed before it.
use Rattle.std.specs.Prelude.{ℕ, ◌==◌, ◌&&◌, ◌||◌, Bool, false, List, [], ◌∷◌, ◌++◌, filter, if◌then◌else◌}
use Rattle.std.specs.List.{flat_map, range_with_len}
use Rattle.std.specs.Ordering.{nat_cmp}
use Rattle.std.specs.FinSet as set
use Rattle.cpu.specs.Links.{Link, targets, sources}
use Rattle.cpu.specs.declared.spot.Spot.{Spot}
use Rattle.cpu.specs.declared.spot.Spot.TheVariants.{Cell, InRope}

-- cells
abbrev pub CellSet : Type 0
CellSet = set.FinSet nat_cmp

-- how many cells there are
abbrev pub cell_count : ℕ
cell_count = 0o5000

-- the cells of a list that are in a set, each once, and the set without them
abbrev pub those_in : List ℕ → CellSet → List ℕ
those_in [] cells = []
those_in (c ∷ cs) cells = if set.contains cells c then c ∷ those_in cs (set.remove cells c) else those_in cs cells

abbrev pub left_in : List ℕ → CellSet → CellSet
left_in [] cells = cells
left_in (c ∷ cs) cells = left_in cs (if set.contains cells c then set.remove cells c else cells)

-- some spots and then more, each once
abbrev pub same_spot : Spot → Spot → Bool
same_spot (Cell c) (Cell d) = c == d
same_spot (Cell c) (InRope bank offset) = false
same_spot (InRope bank offset) (Cell d) = false
same_spot (InRope bank offset) (InRope b o) = bank == b && offset == o

abbrev pub has_spot : List Spot → Spot → Bool
has_spot [] x = false
has_spot (y ∷ ys) x = same_spot y x || has_spot ys x

abbrev pub with_spots : List Spot → List Spot → List Spot
with_spots told [] = told
with_spots told (x ∷ xs) = with_spots (if has_spot told x then told else told ++ x ∷ []) xs

-- what a step reads for cells that it writes
abbrev pub reads : Link → List ℕ → List Spot
reads k cs = with_spots [] (flat_map (λ c. sources k (Cell c)) cs)

-- cells, and those among some spots
abbrev pub with_cells : CellSet → List Spot → CellSet
with_cells cells [] = cells
with_cells cells (Cell c ∷ xs) = with_cells (set.insert cells c) xs
with_cells cells (InRope bank offset ∷ xs) = with_cells cells xs

-- the cells that are followed before a step, of those after it
abbrev pub cells_before : Link → CellSet → CellSet
cells_before k cells = with_cells (left_in (targets k) cells) (reads k (those_in (targets k) cells))

-- the cells of a set, in their order
unfoldable pub cells_of : CellSet → List ℕ
cells_of cells = filter (set.contains cells) (range_with_len 0 cell_count)
