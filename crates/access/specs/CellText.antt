-- How a cell is told: by its name, or by the nearest name before it, as VEL +1, or as a listing has it; or a channel.
use Rattle.std.specs.Prelude.{ℕ, nat_lt, List, ◌++◌, unwrap_or, Option, None, Some, if◌then◌else◌}
use Rattle.space.specs.Cells.{erasable_count}
use Rattle.space.specs.declared.place.Linear.TheVariants.{Erasable}
use Rattle.symbols.specs.Values.{SymbolTable}
use Rattle.yayul.specs.Listing.{place_text}
use Rattle.trace.specs.TraceLines.{cell_name, place_name}
use Rattle.names.specs.NamedLines.{distance_text, nearest_name}

abbrev pub near_part : Option (List ℕ × ℕ) → List ℕ → List ℕ
near_part None place = place
near_part (Some near) place = near.0 ++ distance_text near.1

abbrev pub near_cell : SymbolTable → ℕ → List ℕ
near_cell symbols p = near_part (nearest_name symbols (Erasable p)) (place_text (Erasable p))

abbrev pub erasable_cell : SymbolTable → ℕ → List ℕ
erasable_cell symbols p = unwrap_or (place_name symbols (Erasable p)) (near_cell symbols p)

abbrev pub cell_text : SymbolTable → ℕ → List ℕ
cell_text symbols c = if nat_lt c erasable_count then erasable_cell symbols c else cell_name symbols c
