-- From what comes what a cell holds, and which cells are written, as one flow after another is handed on. Private contracts alone
-- stand on this.
use Rattle.std.specs.Prelude.{ℕ, List, [], ◌∷◌, ◌++◌, if◌then◌else◌}
use Rattle.space.specs.Cells.{lower_accumulator}
use Rattle.cpu.specs.declared.source.Source.{Source}
use Rattle.cpu.specs.declared.source.Source.TheVariants.{Nothing, Place, Places, RegistersAndPlace, RegistersAndPair, Doubles, Channel}
use Rattle.cpu.specs.declared.source.Source.TheVariants.{AndChannel, Exchanged}
use Rattle.cpu.specs.declared.spot.Spot.{Spot}
use Rattle.cpu.specs.declared.spot.Spot.TheVariants.{Cell}
use Rattle.cpu.specs.Links.{Flow, a, channel_spots, exchange_flows, is_in, l, place_spots, spots, through}

-- the spots of a source
abbrev pub source_spots : Source → List Spot
source_spots Nothing = []
source_spots (Place there) = spots there
source_spots (Places first second) = spots first ++ spots second
source_spots (RegistersAndPlace there) = a ∷ l ∷ spots there
source_spots (RegistersAndPair first second) = a ∷ l ∷ place_spots first ++ place_spots second
source_spots (Doubles high low) = a ∷ place_spots high ++ (l ∷ place_spots low)
source_spots (Channel n) = channel_spots n
source_spots (AndChannel n) = a ∷ channel_spots n
source_spots (Exchanged low p) = through (exchange_flows lower_accumulator low) (place_spots p)

-- the trail of a cell: from what comes what it holds
pub record Trace : Type 0 where
  pub cell : ℕ
  pub from : List Spot

-- a trail after a flow
abbrev pub passed : Trace → Flow → Trace
passed t f = record { cell = t.cell; from = if is_in t.cell f.into then f.from else t.from }

-- the trail of a cell before any flow
abbrev pub untouched : ℕ → Trace
untouched c = record { cell = c; from = Cell c ∷ [] }

-- targets after those of a flow
abbrev pub gathered : List ℕ → Flow → List ℕ
gathered cells f = cells ++ f.into
