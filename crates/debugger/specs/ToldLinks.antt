-- How far `why` has come: a beginning of its text was written, and the rest follows from the cells that are pending. Only the
-- proof of `why` stands on this.
use Rattle.std.specs.Prelude.{◌≡◌, ℕ, List, ◌++◌}
use Rattle.symbols.specs.Values.{SymbolTable}
use Rattle.commands.specs.declared.extended.LinkLines.{LinkLines}
use Rattle.cpu.specs.State.{Scenario}
use Rattle.cpu.specs.Chains.{cells_among}
use Rattle.cpu.specs.declared.spot.Spot.{Spot}
use Rattle.origins.specs.Following.{CellSet}
use Rattle.debugger.specs.Whys.{why_text}

pub record ToldLinks (symbols : SymbolTable) (scenario : Scenario) (lines : LinkLines) (whole old new : List ℕ) (left before : ℕ)
    (pending : CellSet) : Type 0 where
  pub spots : List Spot
  pub pending_is : pending ≡ cells_among spots
  pub text : List ℕ
  pub goes_on : whole ≡ text ++ why_text symbols scenario lines left before spots
  pub written : new ≡ old ++ text
