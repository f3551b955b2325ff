-- How `why` ends, and what its last line means.
use Rattle.std.specs.Prelude.{◌≡◌, ◌≢◌, ℕ, ◌<◌, ◌≤◌, ◌==◌, true, false, List, [], ◌++◌, length, codes, decimal}
use Rattle.std.specs.List.{flat_map}
use Rattle.std.specs.FinSet as set
use Rattle.space.specs.Cells.{at, is_cell}
use Rattle.symbols.specs.Values.{SymbolTable}
use Rattle.cpu.specs.State.{Scenario, start}
use Rattle.cpu.specs.Run.{run}
use Rattle.cpu.specs.Chains.{cells_among, writes_any, link_at, chain_end, chain_origins}
use Rattle.cpu.specs.declared.spot.Spot.{Spot}
use Rattle.replay.specs.Whys.{why_steps}
use Rattle.trace.specs.TraceLines.{cell_reading}
use Rattle.commands.specs.declared.extended.LinkLines.{LinkLines}
use Rattle.debugger.specs.Replies.{line}
use Rattle.origins.specs.Following.{cells_of}
use Rattle.debugger.specs.Whys.{cell_text, chain_text, end_from, why_text}

-- the cells that are left where a chain ends
abbrev pub left_by : Scenario → List Spot → List ℕ → List ℕ
left_by scenario xs ts = cells_of (cells_among (chain_origins scenario xs ts))

-- The last line: ALL where no cell is left; else, where fewer steps are told than may be, START with the cells that are left and what they
-- held there; and where as many are, how many cells are left.
pub record EndsAs (symbols : SymbolTable) (scenario : Scenario) (k : ℕ) (xs : List Spot) (ts ending : List ℕ) : Type 0 where
  pub all : left_by scenario xs ts ≡ [] → ending ≡ line (codes "ALL")
  pub since_start : left_by scenario xs ts ≢ [] → length ts < k
      → ending ≡ line (codes "START" ++ flat_map (cell_text symbols start.cells) (left_by scenario xs ts))
  pub more : left_by scenario xs ts ≢ [] → length ts ≡ k → ending ≡ line (codes "MORE " ++ decimal (length (left_by scenario xs ts)))

-- None of some spots was written by a step before p, so each cell among them holds, and reads, what it did at the start.
pub record IsUnwritten (scenario : Scenario) (p : ℕ) (xs : List Spot) : Type 0 where
  pub none : (u : ℕ) → u < p → writes_any (link_at scenario u) xs ≡ false
  pub held : (c : ℕ) → set.contains (cells_among xs) c ≡ true → at (run scenario p).cells c ≡ at start.cells c
  pub reads : (c : ℕ) → set.contains (cells_among xs) c ≡ true → is_cell c ≡ true
      → cell_reading (run scenario p).cells c ≡ cell_reading start.cells c

-- Of the text of at most k links: those of the chain, and a last line that is as it says. Where fewer are told, nothing that is left was
-- written before the last.
pub record WhyEnds (symbols : SymbolTable) (scenario : Scenario) (lines : LinkLines) (k p : ℕ) (xs : List Spot) : Type 0 where
  pub few : length (why_steps scenario k p xs) ≤ k
  pub text : why_text symbols scenario lines k p xs
      ≡ chain_text symbols scenario lines xs (why_steps scenario k p xs)
      ++ end_from symbols (length (why_steps scenario k p xs) == k) (chain_origins scenario xs (why_steps scenario k p xs))
  pub ends : EndsAs symbols scenario k xs (why_steps scenario k p xs)
      (end_from symbols (length (why_steps scenario k p xs) == k) (chain_origins scenario xs (why_steps scenario k p xs)))
  pub unwritten : length (why_steps scenario k p xs) < k
      → IsUnwritten scenario (chain_end p (why_steps scenario k p xs)) (chain_origins scenario xs (why_steps scenario k p xs))
