-- The step that entered the interrupt which is served, and what is told of it.
use Rattle.std.specs.Prelude.{◌≡◌, ℕ, ◌+◌, ◌<◌, ◌≤◌, Bool, true, false, [], ◌++◌, codes, decimal}
use Rattle.symbols.specs.Values.{SymbolTable}
use Rattle.cpu.specs.State.{Scenario}
use Rattle.cpu.specs.Run.{run}
use Rattle.cpu.specs.NextStep.{next_step}
use Rattle.cpu.specs.declared.next_step.NextStep.TheVariants.{Enters}
use Rattle.debugger.specs.Replies.{line}
use Rattle.debugger.specs.Standing.{inside_text}
use Rattle.debugger.specs.Whys.{mark_part}

-- The step from the state after t steps enters interrupt k, and it is served after that step and after each later one up to p.
pub record ServesSince (scenario : Scenario) (p t k : ℕ) : Type 0 where
  pub earlier : t < p
  pub outside : (run scenario t).inside ≡ false
  pub enters : next_step scenario (run scenario t) ≡ Enters k
  pub inside : (u : ℕ) → t < u → u ≤ p → (run scenario u).inside ≡ true

-- It is told by its number, counted from 1: by the mark of a step that `why` tells, and by `where`.
pub record TellsEntry (symbols : SymbolTable) (scenario : Scenario) (p : ℕ) : Type 0 where
  pub step : ℕ
  pub interrupt : ℕ
  pub serves : ServesSince scenario p step interrupt
  pub mark : mark_part scenario p ≡ codes " IN STEP " ++ decimal (step + 1)
  pub told : inside_text symbols scenario p ≡ line (codes "IN INTERRUPT " ++ decimal interrupt ++ codes " BY " ++ decimal (step + 1))

-- Where no interrupt is served, none is told.
pub record TellsNone (symbols : SymbolTable) (scenario : Scenario) (p : ℕ) : Type 0 where
  pub mark : mark_part scenario p ≡ []
  pub told : inside_text symbols scenario p ≡ []

abbrev pub EntryIsToldBy : SymbolTable → Scenario → ℕ → Bool → Type 0
EntryIsToldBy symbols scenario p true = TellsEntry symbols scenario p
EntryIsToldBy symbols scenario p false = TellsNone symbols scenario p

abbrev pub EntryIsTold : SymbolTable → Scenario → ℕ → Type 0
EntryIsTold symbols scenario p = EntryIsToldBy symbols scenario p (run scenario p).inside
