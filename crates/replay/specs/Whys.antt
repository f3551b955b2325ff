-- The steps from which what stands at spots came about, the last first.
use Rattle.std.specs.Prelude.{ℕ, zero, suc, Bool, List, [], ◌∷◌, Option, Some, None}
use Rattle.std.specs.Ordering.{nat_cmp}
use Rattle.std.specs.FinSet as set
use Rattle.cpu.specs.declared.spot.Spot.{Spot}
use Rattle.cpu.specs.State.{Scenario}
use Rattle.cpu.specs.Chains.{writes_any, writes_some, link_at, before_step, IsChain}
use Rattle.replay.specs.LastHit.{last_hit}

-- whether the step from the state after t steps writes one of some cells
abbrev pub step_writes : Scenario → set.FinSet nat_cmp → ℕ → Bool
step_writes scenario cells t = writes_some (link_at scenario t) cells

-- the last step before p that writes at one of some spots
abbrev pub last_writer : Scenario → List Spot → ℕ → Option ℕ
last_writer scenario xs p = last_hit (λ t. writes_any (link_at scenario t) xs) p

-- a step and what follows from it, if any
abbrev pub and_then : Option ℕ → (ℕ → List ℕ) → List ℕ
and_then None f = []
and_then (Some t) f = t ∷ f t

-- at most k steps: the last that writes at the spots, then the last that writes at that from which this came, and so on
unfoldable pub why_steps : Scenario → ℕ → ℕ → List Spot → List ℕ
why_steps scenario zero p xs = []
why_steps scenario (suc k) p xs = and_then (last_writer scenario xs p) (λ t. why_steps scenario k t (before_step scenario t xs))

-- They are a chain.
abbrev pub WhyIsChain : Scenario → ℕ → ℕ → List Spot → Type 0
WhyIsChain scenario k p xs = IsChain scenario p xs (why_steps scenario k p xs)
