-- What the next state depends on: the link, and what stands at the sources.
use Rattle.std.specs.Prelude.{◌≡◌, ℕ, zero, suc, ◌+◌, ◌<◌, Bool, false, Option, Some, None, List, [], ◌∷◌, map}
use Rattle.std.specs.List.{flat_map}
use Rattle.words.specs.Signs.{over}
use Rattle.space.specs.Cells.{at, channel_cell, erasable_bank, fixed_bank, program_counter, superbank_channel}
use Rattle.rope.specs.Places.{Words}
use Rattle.feed.specs.declared.input.Input.{Input}
use Rattle.feed.specs.Merged.{due}
use Rattle.cpu.specs.State.{State, Scenario}
use Rattle.cpu.specs.Effects.{place_in, next_address, accumulator_of}
use Rattle.cpu.specs.Next.{next}
use Rattle.cpu.specs.Run.{run}
use Rattle.cpu.specs.declared.spot.Spot.{Spot}
use Rattle.cpu.specs.declared.spot.Spot.TheVariants.{Cell}
use Rattle.cpu.specs.Links.{spot_word, spots, carries_in, link, sources, writes}

-- A cell that a step does not write holds what it held.
abbrev pub LeavesRest : Scenario → State → ℕ → Type 0
LeavesRest scenario s c = writes (link scenario s) c ≡ false → at (next scenario s).0.cells c ≡ at s.cells c

-- the same stands at spots in one state over one rope and in another over another
abbrev pub StandAlike : Words → State → Words → State → List Spot → Type 0
StandAlike rope s other t xs = map (spot_word rope s) xs ≡ map (spot_word other t) xs

-- What stands at a spot after a step depends on the link and on its sources alone: over any two ropes, with any inputs, after
-- the same link from states in which the same stands at its sources, the same stands there.
abbrev pub DependsOnSources : Scenario → State → Scenario → State → Spot → Type 0
DependsOnSources one s other t x =
    link one s ≡ link other t → StandAlike one.rope s other.rope t (sources (link one s) x)
    → spot_word one.rope (next one s).0 x ≡ spot_word other.rope (next other t).0 x

-- whether the input that is due carries
abbrev pub carried_by_due : State → Option (Input × Option ℕ) → Bool
carried_by_due s None = false
carried_by_due s (Some given) = carries_in s given.0

-- what controls: which input is due, and whether it carries, the flags, what waits, what is asked for, how A overflows, Z and
-- the banks, and the word at Z
pub record SameControl (one : Scenario) (s : State) (other : Scenario) (t : State) : Type 0 where
  pub carries : carried_by_due s (due one.inputs s.taken s.cycles) ≡ carried_by_due t (due other.inputs t.taken t.cycles)
  pub due : due one.inputs s.taken s.cycles ≡ due other.inputs t.taken t.cycles
  pub extra : s.extra ≡ t.extra
  pub inhibit : s.inhibit ≡ t.inhibit
  pub inside : s.inside ≡ t.inside
  pub requests : s.requests ≡ t.requests
  pub sum : s.waiting_sum ≡ t.waiting_sum
  pub word : s.waiting_word ≡ t.waiting_word
  pub overflow : over (accumulator_of s) ≡ over (accumulator_of t)
  pub banks : StandAlike one.rope s other.rope t
      (Cell program_counter ∷ Cell erasable_bank ∷ Cell fixed_bank ∷ Cell (channel_cell superbank_channel) ∷ [])
  pub fetched : StandAlike one.rope s other.rope t (spots (place_in s (next_address s)))

-- what controls fixes the link
abbrev pub ControlFixesLink : Scenario → State → Scenario → State → Type 0
ControlFixesLink one s other t = SameControl one s other t → link one s ≡ link other t

-- the spots after step m from which comes what stands at spots after k steps more
unfoldable pub origins : Scenario → ℕ → ℕ → List Spot → List Spot
origins scenario m zero xs = xs
origins scenario m (suc k) xs = origins scenario m k (flat_map (sources (link scenario (run scenario (m + k)))) xs)

-- the same links follow one another, from step m of a run on and from step n of another
abbrev pub SameLinks : Scenario → ℕ → Scenario → ℕ → ℕ → Type 0
SameLinks one m other n k = (j : ℕ) → j < k → link one (run one (m + j)) ≡ link other (run other (n + j))

-- What stands at spots depends on the links up to there and on the origins alone.
abbrev pub DependsOnOrigins : Scenario → ℕ → Scenario → ℕ → ℕ → List Spot → Type 0
DependsOnOrigins one m other n k xs =
    SameLinks one m other n k → StandAlike one.rope (run one m) other.rope (run other n) (origins one m k xs)
    → StandAlike one.rope (run one (m + k)) other.rope (run other (n + k)) xs
