-- Stretches of a run, how many of them end in some steps, and the longest.
use Rattle.std.specs.Prelude.{◌≡◌, ℕ, zero, suc, ◌+◌, ◌-◌, ◌^◌, ◌<◌, ◌≤◌, ◌==◌, ◌||◌, nat_lt, min, List, replicate, Option, Some, None}
use Rattle.std.specs.Prelude.{if◌then◌else◌}
use Rattle.delays.specs.declared.mark.Mark.{Mark}
use Rattle.delays.specs.declared.mark.Stretch.{Stretch}
use Rattle.delays.specs.declared.mark.Best.{Best}
use Rattle.delays.specs.Causes.{causes}

-- its cycles
abbrev pub cycles_of : Stretch → ℕ
cycles_of s = s.to.cycles - s.from.cycles

-- a stretch that ends, at a row of a table
abbrev pub Event : Type 0
Event = ℕ × Stretch

abbrev pub no_mark : Mark
no_mark = record { step = 0; cycles = 0; spent = replicate causes 0 }

abbrev pub no_stretch : Stretch
no_stretch = record { from = no_mark; to = no_mark; step = 0; end = 0 }

-- of no stretch
abbrev pub no_best : Best
no_best = record { count = 0; total = 0; least = 0; longest = no_stretch }

-- and of one more: the sum of all stays at its greatest value, and the first of the longest is kept
abbrev pub better : Best → Stretch → Best
better b s =
    record {
      count = b.count + 1;
      total = min (b.total + cycles_of s) (2 ^ 64 - 1);
      least = if b.count == 0 || nat_lt (cycles_of s) b.least then cycles_of s else b.least;
      longest = if b.count == 0 || nat_lt (cycles_of b.longest) (cycles_of s) then s else b.longest;
    }

-- where f tells what the step after n others ends: of the stretches of a row that end in the first n steps
abbrev pub best_by : ℕ → Option Event → Best → Best
best_by row None b = b
best_by row (Some event) b = if row == event.0 then better b event.1 else b

unfoldable pub best_of : (ℕ → Option Event) → ℕ → ℕ → Best
best_of f zero row = no_best
best_of f (suc n) row = best_by row (f n) (best_of f n row)

-- ## What is told of them
-- some stretch of a row ends in some of the first n steps
pub record Ends (f : ℕ → Option Event) (n row : ℕ) (s : Stretch) : Type 0 where
  pub step : ℕ
  pub within : step < n
  pub is : f step ≡ Some (row, s)

-- none is longer than the longest and none shorter than the least that are told; and where one ends, the longest is one of them
pub record IsExact (f : ℕ → Option Event) (n row : ℕ) (b : Best) : Type 0 where
  pub longest : (s : Stretch) → Ends f n row s → cycles_of s ≤ cycles_of b.longest
  pub least : (s : Stretch) → Ends f n row s → b.least ≤ cycles_of s
  pub some : (s : Stretch) → Ends f n row s → 1 ≤ b.count
  pub ends : 1 ≤ b.count → Ends f n row b.longest

abbrev pub BestsAreExact : Type 0
BestsAreExact = (f : ℕ → Option Event) (n row : ℕ) → IsExact f n row (best_of f n row)
