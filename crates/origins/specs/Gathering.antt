-- What a chain comes from, gathered over its steps, the last first.
use Rattle.std.specs.Prelude.{ℕ, zero, suc, ◌+◌, List, [], ◌∷◌, replicate, Option, Some, None, get_or, set}
use Rattle.std.specs.Prelude.{if◌then◌else◌}
use Rattle.cpu.specs.Chains.{cells_among, link_at, writes_some}
use Rattle.cpu.specs.Links.{Link, link, targets}
use Rattle.cpu.specs.NextStep.{next_step}
use Rattle.cpu.specs.Run.{run}
use Rattle.cpu.specs.State.{State, Scenario}
use Rattle.cpu.specs.declared.next_step.NextStep.{NextStep}
use Rattle.cpu.specs.declared.next_step.NextStep.TheVariants.{Takes, Enters, Executes}
use Rattle.cpu.specs.declared.spot.Spot.{Spot}
use Rattle.cpu.specs.declared.spot.Spot.TheVariants.{Cell, InRope}
use Rattle.replay.specs.Whys.{why_steps}
use Rattle.origins.specs.Following.{CellSet, cells_before, reads, those_in}
use Rattle.origins.specs.Lines.{Table, no_lines, with_origin}
use Rattle.origins.specs.Served.{served}
use Rattle.origins.specs.Tallies.{no_steps, with_step}
use Rattle.origins.specs.declared.origin.Origin.TheVariants.{Taken, Fixed}
use Rattle.origins.specs.declared.tally.Tally.{Tally}

-- the cells that are followed, the lines of what came in, and the steps on each level: outside of interrupts, and in each of them
pub record Gathering : Type 0 where
  pub followed : CellSet
  pub table : Table
  pub levels : List Tally

-- how many levels there are
abbrev pub level_count : ℕ
level_count = 11

-- before any step
abbrev pub nothing_of : CellSet → Gathering
nothing_of cells = record { followed = cells; table = no_lines; levels = replicate level_count no_steps }

-- the number of a level
abbrev pub level_of : Option ℕ → ℕ
level_of None = 0
level_of (Some k) = k

abbrev pub with_level : ℕ → ℕ → List Tally → List Tally
with_level number level levels = set levels level (with_step number (get_or levels level no_steps))

-- a step takes an input
abbrev pub with_input : ℕ → NextStep → Table → Table
with_input number (Takes input) t = with_origin number (Taken input) t
with_input number (Enters k) t = t
with_input number (Executes f) t = t

-- a step reads some spots, of which those of fixed memory are told
abbrev pub with_words : ℕ → List Spot → Table → Table
with_words number [] t = t
with_words number (Cell c ∷ xs) t = with_words number xs t
with_words number (InRope bank offset ∷ xs) t = with_words number xs (with_origin number (Fixed bank offset) t)

-- a step of the chain, by its number, the interrupt that it stands in, what it is and its link
abbrev pub with_link : ℕ → Option ℕ → NextStep → Link → Gathering → Gathering
with_link number k step l g =
    record {
      followed = cells_before l g.followed;
      table = with_words number (reads l (those_in (targets l) g.followed)) (with_input number step g.table);
      levels = with_level number (level_of k) g.levels;
    }

-- the step of a state, which is one of the chain where it writes a cell that is followed
abbrev pub seen_at : Scenario → State → Option ℕ → ℕ → Gathering → Gathering
seen_at scenario s k t g =
    if writes_some (link scenario s) g.followed then with_link (t + 1) k (next_step scenario s) (link scenario s) g else g

-- the step after t steps
abbrev pub seen : Scenario → ℕ → Gathering → Gathering
seen scenario t g = seen_at scenario (run scenario t) (served scenario t) t g

-- m steps after step low, the last first
abbrev pub seen_back : Scenario → ℕ → ℕ → Gathering → Gathering
seen_back scenario low zero g = g
seen_back scenario low (suc m) g = seen_back scenario low m (seen scenario (low + m) g)

-- the steps of a chain, the last first
abbrev pub gathered : Scenario → List ℕ → Gathering → Gathering
gathered scenario [] g = g
gathered scenario (t ∷ ts) g =
    gathered scenario ts (with_link (t + 1) (served scenario t) (next_step scenario (run scenario t)) (link_at scenario t) g)

-- all steps by which what stands at some spots after p steps came to be: those of `why`, with no limit but p
unfoldable pub whole_chain : Scenario → ℕ → List Spot → Gathering
whole_chain scenario p xs = gathered scenario (why_steps scenario p p xs) (nothing_of (cells_among xs))
