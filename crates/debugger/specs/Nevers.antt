-- Why the program never came to a place: the last branch that led away from it, or what else kept it away.
use Rattle.std.specs.Prelude.{ℕ, ◌+◌, nat_lt, not, List, [], ◌++◌, Bool, Option, None, Some, codes, decimal, if◌then◌else◌}
use Rattle.std.specs.FinSet.{contains}
use Rattle.space.specs.declared.place.Linear.{Linear}
use Rattle.symbols.specs.Values.{SymbolTable}
use Rattle.cpu.specs.State.{State, Scenario}
use Rattle.cpu.specs.Run.{run}
use Rattle.cpu.specs.Profiles.{account_of}
use Rattle.replay.specs.LastHit.{last_hit}
use Rattle.branches.specs.Leading.{entry_to, is_on_the_way}
use Rattle.branches.specs.Branches.{leads_away}
use Rattle.debugger.specs.Growth.{is_executed}
use Rattle.debugger.specs.History.{place_executed}
use Rattle.debugger.specs.Replies.{line}
use Rattle.debugger.specs.Ways.{choice_text}

-- whether the next step executes the instruction at a place
abbrev pub comes : Scenario → Linear → State → Bool
comes scenario place s = is_executed (place_executed (account_of scenario s)) place

-- the last of p steps that did, and the last that led away from the place
abbrev pub last_came : Scenario → Linear → ℕ → Option ℕ
last_came scenario place p = last_hit (λ t. comes scenario place (run scenario t)) p

abbrev pub last_away : Scenario → Linear → ℕ → Option ℕ
last_away scenario place p = last_hit (λ t. leads_away scenario place (run scenario t)) p

-- the second of two steps, where it is later than the first, or the first is none
abbrev pub later : Option ℕ → Option ℕ → Option ℕ
later None away = away
later (Some came) None = None
later (Some came) (Some away) = if nat_lt came away then Some away else None

-- the line of the step that came there last
abbrev pub came_text : Option ℕ → List ℕ
came_text None = []
came_text (Some t) = line (codes "CAME " ++ decimal (t + 1))

-- what keeps an interrupt from being entered: it is not asked for, or one is served, or they are inhibited; else nothing lasting
abbrev pub barred_text : State → ℕ → List ℕ
barred_text s k =
    if not (contains s.requests k) then codes " NOT ASKED"
    else (if s.inside then codes " INSIDE"
    else (if s.inhibit then codes " INHIBITED"
    else codes " ASKED"))

-- where no choice led away: the interrupt whose entry leads to the place, if there is one; else that there was no choice, where
-- no step came
abbrev pub kept_away : Option ℕ → State → Option ℕ → List ℕ
kept_away came s (Some k) = line (codes "INTERRUPT " ++ decimal k ++ barred_text s k)
kept_away None s None = line (codes "NO CHOICE LED AWAY")
kept_away (Some t) s None = []

-- the choice, with how what it was made by came to be; or what else
abbrev pub parted_text : SymbolTable → Scenario → Linear → ℕ → Option ℕ → Option ℕ → List ℕ
parted_text symbols scenario place p came None = kept_away came (run scenario p) (entry_to scenario.rope (run scenario p) place)
parted_text symbols scenario place p came (Some t) = choice_text symbols scenario (Some t)

-- the same, unless the words where the program stands lead to the place
abbrev pub away_text : SymbolTable → Scenario → Linear → ℕ → Option ℕ → Option ℕ → List ℕ
away_text symbols scenario place p came away =
    if is_on_the_way scenario.rope place (run scenario p) then line (codes "ON THE WAY")
    else parted_text symbols scenario place p came away

-- the step that came to a place last, of the first p, and the last choice since then that led away from it
abbrev pub never_by : SymbolTable → Scenario → Linear → ℕ → Option ℕ → Option ℕ → List ℕ
never_by symbols scenario place p came away = came_text came ++ away_text symbols scenario place p came (later came away)

unfoldable pub never_text : SymbolTable → Scenario → Linear → ℕ → List ℕ
never_text symbols scenario place p = never_by symbols scenario place p (last_came scenario place p) (last_away scenario place p)
