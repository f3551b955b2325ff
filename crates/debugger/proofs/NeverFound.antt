-- The last step that came to a place, and the last choice that led away from it, by what a search finds.
use Rattle.std.proofs.Common.{◌≡◌, ℕ, ◌+◌, ◌*◌, ◌≤◌, false, Option, Some, ap, ◌∙◌, arith, refl}
use Rattle.std.specs.Option.{option_map}
use Rattle.space.specs.declared.place.Linear.{Linear}
use Rattle.symbols.specs.Values.{SymbolTable}
use Rattle.cpu.specs.State.{Scenario}
use Rattle.cpu.specs.Run.{run}
use Rattle.branches.specs.Branches.{leads_away}
use Rattle.branches.specs.Leading.{is_on_the_way}
use Rattle.replay.specs.Found.{last_found}
use Rattle.debugger.specs.WhysSince.{found_if}
use Rattle.debugger.specs.Nevers.{away_text, comes, last_away, last_came, never_by, never_text}
use Rattle.debugger.specs.Ways.{choice_text}
use Rattle.debugger.proofs.Indexing.{found_last}

pub came_found : (scenario : Scenario) (place : Linear) (p : ℕ) (found : Option (ℕ × ℕ))
    → found ≡ last_found (λ t. found_if (comes scenario place (run scenario t))) p
    → option_map (λ (r : ℕ × ℕ). r.0) found ≡ last_came scenario place p
came_found scenario place p found e =
    ap (option_map (λ (r : ℕ × ℕ). r.0)) e ∙ found_last (λ t. comes scenario place (run scenario t)) p

pub away_found : (scenario : Scenario) (place : Linear) (p : ℕ) (found : Option (ℕ × ℕ))
    → found ≡ last_found (λ t. found_if (leads_away scenario place (run scenario t))) p
    → option_map (λ (r : ℕ × ℕ). r.0) found ≡ last_away scenario place p
away_found scenario place p found e =
    ap (option_map (λ (r : ℕ × ℕ). r.0)) e ∙ found_last (λ t. leads_away scenario place (run scenario t)) p

pub never_is : (symbols : SymbolTable) (scenario : Scenario) (place : Linear) (p : ℕ) (came away : Option ℕ)
    → came ≡ last_came scenario place p → away ≡ last_away scenario place p
    → never_by symbols scenario place p came away ≡ never_text symbols scenario place p
unfolding never_text
never_is symbols scenario place p came away is also =
    ap (λ (o : Option ℕ). never_by symbols scenario place p o away) is
    ∙ ap (λ (o : Option ℕ). never_by symbols scenario place p (last_came scenario place p) o) also

-- the choice is told where the words at the position lead elsewhere
pub away_is : (symbols : SymbolTable) (scenario other : Scenario) (place : Linear) (p : ℕ) (came away : Option ℕ) (step : ℕ)
    → other ≡ scenario → away ≡ Some step → is_on_the_way scenario.rope place (run scenario p) ≡ false
    → choice_text symbols other (Some step) ≡ away_text symbols scenario place p came away
away_is symbols scenario other place p came away step same is apart = rw (same, is, apart) refl

-- what it costs: two searches and the choice
pub never_cost : (first one two now n m k : ℕ) → one ≤ first + 2 * n → two ≤ one + 2 * m → now ≤ two + 103 * k → m ≡ n → k ≡ m
    → now ≤ first + 107 * n
never_cost first one two now n m k a b c same also = omega (arith, a, b, c, same, also)
