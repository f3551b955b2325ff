-- The last choice before a step, by what a search finds.
use Rattle.std.proofs.Common.{◌≡◌, ℕ, ◌+◌, ◌*◌, ◌≤◌, Bool, List, Option, ap, ◌∙◌, arith}
use Rattle.std.specs.Option.{option_map}
use Rattle.symbols.specs.Values.{SymbolTable}
use Rattle.cpu.specs.State.{Scenario}
use Rattle.cpu.specs.Run.{run}
use Rattle.cpu.specs.declared.spot.Spot.{Spot}
use Rattle.replay.specs.LastHit.{last_hit}
use Rattle.replay.specs.Found.{last_found}
use Rattle.replay.specs.Whys.{last_writer}
use Rattle.debugger.specs.WhysSince.{found_if}
use Rattle.debugger.specs.Ways.{choice_text, control_text, decides, last_choice, way_text, writer_way}
use Rattle.debugger.proofs.Indexing.{found_last}

pub way_found : (scenario other : Scenario) (p : ℕ) (b : Bool) (found : Option (ℕ × ℕ)) → b ≡ (run scenario p).inside → other ≡ scenario
    → found ≡ last_found (λ t. found_if (decides b other (run other t))) p
    → option_map (λ (r : ℕ × ℕ). r.0) found ≡ last_choice scenario p
way_found scenario other p b found is same e =
    ap (option_map (λ (r : ℕ × ℕ). r.0)) e
    ∙ found_last (λ t. decides b other (run other t)) p
    ∙ ap (λ (x : Bool). last_hit (λ t. decides x other (run other t)) p) is
    ∙ ap (λ (q : Scenario). last_hit (λ t. decides (run scenario p).inside q (run q t)) p) same

pub way_is : (symbols : SymbolTable) (scenario other : Scenario) (p : ℕ) (o : Option ℕ) → other ≡ scenario → o ≡ last_choice scenario p
    → choice_text symbols other o ≡ way_text symbols scenario p
unfolding way_text
way_is symbols scenario other p o same e =
    ap (λ (q : Scenario). choice_text symbols q o) same ∙ ap (choice_text symbols scenario) e

pub control_is : (symbols : SymbolTable) (scenario : Scenario) (p : ℕ) (xs : List Spot) (o : Option ℕ) → o ≡ last_writer scenario xs p
    → writer_way symbols scenario xs o ≡ control_text symbols scenario p xs
unfolding control_text
control_is symbols scenario p xs o e = ap (writer_way symbols scenario xs) e

-- what a choice costs: two looks, a search and a look for an INDEX, and its links
pub way_cost : (first at then now n m k : ℕ) → at ≤ first + n → then ≤ at + 4 * m → now ≤ then + 97 * k → m ≡ n → k ≡ m
    → now ≤ first + 102 * n
way_cost first at then now n m k one two three same also = omega (arith, one, two, three, same, also)
