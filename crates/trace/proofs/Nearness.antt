-- The symbol before a place, step by step.
use Rattle.std.proofs.Common.{◌≡◌, ℕ, zero, suc, ◌+◌, ◌-◌, ◌<◌, List, Option, None, Some, refl, arith, ◌∙◌, sym}
use Rattle.std.specs.Option.{option_map, option_or}
use Rattle.space.specs.declared.place.Linear.TheVariants.{Erasable}
use Rattle.symbols.specs.Values.{SymbolTable}
use Rattle.trace.specs.TraceLines.{near_symbol, symbol_at}

-- one place further before
near_more : (symbols : SymbolTable) (p d more : ℕ) → 0 < more
    → near_symbol symbols p d more ≡ option_or (option_map (λ name. (name, d)) (symbol_at symbols (Erasable (p - d))))
    (near_symbol symbols p (d + 1) (more - 1))
near_more symbols p d zero h = absurd (omega (arith, h))
near_more symbols p d (suc more) h = let e : suc more - 1 ≡ more = omega arith in rw e refl

-- no symbol stands so many places before
pub near_passed : (symbols : SymbolTable) (p d n : ℕ) (whole : Option (List ℕ × ℕ)) → d < n → near_symbol symbols p (d + 1) (n - d) ≡ whole
    → None ≡ symbol_at symbols (Erasable (p - (d + 1))) → near_symbol symbols p (d + 1 + 1) (n - (d + 1)) ≡ whole
near_passed symbols p d n whole below so_far none =
    let less : n - (d + 1) ≡ n - d - 1 = omega arith in
    let one : near_symbol symbols p (d + 1) (n - d)
    ≡ near_symbol symbols p (d + 1 + 1) (n - d - 1) = near_more symbols p (d + 1) (n - d) (omega (arith, below)) ∙ rw (← none) refl in
    rw less (sym one ∙ so_far)

-- a symbol stands so many places before, and none nearer
pub near_found : (symbols : SymbolTable) (p d n : ℕ) (whole : Option (List ℕ × ℕ)) (name : List ℕ) → d < n
    → near_symbol symbols p (d + 1) (n - d) ≡ whole
    → Some name ≡ symbol_at symbols (Erasable (p - (d + 1))) → Some (name, d + 1) ≡ whole
near_found symbols p d n whole name below so_far found =
    let one : near_symbol symbols p (d + 1) (n - d)
    ≡ Some (name, d + 1) = near_more symbols p (d + 1) (n - d) (omega (arith, below)) ∙ rw (← found) refl in
    sym one ∙ so_far
