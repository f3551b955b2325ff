-- The nearest name before a place, step by step.
use Rattle.std.proofs.Common.{◌≡◌, ℕ, zero, suc, ◌+◌, ◌-◌, ◌<◌, List, Option, None, refl, arith, ◌∙◌, sym}
use Rattle.std.specs.Option.{option_map, option_or}
use Rattle.space.specs.declared.place.Linear.{Linear}
use Rattle.symbols.specs.Values.{SymbolTable}
use Rattle.trace.specs.TraceLines.{symbol_at}
use Rattle.names.specs.NamedLines.{place_before, nearest}

-- one place further before
nearest_more : (names : SymbolTable) (place : Linear) (d more : ℕ) → 0 < more
    → nearest names place d more ≡ option_or (option_map (λ name. (name, d)) (symbol_at names (place_before place d)))
    (nearest names place (d + 1) (more - 1))
nearest_more names place d zero h = absurd (omega (arith, h))
nearest_more names place d (suc more) h = let e : suc more - 1 ≡ more = omega arith in rw e refl

-- no name stands so many places before
pub nearest_passed : (names : SymbolTable) (place : Linear) (d n : ℕ) (whole : Option (List ℕ × ℕ)) → d < n
    → nearest names place d (n - d) ≡ whole
    → None ≡ symbol_at names (place_before place d) → nearest names place (d + 1) (n - (d + 1)) ≡ whole
nearest_passed names place d n whole below so_far none =
    let less : n - (d + 1) ≡ n - d - 1 = omega arith in
    let one : nearest names place d (n - d) ≡ nearest names place (d + 1) (n - d - 1) = nearest_more names place d (n - d)
    (omega (arith, below)) ∙ rw (← none) refl in
    rw less (sym one ∙ so_far)
