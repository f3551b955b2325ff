-- Pairs of fields are limits, one after another.
use Rattle.std.proofs.Common.{◌≡◌, ℕ, List, [], ◌∷◌, ◌++◌, Some, option_and_then, sym, ap, ◌∙◌}
use Rattle.symbols.specs.Values.{SymbolTable}
use Rattle.bound.specs.declared.charge.Limit.{Limit}
use Rattle.bound.specs.Asked.{limit_named, limits_named}

pub limits_more : (symbols : SymbolTable) (limits : List Limit) (place number : List ℕ) (limit : Limit) (all after fields : List (List ℕ))
    → all ≡ place ∷ after → after ≡ number ∷ fields → Some limit ≡ limit_named symbols place number
    → limits_named symbols (limits ++ limit ∷ []) fields ≡ limits_named symbols limits all
limits_more symbols limits place number limit all after fields e f g =
    ap (option_and_then (λ x. limits_named symbols (limits ++ x ∷ []) fields)) g
    ∙ sym (ap (limits_named symbols limits) (e ∙ ap (λ r. place ∷ r) f))
