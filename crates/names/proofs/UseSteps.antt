-- What stands in lists from one entry on, and what is counted there.
use Rattle.std.proofs.Common.{◌≡◌, ◌∙◌, ◌+◌, ◌≤◌, ℕ, Bool, true, false, List, ◌∷◌, length, drop, filter, Some, ap, sym, refl, arith}
use Rattle.std.specs.Prelude.{if◌then◌else◌, is_some}
use Rattle.std.specs.List.{slice_get}
use Rattle.words.proofs.Writing.{from_entry}
use Rattle.symbols.specs.Values.{SymbolTable}
use Rattle.symbols.specs.declared.values.Value.{Value}
use Rattle.names.specs.Uses.{has_place, place_of}

-- one more is counted, or is not
counted_by : (b : Bool) (x : List ℕ × Value) (xs : SymbolTable) (count : ℕ)
    → (if b then count + 1 else count) + length xs ≡ count + length (if b then x ∷ xs else xs)
counted_by true x xs count = omega arith
counted_by false x xs count = refl

pub count_more : (names : SymbolTable) (i : ℕ) (x : List ℕ × Value) (count next whole : ℕ) → slice_get names i ≡ Some x
    → next ≡ (if is_some (place_of x.1) then count + 1 else count)
    → count + length (filter has_place (drop i names)) ≡ whole
    → next + length (filter has_place (drop (i + 1) names)) ≡ whole
count_more names i x count next whole at is left =
    ap (λ (n : ℕ). n + length (filter has_place (drop (i + 1) names))) is
    ∙ counted_by (has_place x) x (filter has_place (drop (i + 1) names)) count
    ∙ sym (ap (λ (xs : SymbolTable). count + length (filter has_place xs)) (from_entry names i x at))
    ∙ left

pub few_more : (b : Bool) (count next i : ℕ) → next ≡ (if b then count + 1 else count) → count ≤ i → next ≤ i + 1
few_more true count next i is few = omega (arith, is, few)
few_more false count next i is few = omega (arith, is, few)
