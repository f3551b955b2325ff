-- No register has a name of another first byte.
use Rattle.std.proofs.Common.{◌≡◌, ◌∙◌, ℕ, Bool, true, false, ◌&&◌, ◌||◌, cond, List, [], ◌∷◌, Some, None, refl, ap, sym}
use Rattle.std.specs.Prelude.{◌==◌, nat_eq}
use Rattle.std.specs.Cmp.Lexicographic.{pointwise}
use Rattle.std.specs.List.{list_any}
use Rattle.agc_text.specs.Tables.{value_in}
use Rattle.symbols.specs.Registers.{begins_register, registers}

none_first : (a b : Bool) → (a || b) ≡ false → a ≡ false
none_first true b e = e
none_first false b e = refl

none_later : (a b : Bool) → (a || b) ≡ false → b ≡ false
none_later true true e = e
none_later true false e = refl
none_later false b e = e

both_none : (a b : Bool) → a ≡ false → b ≡ false → (a || b) ≡ false
both_none true b one other = one
both_none false b one other = other

abbrev begins_with : ℕ → List ℕ → Bool
begins_with first [] = false
begins_with first (byte ∷ bytes) = first == byte

-- a table of names that all begin with other bytes
none_at : (table : List (List ℕ × List ℕ)) (first : ℕ) (rest : List ℕ) → list_any (λ e. begins_with first e.0) table ≡ false
    → None ≡ value_in table (first ∷ rest)
none_at [] first rest e = refl
none_at (([], value) ∷ table) first rest e = none_at table first rest e
none_at ((byte ∷ bytes, value) ∷ table) first rest e =
    none_at table first rest (none_later _ _ e)
    ∙ ap (λ same. cond (same && pointwise nat_eq rest bytes) (Some value) (value_in table (first ∷ rest))) (sym (none_first _ _ e))

pub no_register : (first : ℕ) (rest : List ℕ) → begins_register first ≡ false → None ≡ value_in registers (first ∷ rest)
no_register first rest e12 =
    let no_Z : (first == 90) ≡ false = none_later _ _ e12 in
    let e11 = none_first _ _ e12 in
    let no_T : (first == 84) ≡ false = none_later _ _ e11 in
    let e10 = none_first _ _ e11 in
    let no_S : (first == 83) ≡ false = none_later _ _ e10 in
    let e9 = none_first _ _ e10 in
    let no_Q : (first == 81) ≡ false = none_later _ _ e9 in
    let e8 = none_first _ _ e9 in
    let no_P : (first == 80) ≡ false = none_later _ _ e8 in
    let e7 = none_first _ _ e8 in
    let no_O : (first == 79) ≡ false = none_later _ _ e7 in
    let e6 = none_first _ _ e7 in
    let no_L : (first == 76) ≡ false = none_later _ _ e6 in
    let e5 = none_first _ _ e6 in
    let no_I : (first == 73) ≡ false = none_later _ _ e5 in
    let e4 = none_first _ _ e5 in
    let no_F : (first == 70) ≡ false = none_later _ _ e4 in
    let e3 = none_first _ _ e4 in
    let no_E : (first == 69) ≡ false = none_later _ _ e3 in
    let e2 = none_first _ _ e3 in
    let no_C : (first == 67) ≡ false = none_later _ _ e2 in
    let e1 = none_first _ _ e2 in
    let no_B : (first == 66) ≡ false = none_later _ _ e1 in
    let no_A : (first == 65) ≡ false = none_first _ _ e1 in
    none_at registers first rest (
    both_none _ _ no_A (both_none _ _ no_L (both_none _ _ no_Q (both_none _ _ no_E (both_none _ _ no_E (both_none _ _ no_F (
    both_none _ _ no_F (both_none _ _ no_Z (both_none _ _ no_B (both_none _ _ no_B (both_none _ _ no_Z (both_none _ _ no_A (
    both_none _ _ no_L (both_none _ _ no_Q (both_none _ _ no_Z (both_none _ _ no_B (both_none _ _ no_B (both_none _ _ no_C (
    both_none _ _ no_S (both_none _ _ no_C (both_none _ _ no_E (both_none _ _ no_T (both_none _ _ no_T (both_none _ _ no_T (
    both_none _ _ no_T (both_none _ _ no_T (both_none _ _ no_T (both_none _ _ no_C (both_none _ _ no_C (both_none _ _ no_C (
    both_none _ _ no_O (both_none _ _ no_O (both_none _ _ no_P (both_none _ _ no_P (both_none _ _ no_P (
    both_none _ _ no_I (refl))))))))))))))))))))))))))))))))))))
    )
