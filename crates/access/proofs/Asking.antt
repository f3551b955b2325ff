-- The first cell that is shown so.
use Rattle.std.proofs.Common.{◌≡◌, ℕ, zero, suc, ◌+◌, ◌-◌, ◌<◌, true, false, List, Option, Some, None, refl, arith, ap, ◌∙◌, add-one}
use Rattle.std.proofs.Common.{if◌then◌else◌}
use Rattle.std.specs.Option.{option_or}
use Rattle.agc_text.specs.Tables.{same_name}
use Rattle.symbols.specs.Values.{SymbolTable}
use Rattle.trace.specs.TraceLines.{cell_name}
use Rattle.access.specs.Asked.{first_shown}

-- the cell of a number, where it is shown so
abbrev this : SymbolTable → List ℕ → ℕ → Option ℕ
this symbols text n = if same_name (cell_name symbols n) text then Some n else None

pub none_first : (symbols : SymbolTable) (text : List ℕ) → first_shown symbols text 0 ≡ None
unfolding first_shown
none_first symbols text = refl

pub none_more : (symbols : SymbolTable) (text : List ℕ) (n : ℕ) → first_shown symbols text n ≡ None
    → same_name (cell_name symbols n) text ≡ false → first_shown symbols text (n + 1) ≡ None
unfolding first_shown
none_more symbols text n none away =
    rw (add-one n) (ap (λ (o : Option ℕ). option_or o (this symbols text n)) none ∙ ap (λ b. if b then Some n else None) away)

found_later : (symbols : SymbolTable) (text : List ℕ) (n k m : ℕ) → m ≡ suc (n + k) → first_shown symbols text n ≡ None
    → same_name (cell_name symbols n) text ≡ true → first_shown symbols text m ≡ Some n
unfolding first_shown
found_later symbols text n zero m e none here =
    let last : m ≡ suc n = omega (arith, e) in
    rw last (ap (λ (o : Option ℕ). option_or o (this symbols text n)) none ∙ ap (λ b. if b then Some n else None) here)
found_later symbols text n (suc k) m e none here =
    let last : m ≡ suc (suc (n + k)) = omega (arith, e) in
    rw last (ap (λ (o : Option ℕ). option_or o (this symbols text (suc (n + k))))
    (found_later symbols text n k (suc (n + k)) refl none here))

pub first_found : (symbols : SymbolTable) (text : List ℕ) (n count : ℕ) → n < count → first_shown symbols text n ≡ None
    → same_name (cell_name symbols n) text ≡ true → first_shown symbols text count ≡ Some n
first_found symbols text n count lt none here = found_later symbols text n (count - suc n) count (omega (arith, lt)) none here

pub ruleset first_steps = (first_found, none_first, none_more)
