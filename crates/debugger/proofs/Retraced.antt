-- The last steps up to one, a line each, by the steps that are made once more.
use Rattle.std.proofs.Common.{◌≡◌, ℕ, zero, suc, ◌+◌, ◌-◌, ◌<◌, ◌≤◌, leb, true, false, [], min, refl, sym, ◌∙◌, arith}
use Rattle.std.proofs.lemmas.Bool.Decides.{nat_tests}
use Rattle.cpu.specs.State.{Scenario}
use Rattle.symbols.specs.Values.{SymbolTable}
use Rattle.say.specs.declared.form.LineForm.{LineForm}
use Rattle.say.specs.Said.{told_line, told_lines}
use Rattle.say.proofs.Lines.{lines_more}
use Rattle.replay.specs.Retraced.{texts_after}
use Rattle.debugger.specs.Retracing.{traced_text}

early : (first number : ℕ) → number < first → leb first number ≡ false
early first number h = grind (arith, nat_tests)

late : (first number : ℕ) → first ≤ number → leb first number ≡ true
late first number h = grind (arith, nat_tests)

-- before the first of them there is no line
none_before : (f : LineForm) (symbols : SymbolTable) (scenario : Scenario) (first n : ℕ) → n < first
    → told_lines f symbols scenario first n ≡ []
unfolding told_lines
none_before f symbols scenario first zero h = refl
none_before f symbols scenario first (suc n) h = rw (none_before f symbols scenario first n (omega (arith, h)), early first (suc n) h) refl

-- the lines of m steps after step low
lines_after : (f : LineForm) (symbols : SymbolTable) (scenario : Scenario) (low m : ℕ)
    → texts_after (λ number s. told_line f symbols scenario number s) scenario low m ≡ told_lines f symbols scenario (low + 1) (low + m)
lines_after f symbols scenario low zero =
    let here : low + 0 ≡ low = omega arith in
    rw here (sym (none_before f symbols scenario (low + 1) low (omega arith)))
lines_after f symbols scenario low (suc m) =
    let next : low + suc m ≡ low + m + 1 = omega arith in
    let shown : leb (low + 1) (low + m + 1) ≡ true = late (low + 1) (low + m + 1) (omega arith) in
    rw (next, lines_more f symbols scenario (low + 1) (low + m), shown, lines_after f symbols scenario low m) refl

pub traced : (f : LineForm) (symbols : SymbolTable) (scenario : Scenario) (p k count low : ℕ) → count ≡ min k p → low ≡ p - count
    → texts_after (λ number s. told_line f symbols scenario number s) scenario low count ≡ traced_text f symbols scenario p k
traced f symbols scenario p k count low is at =
    let end : low + count ≡ p = omega (arith, is, at) in
    let first : low + 1 ≡ p - k + 1 = omega (arith, is, at) in
    lines_after f symbols scenario low count ∙ rw (end, first) refl
