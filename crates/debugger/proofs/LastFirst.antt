-- Lines of calls, the last of them first.
use Rattle.std.proofs.Common.{◌≡◌, ◌<◌, ◌≤◌, ◌-◌, ◌++◌, ◌∙◌, ℕ, zero, suc, List, [], ◌∷◌, length, take, get_or, ap, sym, arith}
use Rattle.std.proofs.Common.{append_assoc, append-nil}
use Rattle.symbols.specs.Values.{SymbolTable}
use Rattle.debugger.specs.CallsTold.{call_line, call_lines}
use Rattle.debugger.specs.declared.routines.Call.{Call}

-- the last of some more
pub last_first : (symbols : SymbolTable) (calls : List Call) (k : ℕ) (d : Call) → k < length calls
    → call_lines symbols (take (suc k) calls) ≡ call_line symbols (get_or calls k d) ++ call_lines symbols (take k calls)
last_first symbols [] k d less = absurd (omega (arith, less))
last_first symbols (c ∷ more) zero d less = sym (append-nil (call_line symbols c))
last_first symbols (c ∷ more) (suc k) d less =
    ap (λ (x : List ℕ). x ++ call_line symbols c) (last_first symbols more k d (omega (arith, less)))
    ∙ append_assoc (call_line symbols (get_or more k d)) (call_lines symbols (take k more)) (call_line symbols c)

-- its line was appended
pub pushed_call : (symbols : SymbolTable) (calls : List Call) (k : ℕ) (d : Call) (text new whole : List ℕ) → 0 < k → k ≤ length calls
    → d ≡ get_or calls (k - 1) d
    → text ++ call_lines symbols (take k calls) ≡ whole → new ≡ text ++ call_line symbols d
    → new ++ call_lines symbols (take (k - 1) calls) ≡ whole
pushed_call symbols calls zero d text new whole some within is so_far e = absurd (omega (arith, some))
pushed_call symbols calls (suc k) d text new whole some within is so_far e =
    let less : suc k - 1 ≡ k = omega arith in
    let there : d ≡ get_or calls k d = is ∙ ap (λ i. get_or calls i d) less in
    let rest = call_lines symbols (take k calls) in
    let split : call_line symbols d ++ rest ≡ call_lines symbols (take (suc k) calls) = ap (λ (c : Call). call_line symbols c ++ rest) there
    ∙ sym (last_first symbols calls k d (omega (arith, within))) in
    ap (λ i. new ++ call_lines symbols (take i calls)) less ∙ ap (λ (x : List ℕ). x ++ rest) e
    ∙ append_assoc text (call_line symbols d) rest ∙ ap (λ (x : List ℕ). text ++ x) split ∙ so_far
