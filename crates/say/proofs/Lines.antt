-- The lines of a run, one after another.
use Rattle.std.proofs.Common.{◌≡◌, ℕ, zero, suc, ◌+◌, List, ◌++◌, refl, sym, arith, append-nil, add-one}
use Rattle.words.specs.Devices.{WritesBeginning}
use Rattle.words.proofs.Texts.{beginning-longer}
use Rattle.cpu.specs.Run.{run}
use Rattle.cpu.specs.State.{Scenario}
use Rattle.symbols.specs.Values.{SymbolTable}
use Rattle.say.specs.declared.form.LineForm.{LineForm}
use Rattle.say.specs.Said.{told_from, told_lines}

-- before the first step there is none
pub no_lines : (r : LineForm) (symbols : SymbolTable) (scenario : Scenario) (first : ℕ) (a : List ℕ)
    → a ≡ a ++ told_lines r symbols scenario first 0
unfolding told_lines
no_lines r symbols scenario first a = sym (append-nil a)

-- one step more
pub lines_more : (r : LineForm) (symbols : SymbolTable) (scenario : Scenario) (first n : ℕ)
    → told_lines r symbols scenario first (n + 1)
    ≡ told_lines r symbols scenario first n ++ told_from r symbols scenario first (n + 1) (run scenario n)
unfolding told_lines
lines_more r symbols scenario first n = rw (add-one n) refl

-- a beginning of the lines of some steps is one of those of more steps
pub begins_longer : (r : LineForm) (symbols : SymbolTable) (scenario : Scenario) (first n k m : ℕ) (a c : List ℕ) → m ≡ n + k
    → WritesBeginning a c (told_lines r symbols scenario first n) → WritesBeginning a c (told_lines r symbols scenario first m)
begins_longer r symbols scenario first n zero m a c e part = let same : m ≡ n = omega arith in rw same part
begins_longer r symbols scenario first n (suc k) m a c e part =
    let before : WritesBeginning a c (told_lines r symbols scenario first (n + k)) = begins_longer r symbols scenario first n k (n + k) a c
    refl part in
    let last : m ≡ (n + k) + 1 = omega arith in
    rw (last, lines_more r symbols scenario first (n + k)) (beginning-longer a c _ _ before)
