-- The text of a run that is traced.
use Rattle.std.proofs.Common.{◌≡◌, ◌∙◌, ℕ, ◌+◌, nat_le, nat_lt, true, false, if◌then◌else◌, List, [], ◌++◌, ap, arith, refl, sym}
use Rattle.std.proofs.lemmas.Bool.Decides.{nat_tests}
use Rattle.words.proofs.Texts.{first_begins}
use Rattle.cpu.specs.State.{Scenario, State}
use Rattle.cpu.specs.Run.{run}
use Rattle.symbols.specs.Values.{SymbolTable}
use Rattle.say.specs.declared.form.LineForm.{LineForm}
use Rattle.say.specs.Said.{told_from, told_line, told_lines}
use Rattle.say.proofs.Lines.{lines_more, no_lines}
use Rattle.workshop.specs.Stepping.{Grows}

-- the lines of a trace grow with its steps
pub traced_grows : (form : LineForm) (symbols : SymbolTable) (scenario : Scenario) (first : ℕ)
    → Grows (told_lines form symbols scenario first)
traced_grows form symbols scenario first = record {
  none = sym (no_lines form symbols scenario first []);
  more = λ n. rw (lines_more form symbols scenario first n) (first_begins _ _);
}

-- the lines of a trace with that of the step that follows a state
pub traced_more : (form : LineForm) (symbols : SymbolTable) (scenario : Scenario) (first n : ℕ) (s : State) → s ≡ run scenario n
    → told_lines form symbols scenario first (n + 1)
    ≡ told_lines form symbols scenario first n ++ told_from form symbols scenario first (n + 1) s
traced_more form symbols scenario first n s here = rw here (lines_more form symbols scenario first n)

-- that is none before the first step whose line is written, and from there on its line
not_told : (A : List ℕ) (first number : ℕ) → nat_lt number first ≡ true → (if nat_le first number then A else []) ≡ []
not_told A first number e = let test : nat_le first number ≡ false = grind (arith, nat_tests) in rw test refl

is_told : (A : List ℕ) (first number : ℕ) → nat_lt number first ≡ false → (if nat_le first number then A else []) ≡ A
is_told A first number e = let test : nat_le first number ≡ true = grind (arith, nat_tests) in rw test refl

pub traced_none : (form : LineForm) (symbols : SymbolTable) (scenario : Scenario) (first n : ℕ) (s : State) → s ≡ run scenario n
    → nat_lt (n + 1) first ≡ true
    → told_lines form symbols scenario first (n + 1) ≡ told_lines form symbols scenario first n ++ []
traced_none form symbols scenario first n s here e =
    traced_more form symbols scenario first n s here
    ∙ ap (λ (t : List ℕ). told_lines form symbols scenario first n ++ t)
    (not_told (told_line form symbols scenario (n + 1) s) first (n + 1) e)

pub traced_line : (form : LineForm) (symbols : SymbolTable) (scenario : Scenario) (first n : ℕ) (s : State) → s ≡ run scenario n
    → nat_lt (n + 1) first ≡ false
    → told_lines form symbols scenario first (n + 1)
    ≡ told_lines form symbols scenario first n ++ told_line form symbols scenario (n + 1) s
traced_line form symbols scenario first n s here e =
    traced_more form symbols scenario first n s here
    ∙ ap (λ (t : List ℕ). told_lines form symbols scenario first n ++ t)
    (is_told (told_line form symbols scenario (n + 1) s) first (n + 1) e)
