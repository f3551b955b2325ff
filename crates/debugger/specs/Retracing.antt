-- The last steps up to one, a line each.
use Rattle.std.specs.Prelude.{ℕ, ◌+◌, ◌-◌, List}
use Rattle.cpu.specs.State.{Scenario}
use Rattle.symbols.specs.Values.{SymbolTable}
use Rattle.say.specs.declared.form.LineForm.{LineForm}
use Rattle.say.specs.Said.{told_lines}

-- the lines of the last k of p steps, or of all, in a form
abbrev pub traced_text : LineForm → SymbolTable → Scenario → ℕ → ℕ → List ℕ
traced_text form symbols scenario p k = told_lines form symbols scenario (p - k + 1) p
