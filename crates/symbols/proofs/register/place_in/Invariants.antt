use Rattle.std.proofs.Common.{◌≡◌, ◌∷◌, drop}
use Rattle.agc_text.specs.Tables.{value_in}
use Rattle.symbols.specs.Registers.{entries}
use Rattle.symbols.proofs.register.place_in.Given as goal

abbrev pub invariant-loop-register : goal.invariant-loop-register
invariant-loop-register l =
    value_in (entries l.table) (l.first ∷ l.rest) ≡ value_in (entries (drop l.register-index l.table)) (l.first ∷ l.rest)
