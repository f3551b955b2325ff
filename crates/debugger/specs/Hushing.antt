-- What is told of outputs that were counted. Only the contracts of the debugger's parts stand on this.
use Rattle.std.specs.Prelude.{ℕ, Bool, true, false, List, []}
use Rattle.debugger.specs.Growth.{words_line}

-- how many there are, where they are counted
abbrev pub count_told : Bool → ℕ → List ℕ
count_told false count = []
count_told true count = words_line count
