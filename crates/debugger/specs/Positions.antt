-- Where a machine stands, as it is told. Only the contracts of the debugger's parts stand on this.
use Rattle.std.specs.Prelude.{ℕ, List}
use Rattle.words.specs.Numbers.{correct}
use Rattle.cpu.specs.State.{State}
use Rattle.cpu.specs.Effects.{next_address, place_in}
use Rattle.debugger.specs.declared.manner.Manner.{Manner}
use Rattle.debugger.specs.Replies.{address_text}

-- where Z leads in a state
abbrev pub address_of : Manner → State → List ℕ
address_of m s = address_text m (correct (next_address s)) (place_in s (next_address s))
