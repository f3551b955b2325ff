-- Whether inputs are still to come.
use Rattle.std.specs.Prelude.{Bool}
use Rattle.std.specs.Prelude.{is_some}
use Rattle.feed.specs.Merged.{due}
use Rattle.cpu.specs.Next.{most_cycles}
use Rattle.cpu.specs.State.{State, Scenario}

-- whether an input that was not taken yet comes by the cycles up to which a step is promised
abbrev pub has_input_left : Scenario → State → Bool
has_input_left scenario s = is_some (due scenario.inputs s.taken most_cycles)
