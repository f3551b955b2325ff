-- Some steps of a chain.
use Rattle.std.specs.Prelude.{ℕ, ◌+◌, ◌-◌, ◌^◌, ◌==◌, min, if◌then◌else◌}
use Rattle.origins.specs.declared.tally.Tally.{Tally}

-- none
abbrev pub no_steps : Tally
no_steps = record { count = 0; first = 0; last = 0 }

-- a step more, by its number, which comes before all others; a count stays at its greatest value
abbrev pub with_step : ℕ → Tally → Tally
with_step number t =
    record { count = min (t.count + 1) (2 ^ 64 - 1); first = number; last = if t.count == 0 then number else t.last }
