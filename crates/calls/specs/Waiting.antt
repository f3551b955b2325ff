-- Where the next instruction stands.
use Rattle.std.specs.Prelude.{ℕ, ◌+◌, ◌%◌, is_some, if◌then◌else◌}
use Rattle.space.specs.declared.place.Linear.{Linear}
use Rattle.cpu.specs.State.{State}
use Rattle.cpu.specs.Effects.{next_address, place_in}

-- Its address is Z's. A word that waits was put off there by an interrupt, and RESUME has brought back the address after it
abbrev pub standing_address : State → ℕ
standing_address s = if is_some s.waiting_word then (next_address s + 0o7777) % 0o10000 else next_address s

abbrev pub standing_place : State → Linear
standing_place s = place_in s (standing_address s)
