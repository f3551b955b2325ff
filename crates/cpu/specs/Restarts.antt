-- A restart: what the computer does by itself when its checks fail, or when power comes back.
use Rattle.std.specs.Prelude.{ℕ, true, false, List, [], ◌∷◌, None}
use Rattle.std.specs.FinSet as set
use Rattle.space.specs.Cells.{Cells, put, put_channel, program_counter}
use Rattle.cpu.specs.State.{State, first_address}

-- the channels that a restart clears: those that lead to lamps, to the spacecraft and to the ground
abbrev pub cleared_channels : List ℕ
cleared_channels = 0o5 ∷ 0o6 ∷ 0o10 ∷ 0o11 ∷ 0o12 ∷ 0o13 ∷ 0o14 ∷ 0o34 ∷ 0o35 ∷ []

-- 0 is stored on each of some channels
unfoldable pub cleared : Cells → List ℕ → Cells
cleared cells [] = cells
cleared cells (n ∷ more) = cleared (put_channel cells n 0) more

-- the state after a restart: Z leads to 4000, interrupts are inhibited, none is served and none asked for, extracode, INDEX and
-- RESUME are forgotten, and those channels hold 0; all else is as it was, the cycles and the inputs taken too
unfoldable pub restarted : State → State
restarted s =
    record s {
      cells = cleared (put s.cells program_counter first_address) cleared_channels;
      extra = false;
      inhibit = true;
      inside = false;
      waiting_sum = None;
      waiting_word = None;
      requests = set.empty;
    }
