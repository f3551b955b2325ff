-- Machines that differ at most in their cycles, and in the inputs that they have taken.
use Rattle.std.specs.Prelude.{ℕ, zero, suc, ◌+◌, ◌==◌, ◌&&◌, not, Bool, true, false, Option, None, Some, if◌then◌else◌}
use Rattle.std.specs.FinSet.{FinSet, contains}
use Rattle.std.specs.Ordering.{nat_cmp}
use Rattle.space.specs.Cells.{Cells, channel_count, erasable_count, get, get_channel, program_counter}
use Rattle.cpu.specs.Representation.{request_count}
use Rattle.cpu.specs.State.{State}

-- the same stands in a register, or in an erasable place
abbrev pub same_place : Cells → Cells → ℕ → Bool
same_place one other place = get one place == get other place

-- the same stands on a channel
abbrev pub same_channel : Cells → Cells → ℕ → Bool
same_channel one other channel = get_channel one channel == get_channel other channel

abbrev pub same_flag : Bool → Bool → Bool
same_flag one other = if one then other else not other

-- an interrupt is asked for in both, or in neither; those before it are numbered from 0 on, interrupts from 1 on
abbrev pub same_request : FinSet nat_cmp → FinSet nat_cmp → ℕ → Bool
same_request one other before = same_flag (contains one (before + 1)) (contains other (before + 1))

-- the same waits, or nothing in both
abbrev pub same_waiting : Option ℕ → Option ℕ → Bool
same_waiting None None = true
same_waiting None (Some there) = false
same_waiting (Some here) None = false
same_waiting (Some here) (Some there) = here == there

-- a test holds of all numbers below n
unfoldable pub all_below : (ℕ → Bool) → ℕ → Bool
all_below test zero = true
all_below test (suc n) = all_below test n && test n

abbrev pub same_places : Cells → Cells → ℕ → Bool
same_places one other = all_below (same_place one other)

abbrev pub same_channels : Cells → Cells → ℕ → Bool
same_channels one other = all_below (same_channel one other)

abbrev pub same_requests : FinSet nat_cmp → FinSet nat_cmp → ℕ → Bool
same_requests one other = all_below (same_request one other)

-- extracode is in force in both or in neither, interrupts are inhibited, and one is being served
abbrev pub same_flags : State → State → Bool
same_flags one other = same_flag one.extra other.extra && same_flag one.inhibit other.inhibit && same_flag one.inside other.inside

abbrev pub same_waits : State → State → Bool
same_waits one other = same_waiting one.waiting_sum other.waiting_sum && same_waiting one.waiting_word other.waiting_word

-- all that a step depends on is the same where Z is, but for the cycles and the inputs taken
abbrev pub same_rest : State → State → Bool
same_rest one other =
    same_flags one other
    && same_waits one other
    && same_places one.cells other.cells erasable_count
    && same_channels one.cells other.cells channel_count
    && same_requests one.requests other.requests request_count

-- Z stands first, since it differs soonest
abbrev pub are_alike : State → State → Bool
are_alike one other = same_place one.cells other.cells program_counter && same_rest one other
