use Rattle.std.proofs.Common.{◌≡◌, ◌-◌}
use Rattle.std.specs.Prelude.{find}
use Rattle.std.specs.List.{range_with_len}
use Rattle.whatif.specs.Finishes.{differs_at, first_place}
use Rattle.whatif.proofs.finish.first_place.Given as goal

abbrev pub invariant-loop-number : goal.invariant-loop-number
invariant-loop-number l = first_place l.without l.now ≡ find (differs_at l.without l.now) (range_with_len l.number (0o4000 - l.number))
