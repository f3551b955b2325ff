use Rattle.std.proofs.Common.{◌≢◌, length}
use Rattle.std.specs.List.{AllWithin}
use Rattle.replay.proofs.keeper.place_of.Given as goal

abbrev pub invariant-loop-place : goal.invariant-loop-place
invariant-loop-place g l = AllWithin (λ m. m.0 ≢ l.step) l.kept l.place (length l.kept)
