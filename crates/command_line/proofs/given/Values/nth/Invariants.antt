use Rattle.std.proofs.Common.{◌≡◌, drop}
use Rattle.std.specs.List.{slice_get}
use Rattle.command_line.specs.Found.{values_of}
use Rattle.command_line.specs.Reading.{given_of}
use Rattle.command_line.proofs.given.Values.nth.Given as goal

abbrev pub invariant-loop-it : goal.invariant-loop-it
invariant-loop-it l =
    slice_get (values_of (given_of (drop l.it-index l.self.given.now)) l.name) l.left
    ≡ slice_get (values_of (given_of l.self.given.now) l.name) l.before
