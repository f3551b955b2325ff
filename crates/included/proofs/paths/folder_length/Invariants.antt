use Rattle.std.proofs.Common.{◌≡◌, ◌≤◌, length}
use Rattle.included.specs.Located.{folder_length}
use Rattle.included.proofs.paths.folder_length.Given as goal

abbrev pub invariant-loop-end : goal.invariant-loop-end
invariant-loop-end l = record {
  within : l.end ≤ length l.path;
  same : folder_length l.path l.end ≡ folder_length l.path (length l.path);
}

abbrev pub decreases-loop-end : goal.decreases-loop-end
decreases-loop-end l = l.end
