use Rattle.std.proofs.Common.{◌≡◌, map, take}
use Rattle.debugger.specs.Stopping.{watched_word}
use Rattle.debugger.proofs.noted.watched_words.Given as goal

abbrev pub invariant-loop-breakpoint : goal.invariant-loop-breakpoint
invariant-loop-breakpoint l = l.words.items ≡ map (watched_word l.machine) (take l.breakpoint-index l.breakpoints)
