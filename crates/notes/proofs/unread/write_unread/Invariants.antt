use Rattle.std.proofs.Common.{◌≡◌, ◌++◌, true}
use Rattle.audit.proofs.PartTexts.{front}
use Rattle.notes.specs.Unread.{unread_of}
use Rattle.notes.proofs.unread.write_unread.Given as goal

abbrev pub invariant-loop-number : goal.invariant-loop-number
invariant-loop-number g l = record {
  written : g.W.Write.told ≡ true → g.W.Write.written l.out
      ≡ g.W.Write.written l.initial.out ++ front (unread_of l.notation l.cycles l.past) l.number;
  failures : g.W.Write.failures l.out ≡ g.W.Write.failures l.initial.out;
}
