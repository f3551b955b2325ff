use Rattle.std.proofs.Common.{◌≡◌, ◌≤◌, ◌<◌, true}
use Rattle.commands.specs.Lines.{ReadsWithin, text_ahead, most_ahead}
use Rattle.commands.proofs.LineSteps.{Reading}
use Rattle.commands.proofs.reading.LineReader.next_line.Given as goal

abbrev pub invariant-bytes : goal.invariant-bytes
invariant-bytes g l = record {
  most : most_ahead l.self ≤ most_ahead l.fn.self;
  less : l.begun ≡ true → most_ahead l.self < most_ahead l.fn.self;
  reading : g.R.Read.told ≡ true → Reading (text_ahead l.fn.self (g.R.Read.left l.fn.reader)) (most_ahead l.fn.self) l.line
      (text_ahead l.self (g.R.Read.left l.reader)) (most_ahead l.self) l.begun;
  reads : g.R.Read.told ≡ true → ReadsWithin (g.R.Read.left l.fn.reader) (g.R.Read.left l.reader) l.fn.self.more l.self.more;
  read_failures : g.R.Read.failures l.reader ≡ g.R.Read.failures l.fn.reader;
}

abbrev pub decreases-bytes : goal.decreases-bytes
decreases-bytes g l = most_ahead l.self
