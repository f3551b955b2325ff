use Rattle.std.proofs.Common.{◌≡◌, ◌≤◌, ◌+◌, ◌-◌, ◌++◌, true, length}
use Rattle.words.proofs.text.read_text.Given as goal

abbrev pub invariant-loop-text : goal.invariant-loop-text
invariant-loop-text g l = record {
  front : g.R.Read.told ≡ true → g.R.Read.left l.initial.reader ≡ l.text.items ++ g.R.Read.left l.reader;
  within : length l.text.items ≤ l.most + 1;
  failures : g.R.Read.failures l.reader ≡ g.R.Read.failures l.initial.reader;
}

abbrev pub decreases-loop-text : goal.decreases-loop-text
decreases-loop-text g l = l.most + 1 - length l.text.items
