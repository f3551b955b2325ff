use Rattle.std.proofs.Common.{◌≡◌, ◌+◌, ◌≤◌, length}
use Rattle.agc_text.specs.Lines.{lines}
use Rattle.audit.specs.OctalTexts.{octal_words, read_lines, state}
use Rattle.audit.proofs.octal_words.octal_words.Given as goal

abbrev pub invariant-loop-line : goal.invariant-loop-line
invariant-loop-line l = record {
  left : octal_words l.text ≡ read_lines l.number (state l.words l.next.0 l.next.1) (lines l.rest);
  few : l.number + length l.rest ≤ length l.text;
}

abbrev pub decreases-loop-line : goal.decreases-loop-line
decreases-loop-line l = length l.rest
