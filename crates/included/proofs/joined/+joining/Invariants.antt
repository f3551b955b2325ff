use Rattle.std.proofs.Common.{◌≡◌, ◌≤◌, ◌+◌, ◌*◌, true, length}
use Rattle.agc_text.specs.Lines.{lines}
use Rattle.included.specs.Included.{include, join_lines}
use Rattle.included.proofs.joined.+joining.Given as goal

abbrev pub decreases-join_lines : goal.decreases-join_lines
decreases-join_lines g l = 2 * l.level.levels + 1

abbrev pub decreases-take_line : goal.decreases-take_line
decreases-take_line g l = 2 * l.level.levels

abbrev pub invariant-join_lines-loop-line : goal.invariant-join_lines-loop-line
invariant-join_lines-loop-line g l = record {
  left : g.D.Texts.told ≡ true
      → join_lines (include (g.D.Texts.texts l.files) l.level.levels l.level.around.now) l.level.is_ended l.level.file 0 l.initial.joined
      (lines l.text)
      ≡ join_lines (include (g.D.Texts.texts l.files) l.level.levels l.level.around.now) l.level.is_ended l.level.file l.number l.joined
      (lines l.rest);
  few : l.number + length l.rest ≤ length l.text;
}

abbrev pub decreases-join_lines-loop-line : goal.decreases-join_lines-loop-line
decreases-join_lines-loop-line g l = length l.rest
