use Rattle.std.proofs.Common.{◌≡◌, ◌≤◌, ◌+◌, ◌++◌, length, map}
use Rattle.agc_text.specs.Lines.{lines}
use Rattle.yayul.specs.Flight.{most_lines}
use Rattle.yayul.specs.Layout.{Layout, start, layout_after, layout_faults}
use Rattle.yayul.specs.Inside.Representation.{shown_by_mark, lines_show}
use Rattle.yayul.specs.Inside.Answers.{Agrees}
use Rattle.yayul.proofs.assembly.lay_out.Given as goal

abbrev pub invariant-loop-text : goal.invariant-loop-text
invariant-loop-text l = record {
  state : Layout;
  agrees : Agrees l.line state l.layout l.placing;
  same_faults : layout_faults 1 (start l.fn.language) (lines l.source) ≡ layout_faults l.line state (lines l.rest);
  same_layout : layout_after 1 (start l.fn.language) (lines l.source) ≡ layout_after l.line state (lines l.rest);
  same_shown : map shown_by_mark l.initial.marks ++ lines_show 1 (start l.fn.language) (lines l.source)
      ≡ map shown_by_mark l.marks ++ lines_show l.line state (lines l.rest);
  language : state.language ≡ l.fn.language;
  few : l.line ≤ most_lines l.fn.language + 1;
}

abbrev pub decreases-loop-text : goal.decreases-loop-text
decreases-loop-text l = length l.rest
