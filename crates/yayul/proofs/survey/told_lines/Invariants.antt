use Rattle.std.proofs.Common.{◌≡◌, ◌+◌, ◌++◌, drop, map}
use Rattle.yayul.specs.ReadLines.{passed, text_of}
use Rattle.yayul.specs.Survey.{Survey, looked_at, settled_survey, told_lines, unmarked}
use Rattle.yayul.specs.Inside.Surveys.{Surveys}
use Rattle.yayul.proofs.survey.told_lines.Given as goal

abbrev pub invariant-loop-text : goal.invariant-loop-text
invariant-loop-text l = record {
  state : Survey;
  stands : Surveys l.line state l.survey;
  language : state.layout.language ≡ l.source.language;
  same : told_lines (settled_survey (passed l.source)) 1 (unmarked l.source.language) (looked_at l.source.language l.source.text)
      ≡ l.told.items ++ told_lines (settled_survey (passed l.source)) l.line state (map text_of (drop l.text-index l.lines));
  count : l.line ≡ l.text-index + 1;
}
