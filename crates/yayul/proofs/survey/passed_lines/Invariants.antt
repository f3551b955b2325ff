use Rattle.std.proofs.Common.{◌≡◌, ◌+◌, drop, map}
use Rattle.yayul.specs.ReadLines.{passed, text_of}
use Rattle.yayul.specs.Survey.{Survey, passed_lines}
use Rattle.yayul.specs.Inside.Surveys.{Surveys}
use Rattle.yayul.proofs.survey.passed_lines.Given as goal

abbrev pub invariant-loop-text : goal.invariant-loop-text
invariant-loop-text l = record {
  state : Survey;
  stands : Surveys l.line state l.survey;
  language : state.layout.language ≡ l.source.language;
  same : passed_lines l.line state (map text_of (drop l.text-index l.lines)) ≡ passed l.source;
  count : l.line ≡ l.text-index + 1;
}
