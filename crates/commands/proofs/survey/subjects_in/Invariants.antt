use Rattle.std.proofs.Common.{◌≤◌, ◌-◌, length}
use Rattle.std.specs.List.{All}
use Rattle.agc_text.specs.Fields.{runs, texts}
use Rattle.commands.specs.Surveys.{most_surveyed}
use Rattle.commands.proofs.SubjectLists.{GoesOn}
use Rattle.commands.proofs.survey.subjects_in.Given as goal

abbrev pub invariant-fields : goal.invariant-fields
invariant-fields l = record {
  few : length l.subjects ≤ most_surveyed;
  short : All (λ field. length field ≤ 80) (texts (runs l.left));
  so_far : GoesOn l.symbols (texts (runs l.rest)) l.subjects (texts (runs l.left));
}

abbrev pub decreases-fields : goal.decreases-fields
decreases-fields l = most_surveyed - length l.subjects
