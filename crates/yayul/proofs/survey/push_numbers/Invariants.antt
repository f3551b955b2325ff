use Rattle.std.proofs.Common.{◌≡◌, ◌≤◌, ◌+◌, ◌++◌, take}
use Rattle.std.specs.Prelude.{flat_map}
use Rattle.arrayvec.specs.ArrayVec.{array_vec_len}
use Rattle.yayul.specs.Inside.Surveys.{number_in}
use Rattle.yayul.proofs.survey.push_numbers.Given as goal

abbrev pub invariant-loop-condition : goal.invariant-loop-condition
invariant-loop-condition l = record {
  items : l.numbers.items ≡ l.initial.numbers.items ++ flat_map number_in (take l.condition-index l.conditions);
  few : array_vec_len l.numbers ≤ array_vec_len l.initial.numbers + l.condition-index;
}
