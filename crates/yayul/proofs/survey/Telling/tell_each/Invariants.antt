use Rattle.std.proofs.Common.{◌≡◌, ◌++◌, ◌&&◌, [], false, not, map, take}
use Rattle.std.specs.List.{filter}
use Rattle.yayul.specs.Survey.{follows, finding}
use Rattle.yayul.specs.Inside.Surveys.{has_number, stands_beyond}
use Rattle.yayul.proofs.survey.Telling.tell_each.Given as goal

abbrev pub invariant-loop-kind : goal.invariant-loop-kind
invariant-loop-kind l = record {
  told : l.told.items ≡ l.initial.told.items
      ++ map (finding l.self.text.now.language l.self.line l.self.text.now.text l.self.taken_by)
      (filter (λ kind. (has_number l.numbers kind && not (follows l.self.doubt kind))
      && stands_beyond l.self.text.now.language l.self.text.now.text l.beyond kind) (take l.kind-index l.kinds));
  others : l.others ≡ false → filter (λ kind. (has_number l.numbers kind && not (follows l.self.doubt kind))
      && not (stands_beyond l.self.text.now.language l.self.text.now.text l.beyond kind)) (take l.kind-index l.kinds) ≡ [];
}
