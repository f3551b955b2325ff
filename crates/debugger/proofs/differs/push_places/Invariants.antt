use Rattle.std.proofs.Common.{◌≡◌, ◌≤◌, ◌*◌, ◌++◌, length}
use Rattle.std.specs.Prelude.{◌==◌, not, filter}
use Rattle.std.specs.List.{flat_map, range_with_len}
use Rattle.arrayvec.specs.ArrayVec.{array_vec_len}
use Rattle.space.specs.Cells.{get}
use Rattle.debugger.specs.Differs.{erasable_line}
use Rattle.debugger.proofs.differs.push_places.Given as goal

abbrev pub invariant-loop-number : goal.invariant-loop-number
invariant-loop-number l = record {
  items : l.text.items ≡ l.initial.text.items ++ flat_map (erasable_line l.new)
      (filter (λ p. not (get l.old p == get l.new p)) (range_with_len 0 l.number));
  count : l.count ≡ length (filter (λ p. not (get l.old p == get l.new p)) (range_with_len 0 l.number));
  few : l.count ≤ l.number;
  len : array_vec_len l.text ≤ 18 * l.number;
}
