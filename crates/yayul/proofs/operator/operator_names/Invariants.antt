use Rattle.std.proofs.Common.{◌≡◌, ◌++◌, drop, length, map}
use Rattle.agc_text.specs.Tables.{named}
use Rattle.yayul.specs.Roles.{names_of_length}
use Rattle.yayul.proofs.operator.operator_names.Given as goal

abbrev pub invariant-loop-name : goal.invariant-loop-name
invariant-loop-name l = record {
  left : map (λ name. name.now) l.names.items ++ map (λ row. row.0) (named (drop l.name-index l.rows)) ≡ names_of_length l.count;
  count : length l.names.items ≡ l.name-index;
}
