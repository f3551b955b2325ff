use Rattle.std.proofs.Common.{◌≡◌, ◌++◌, drop}
use Rattle.std.specs.List.{flat_map}
use Rattle.named_source.specs.NamedSources.{name_lines}
use Rattle.named_source.proofs.definitions.push_names.Given as goal

abbrev pub invariant-loop-index : goal.invariant-loop-index
invariant-loop-index l = l.out.items ++ flat_map (name_lines l.labels l.asked) (drop l.index l.names)
    ≡ l.initial.out.items ++ flat_map (name_lines l.labels l.asked) l.names
