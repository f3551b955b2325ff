use Rattle.std.proofs.Common.{◌≡◌, drop, map}
use Rattle.near_names.specs.Names.{is_among}
use Rattle.near_names.proofs.names.is_among.Given as goal

abbrev pub invariant-loop-name : goal.invariant-loop-name
invariant-loop-name l = is_among (map (λ name. name.now) l.names) l.text
    ≡ is_among (map (λ name. name.now) (drop l.name-index l.names)) l.text
