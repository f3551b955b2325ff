use Rattle.std.proofs.Common.{◌≡◌, drop, map}
use Rattle.std.specs.Option.{option_map}
use Rattle.near_names.specs.Names.{near_name}
use Rattle.near_names.proofs.NearNames.{sought}
use Rattle.near_names.proofs.nearness.near_in.Given as goal

abbrev pub invariant-loop-name : goal.invariant-loop-name
invariant-loop-name l =
    near_name (map (λ name. name.now) l.names) l.text
    ≡ sought l.text (option_map (λ name. name.now) l.as_long) (option_map (λ name. name.now) l.near)
    (map (λ name. name.now) (drop l.name-index l.names))
