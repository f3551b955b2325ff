use Rattle.std.proofs.Common.{◌≡◌, drop, find, map}
use Rattle.near_names.specs.Names.{is_close}
use Rattle.near_names.proofs.names.close_name.Given as goal

abbrev pub invariant-loop-index : goal.invariant-loop-index
invariant-loop-index l = find (is_close l.closeness l.text) (map (λ e. e.0) l.symbols)
    ≡ find (is_close l.closeness l.text) (drop l.index (map (λ e. e.0) l.symbols))
