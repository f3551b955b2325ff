use Rattle.std.proofs.Common.{◌≡◌, ◌++◌, map, append_assoc}
use Rattle.reach.specs.Named.{named_spot}
use Rattle.reach.specs.Ways.{vectors}
use Rattle.reach.proofs.Executing.{mapped, reached_run}
use Rattle.reach.proofs.named.reached_with_run_and_named.Goals as goal

pub returns : goal.returns
returns c =
    let roots : c.as_slice.result.now ≡ map named_spot c.args.places.now ++ (vectors ++ c.args.executed.now.order) =
    rw (
      c.as_slice.ensures.value,
      c.in_ok-extend_from_slice-2.ensures.items,
      c.in_ok-extend_from_slice.ensures.items,
      c.in_ok-roots.ensures,
      c.in_order.ensures,
      c.vectors.ensures,
    ) (append_assoc (map named_spot c.args.places.now) vectors c.args.executed.now.order) in
    mapped _ _ (λ marks h scenario n x. reached_run c.args.rope.now scenario n c.args.executed.now (map named_spot c.args.places.now)
    c.as_slice.result.now marks roots h x)
    c.reached.result c.reached.ensures
