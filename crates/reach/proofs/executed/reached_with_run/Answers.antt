use Rattle.std.proofs.Common.{◌≡◌, ◌++◌, [], refl}
use Rattle.reach.specs.Ways.{vectors}
use Rattle.reach.proofs.Executing.{mapped, reached_run}
use Rattle.reach.proofs.executed.reached_with_run.Goals as goal

pub returns : goal.returns
returns c =
    let roots : c.as_slice-2.result.now ≡ vectors ++ c.args.executed.now.order =
    rw (
      c.as_slice-2.ensures.value,
      c.in_ok-extend_from_slice-2.ensures.items,
      c.in_ok-extend_from_slice.ensures.items,
      c.new-roots.ensures.items,
      c.as_slice.ensures.value,
      c.vectors.ensures,
      ← c.executed.view_is,
    ) refl in
    mapped _ _ (λ marks h scenario n x. reached_run c.args.rope.now scenario n c.args.executed.now [] c.as_slice-2.result.now marks roots h x)
    c.reached.result c.reached.ensures
