use Rattle.std.proofs.Common.{◌≡◌, ◌+◌, ◌-◌, ◌∙◌, replicate, sym, ap, arith, subst}
use Rattle.trace.specs.PlaceNumbers.{AreFirst, place_count}
use Rattle.trace.proofs.Finding.{none_first, within_stands, first_passed, first_kept}
use Rattle.trace.proofs.names.first_positions.Goals as goal

pub loop-left-init : goal.loop-left-init
loop-left-init c = (
  none_first c.args.symbols.now c.len-left.result _ c.len-left.ensures
      (omega (arith, c.in_ok-positions.ensures.len, c.in_ok-positions.positions.ok.0))
      (c.in_ok-positions.ensures.items_if_clones_equal (λ y h. h) ∙ ap (replicate place_count) (c.len.ensures ∙ sym c.len-left.ensures)),
  omega (arith, c.len-left.ensures),
)

pub unreachable-requires : goal.unreachable-requires
unreachable-requires c = within_stands c.args.symbols.now (c.loop-left.left - 1) (omega (arith, c.loop-left.invariant.1))
    c.in_default.ensures.value

pub loop-left-preserved-in-Some-place_shown : goal.loop-left-preserved-in-Some-place_shown
loop-left-preserved-in-Some-place_shown c =
    let back : c.loop-left.left ≡ (c.loop-left.left - 1) + 1 = omega arith in (
      first_kept c.args.symbols.now (c.loop-left.left - 1) _ c.in-Some-place_shown.place _ c.loop-left.positions.items
          c.in-Some.ensures.value c.in-Some-place_shown.ensures.place
          c.in-Some-place_shown.ensures.within c.place_number.ensures.value
          (subst (λ n. AreFirst c.args.symbols.now n c.loop-left.positions.items) back c.loop-left.invariant.0),
      omega (arith, c.loop-left.invariant.1),
    )

pub loop-left-preserved : goal.loop-left-preserved
loop-left-preserved c =
    let back : c.loop-left.left ≡ (c.loop-left.left - 1) + 1 = omega arith in (
      first_passed c.args.symbols.now (c.loop-left.left - 1) _ c.loop-left.positions.items c.in-Some.ensures.value
          c.in_default-place_shown.ensures.place
          (subst (λ n. AreFirst c.args.symbols.now n c.loop-left.positions.items) back c.loop-left.invariant.0),
      omega (arith, c.loop-left.invariant.1),
    )

pub returns : goal.returns
returns c =
    let none : c.loop-left.left ≡ 0 = omega arith in
    subst (λ n. AreFirst c.args.symbols.now n c.loop-left.positions.items) none c.loop-left.invariant.0
