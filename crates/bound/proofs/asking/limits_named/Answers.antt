use Rattle.std.proofs.Common.{◌∙◌, ap}
use Rattle.agc_text.specs.Fields.{runs, texts}
use Rattle.bound.specs.Asked.{limits_named}
use Rattle.bound.proofs.Pairs.{limits_more}
use Rattle.bound.proofs.asking.limits_named.Goals as goal

pub loop-place-preserved : goal.loop-place-preserved
loop-place-preserved c =
    ap (λ limits. limits_named c.args.symbols.now limits (texts (runs c.in-Some-split_field.more.now))) c.in_ok-push.ensures.items
    ∙ limits_more c.args.symbols.now c.loop-place.limits.items c.in-Some.place.now c.in-Some-split_field.number.now
    c.in-Some-limit_named.limit _ _ _ c.in-Some.ensures c.in-Some-split_field.ensures c.in-Some-limit_named.ensures
    ∙ c.loop-place.invariant
