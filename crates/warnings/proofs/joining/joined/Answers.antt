use Rattle.std.proofs.Common.{◌∙◌, ◌+◌, ◌++◌, List, None, [], ◌∷◌, ap, arith, drop, get_or, take}
use Rattle.std.proofs.lemmas.List.{drop_more}
use Rattle.warnings.specs.declared.told.Warning.{Warning}
use Rattle.warnings.specs.Joined.{joined}
use Rattle.warnings.proofs.Merging.{joined_step}
use Rattle.warnings.proofs.joining.joined.Goals as goal

abbrev nothing : Warning
nothing = record { line = 0; number = 0; span = record { start = 0; width = 0 }; doubt = None }

pub loop-warning-preserved : goal.loop-warning-preserved
loop-warning-preserved c =
    let warnings = c.args.warnings.now in
    let i = c.loop-warning.warning-index in
    let rest = c.loop-warning.rest.now in
    let out = c.loop-warning.all.items in
    let before = c.count_before.ensures.value in
    let earlier = c.split_at.ensures.front ∙ ap (λ n. take n rest) before in
    let later = c.split_at.ensures.back ∙ ap (λ n. drop n rest) before in
    let pushed = c.in_ok-push_all.ensures ∙ ap (λ (ws : List Warning). out ++ ws) earlier in
    ap (λ (ws : List Warning). c.push.new.self.items ++ joined (drop (i + 1) warnings) ws) later
    ∙ joined_step (drop i warnings) (drop (i + 1) warnings) rest (get_or warnings i nothing) out c.push_all.new.all.items
    c.push.new.self.items
    (drop_more warnings i nothing (omega arith)) pushed c.in_ok-push.ensures.items
    ∙ c.loop-warning.invariant
