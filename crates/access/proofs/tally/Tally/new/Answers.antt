use Rattle.std.proofs.Common.{◌∙◌, ◌*◌, replicate, refl, ap}
use Rattle.access.proofs.Counting.{no_count, none_counted}
use Rattle.access.proofs.tally.Tally.new.Goals as goal

pub returns : goal.returns
returns c = λ scenario. none_counted _ scenario _ refl
    (c.in_ok-counts.ensures.items_if_clones_equal (λ y h. h) ∙ ap (λ k. replicate (26 * k) no_count) c.rows_of-size.ensures.rows)
    c.in_ok-kept.ensures refl
