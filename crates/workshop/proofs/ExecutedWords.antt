-- Instructions that are executed, place by place.
use Rattle.std.proofs.Common.{◌≡◌, ℕ, ◌+◌, Bool, List, refl, add-one}
use Rattle.cover.specs.Tallies.{Profile}
use Rattle.workshop.specs.Executed.{executed_at, executed_before}

pub executed_none : (profile : Profile) (marks : List Bool) → 0 ≡ executed_before profile marks 0
unfolding executed_before
executed_none profile marks = refl

pub executed_more : (profile : Profile) (marks : List Bool) (k count more : ℕ) → count ≡ executed_before profile marks k
    → more ≡ executed_at profile marks k → count + more ≡ executed_before profile marks (k + 1)
unfolding executed_before
executed_more profile marks k count more before here = rw (add-one k) (rw (before, here) refl)
