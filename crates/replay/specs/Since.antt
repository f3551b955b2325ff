-- A search back that ends at a step.
use Rattle.std.specs.Prelude.{◌≡◌, ℕ, ◌+◌, ◌*◌, ◌≤◌, Option, IfSome, IfNone}
use Rattle.replay.specs.View.{SessionView, Stands}

-- what a search back to step first that answered r leaves: only the shown machine and the meter may change, and no more than twice
-- the steps are executed that lie between what is found, or where nothing is the first step, and the present
pub record HasSoughtSince (old : SessionView) (first : ℕ) (r : Option ℕ) (new : SessionView) : Type 0 where
  pub stands : Stands new
  pub same : new ≡ record old { shown = new.shown; meter = new.meter }
  pub least : old.meter ≤ new.meter
  pub found : IfSome r (λ t. new.meter + 2 * t ≤ old.meter + 2 * old.n)
  pub none : IfNone r (new.meter + 2 * first ≤ old.meter + 2 * old.n)
