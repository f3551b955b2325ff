-- How far it has been told how a cell came about: a beginning of the text was written, and the rest follows from a cell. Only the proof
-- of `write_why` stands on this.
use Rattle.std.specs.Prelude.{◌≡◌, ℕ, List, ◌++◌}
use Rattle.differ.specs.declared.causes.Followed.{Followed}
use Rattle.differ.specs.DifferText.{Named, why_text}

pub record WhyTold (one other : Named) (whole old new : List ℕ) (left : ℕ) (at : Followed) : Type 0 where
  pub text : List ℕ
  pub goes_on : whole ≡ text ++ why_text one other left at
  pub written : new ≡ old ++ text
