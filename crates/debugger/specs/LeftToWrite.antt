-- How far a text has come that is written part by part. Only the proofs of such texts stand on this.
use Rattle.std.specs.Prelude.{◌≡◌, ℕ, List, ◌++◌}

-- of a whole text, the first part was written, and the rest is left
pub record LeftToWrite (whole old new rest : List ℕ) : Type 0 where
  pub text : List ℕ
  pub split : whole ≡ text ++ rest
  pub written : new ≡ old ++ text
