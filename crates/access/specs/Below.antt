-- Numbers below another.
use Rattle.std.specs.Prelude.{ℕ, ◌<◌, List, [], ◌∷◌}

-- each number of a list is less
abbrev pub AreBelow : ℕ → List ℕ → Type 0
AreBelow most [] = Unit {0}
AreBelow most (i ∷ is) = (i < most) × AreBelow most is
