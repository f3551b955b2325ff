-- Changes that follow one another.
use Rattle.std.proofs.Common.{◌≡◌, List, [], ◌∷◌, ◌++◌, refl}
use Rattle.cpu.specs.State.{State}
use Rattle.cpu.specs.Effects.{Change, change, changes}

pub changes_append : (xs ys : List Change) (s : State) → changes s (xs ++ ys) ≡ changes (changes s xs) ys
changes_append [] ys s = refl
changes_append (x ∷ xs) ys s = changes_append xs ys (change s x)
