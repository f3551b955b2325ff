-- The values that are given, without where they lie in memory.
use Rattle.std.proofs.Common.{◌≡◌, ℕ, List, [], ◌∷◌, ◌++◌, length, take, drop, sym}
use Rattle.std.proofs.lemmas.List.{map-append, take-map, drop-map, length-map}
use Rattle.command_line.specs.Reading.{pair_of, given_of}
use Rattle.command_line.specs.declared.reader.Given.{Given}

pub given_push : (given : List Given) (it : Given) → given_of (given ++ it ∷ []) ≡ given_of given ++ pair_of it ∷ []
given_push given it = map-append pair_of given (it ∷ [])

pub given_take : (n : ℕ) (given : List Given) → given_of (take n given) ≡ take n (given_of given)
given_take n given = sym (take-map pair_of n given)

pub given_drop : (n : ℕ) (given : List Given) → given_of (drop n given) ≡ drop n (given_of given)
given_drop n given = sym (drop-map pair_of n given)

pub given_length : (given : List Given) → length (given_of given) ≡ length given
given_length given = length-map given pair_of

pub ruleset given_views = (given_take, given_drop, given_length)
