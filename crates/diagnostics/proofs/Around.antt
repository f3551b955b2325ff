-- Lines after some others.
use Rattle.std.proofs.Common.{◌≡◌, ◌∙◌, ℕ, ◌-◌, List, length, min, take, drop, arith, ap}
use Rattle.std.proofs.lemmas.List.{drop_min, take_all, length-drop}
use Rattle.yayul.specs.Program.{Source}

pub drop_within :
    (k n : ℕ) (lines : List Source) → k ≡ min n (length lines) → take (length lines - k) (drop k lines) ≡ drop n lines
drop_within k n lines is =
    take_all (length lines - k) (drop k lines) (omega (arith, length-drop k lines)) ∙ ap (λ i. drop i lines) is ∙ drop_min n lines
