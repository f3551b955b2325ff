-- Two lists of warnings, each in the order of lines, as one.
use Rattle.std.specs.Prelude.{ℕ, List, [], ◌∷◌, ◌++◌, nat_le, take, drop}
use Rattle.std.specs.List.{position_or_len}
use Rattle.warnings.specs.declared.told.Warning.{Warning}

-- how many of some warnings in order stand before a line
abbrev pub count_before : ℕ → List Warning → ℕ
count_before line warnings = position_or_len (λ w. nat_le line w.line) warnings

-- in the order of lines; of one line those of the first list come first
abbrev pub joined : List Warning → List Warning → List Warning
joined [] others = others
joined (w ∷ ws) others = take (count_before w.line others) others ++ w ∷ joined ws (drop (count_before w.line others) others)
