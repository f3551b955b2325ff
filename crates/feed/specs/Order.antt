-- Entries in order.
use Rattle.std.specs.Prelude.{◌≡◌, false, List, [], ◌∷◌, ◌⊎◌}
use Rattle.feed.specs.Merged.{is_before}
use Rattle.feed.specs.declared.entry.Entry.{Entry}

-- none of the entries is before x
abbrev pub NoneBefore : Entry → List Entry → Type 0
NoneBefore x [] = Unit {0}
NoneBefore x (y ∷ ys) = (is_before y x ≡ false) × NoneBefore x ys

-- none is before an earlier one
abbrev pub IsInOrder : List Entry → Type 0
IsInOrder [] = Unit {0}
IsInOrder (x ∷ xs) = NoneBefore x xs × IsInOrder xs

-- x is one of the entries
abbrev pub IsAmong : Entry → List Entry → Type 0
IsAmong x [] = ⊥
IsAmong x (y ∷ ys) = (y ≡ x) ⊎ IsAmong x ys
