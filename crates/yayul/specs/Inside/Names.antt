-- What lines name, each by what it shows.
use Rattle.std.specs.Prelude.{ℕ, List, [], ◌∷◌}
use Rattle.yayul.specs.Listing.{Shown}
use Rattle.yayul.specs.Named.{Named, given_in, line_named}
use Rattle.yayul.specs.Language.{Language, Value}

-- what is named once some lines are passed, each with what it shows
abbrev pub shown_named : Language → List (List ℕ × Value) → Named → List (List ℕ) → List Shown → Named
shown_named language table named [] shows = named
shown_named language table named (text ∷ texts) [] = named
shown_named language table named (text ∷ texts) (shown ∷ shows) = shown_named language table
    (line_named table named shown (given_in language text)) texts shows
