-- The lines of a text.
use Rattle.std.specs.Prelude.{◌≢◌, ℕ, ◌==◌, List, [], ◌∷◌}
use Rattle.std.specs.List.{slice_split}
use Rattle.agc_text.specs.Bytes.{line_feed}

-- the pieces between line feeds; there is always one
abbrev pub pieces : List ℕ → List (List ℕ)
pieces text = slice_split (λ byte. byte == line_feed) text

-- all but an empty last one
abbrev pub without_empty_end : List (List ℕ) → List (List ℕ)
without_empty_end [] = []
without_empty_end ([] ∷ []) = []
without_empty_end (line ∷ more) = line ∷ without_empty_end more

-- all but the last one
abbrev pub without_end : List (List ℕ) → List (List ℕ)
without_end [] = []
without_end (line ∷ []) = []
without_end (line ∷ next ∷ more) = line ∷ without_end (next ∷ more)

-- the lines of a text: its pieces, an empty last one left out
unfoldable pub lines : List ℕ → List (List ℕ)
lines text = without_empty_end (pieces text)

-- the lines that a line feed ends
unfoldable pub ended_lines : List ℕ → List (List ℕ)
ended_lines text = without_end (pieces text)

-- no line feed stands in it
abbrev pub HasNoFeed : List ℕ → Type 0
HasNoFeed [] = Unit {0}
HasNoFeed (byte ∷ rest) = (byte ≢ line_feed) × HasNoFeed rest
