-- A text of tests as the statements of its lines.
use Rattle.std.specs.Prelude.{ℕ, ◌+◌, ◌-◌, Bool, true, false, List, [], ◌∷◌, length, take, if◌then◌else◌}
use Rattle.agc_text.specs.Fields.{fields, texts}
use Rattle.expect.specs.Fields.{ends_with}

-- a line with its number, from 1 on, and its fields, of which there is one at least
pub record Statement : Type 0 where
  pub line : ℕ
  pub fields : List (List ℕ)

-- whether a line has a field
abbrev pub has_field : List (List ℕ) → Bool
has_field [] = false
has_field (name ∷ rest) = true

-- the byte that ends a line before its line feed, as some editors write it
abbrev pub carriage_return : ℕ
carriage_return = 0o15

-- a line without that byte
abbrev pub before_return : List ℕ → List ℕ
before_return line = if ends_with carriage_return line then take (length line - 1) line else line

-- a line without a field is passed over
abbrev pub stated : ℕ → List (List ℕ) → List Statement → List Statement
stated n [] more = more
stated n (name ∷ rest) more = record { line = n; fields = name ∷ rest } ∷ more

-- the statements of some lines, before which n others stand
unfoldable pub statements : ℕ → List (List ℕ) → List Statement
statements n [] = []
statements n (line ∷ more) = stated (n + 1) (texts (fields (before_return line))) (statements (n + 1) more)
