-- Fields and lines as the code hands them out.
use Rattle.std.specs.Prelude.{◌≡◌, ℕ, ◌+◌, ◌≤◌, List, [], ◌∷◌, length, Option, None, Some, slice_range, IfSome}
use Rattle.agc_text.specs.Fields.{Piece, runs_after}
use Rattle.agc_text.specs.declared.fields.Field.{Field}
use Rattle.agc_text.specs.declared.fields.Line.{Line}

-- a field without where it lies in memory
abbrev pub piece : Field → Piece
piece f = record { start = f.start; text = f.text.now }

-- the place after a field
abbrev pub end_of : Field → ℕ
end_of f = f.start + length f.text.now

-- the runs of a text from a field on
abbrev pub runs_from : List ℕ → Option Field → List Piece
runs_from text None = []
runs_from text (Some f) = piece f ∷ runs_after text (end_of f)

-- the field is the slice of the line at its place
pub record IsSliceOf (line : List ℕ) (f : Field) : Type 0 where
  pub within : end_of f ≤ length line
  pub slice : f.text.now ≡ slice_range line f.start (end_of f)

-- each field of a line taken apart is the slice at its place
pub record AreSlicesOf (line : List ℕ) (l : Line) : Type 0 where
  pub label : IfSome l.label (IsSliceOf line)
  pub operator : IfSome l.operator (IsSliceOf line)
  pub operand : IfSome l.operand (IsSliceOf line)
  pub offset : IfSome l.offset (IsSliceOf line)
