-- The fields of a line.
use Rattle.std.specs.Prelude.{ℕ, ◌-◌, ◌==◌, ◌&&◌, ◌||◌, not, Bool, List, [], ◌∷◌, length, map, filter, Option, Some, None, slice_index}
use Rattle.std.specs.Prelude.{drop, if◌then◌else◌}
use Rattle.std.specs.List.{before_first, range_with_len}
use Rattle.agc_text.specs.Bytes.{space, tab, comment_sign}

-- some bytes of a line, and the place of the first
pub record Piece : Type 0 where
  pub start : ℕ
  pub text : List ℕ

-- the bytes of some pieces
abbrev pub texts : List Piece → List (List ℕ)
texts pieces = map (λ piece. piece.text) pieces

-- a space or a tab
abbrev pub is_blank : ℕ → Bool
is_blank byte = byte == space || byte == tab

-- what stands before the first comment sign
abbrev pub before_comment : List ℕ → List ℕ
before_comment line = before_first (λ byte. byte == comment_sign) line

-- a byte that is no blank stands at the place, and none before it touches it
abbrev pub is_run_start : List ℕ → ℕ → Bool
is_run_start text place =
    not (is_blank (slice_index text place)) && (place == 0 || is_blank (slice_index text (place - 1)))

-- the bytes from the place on, up to the first blank
abbrev pub run_at : List ℕ → ℕ → Piece
run_at text place = record { start = place; text = before_first is_blank (drop place text) }

-- the maximal runs of bytes that are no blanks which begin at one of `count` places from `from` on
abbrev pub runs_within : List ℕ → ℕ → ℕ → List Piece
runs_within text from count = map (run_at text) (filter (is_run_start text) (range_with_len from count))

-- all of them
unfoldable pub runs : List ℕ → List Piece
runs text = runs_within text 0 (length text)

-- those that begin at the place or later
unfoldable pub runs_after : List ℕ → ℕ → List Piece
runs_after text from = runs_within text from (length text - from)

-- the fields of a line: the runs before its comment
abbrev pub fields : List ℕ → List Piece
fields line = runs (before_comment line)

-- the first field, where it begins at the line's first byte
abbrev pub label_of : List Piece → Option Piece
label_of [] = None
label_of (f ∷ fs) = if f.start == 0 then Some f else None

-- the fields besides the label
abbrev pub others_of : List Piece → List Piece
others_of [] = []
others_of (f ∷ fs) = if f.start == 0 then fs else f ∷ fs
