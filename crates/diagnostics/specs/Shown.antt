-- Bytes and lines of a source as they are shown.
use Rattle.std.specs.Prelude.{ℕ, ◌-◌, List, [], slice_get, unwrap_or, if◌then◌else◌}
use Rattle.agc_text.specs.Bytes.{is_text_byte}

-- a byte as it is shown: a question mark for one that a line may not hold
abbrev pub shown_byte : ℕ → ℕ
shown_byte byte = if is_text_byte byte then byte else 0o77

-- the line of a number, of some lines
abbrev pub text_at : List (List ℕ) → ℕ → List ℕ
text_at texts line = unwrap_or (slice_get texts (line - 1)) []
