-- Lines taken off commands.
use Rattle.std.specs.Prelude.{◌≡◌, ℕ, ◌+◌, ◌≤◌, ◌<◌, nat_lt, Bool, true, false, List, ◌∷◌, ◌++◌, length, take, Option, None, Some, Result}
use Rattle.std.specs.Prelude.{Ok, Err, if◌then◌else◌}
use Rattle.agc_text.specs.Bytes.{line_feed}
use Rattle.agc_text.specs.Lines.{lines, HasNoFeed}
use Rattle.commands.specs.declared.reading.DeviceFault.{DeviceFault}
use Rattle.commands.specs.declared.reading.DeviceFault.TheVariants.{ReadFailed, WriteFailed}

-- the most bytes of a line of commands, without its line feed
abbrev pub command_length : ℕ
command_length = 80

-- what is kept of a line: its bytes, or none where it is too long
abbrev pub kept_line : List ℕ → Option (List ℕ)
kept_line line = if nat_lt command_length (length line) then None else Some line

-- where a reader of lines stands: the bytes that were read and are in no line yet, and how many more may be read
pub record Ahead : Type 0 where
  pub held : List ℕ
  pub more : ℕ

-- the text from there on, over what the device has left
abbrev pub text_ahead : Ahead → List ℕ → List ℕ
text_ahead a left = a.held ++ left

-- how many bytes of it may stand in lines
abbrev pub most_ahead : Ahead → ℕ
most_ahead a = length a.held + a.more

-- no whole line is held, and more may be read, so that a line has to be waited for
pub record IsToWait (a : Ahead) : Type 0 where
  pub no_line : HasNoFeed a.held
  pub more : 0 < a.more

-- A line was taken off the first `before` bytes of a text, which leaves the first `after` bytes of the rest. Where more
-- may stand in lines, a line feed ended it.
pub record TakesLine (text : List ℕ) (before : ℕ) (line rest : List ℕ) (after : ℕ) : Type 0 where
  pub lines : lines (take before text) ≡ line ∷ lines (take after rest)
  pub ended : 0 < after → HasNoFeed line × (text ≡ line ++ line_feed ∷ rest)

-- a line was taken off, and this is kept of it
pub record KeepsLine (line : Option (List ℕ)) (text : List ℕ) (before : ℕ) (rest : List ℕ) (after : ℕ) : Type 0 where
  pub bytes : List ℕ
  pub kept_of : line ≡ kept_line bytes
  pub taken : TakesLine text before bytes rest after

-- no line feed stands in what was read before a call failed
pub record EndsNoLine (text rest : List ℕ) : Type 0 where
  pub part : List ℕ
  pub no_feed : HasNoFeed part
  pub split : text ≡ part ++ rest

-- at most so many bytes were read
pub record ReadsWithin (old new : List ℕ) (before after : ℕ) : Type 0 where
  pub bytes : List ℕ
  pub split : old ≡ bytes ++ new
  pub within : length bytes + after ≤ before

-- the fault is the reader's
abbrev pub is_read_failed : {T : Type 0} → Result T DeviceFault → Bool
is_read_failed (Ok x) = false
is_read_failed (Err ReadFailed) = true
is_read_failed (Err WriteFailed) = false

-- the fault is the writer's
abbrev pub is_write_failed : {T : Type 0} → Result T DeviceFault → Bool
is_write_failed (Ok x) = false
is_write_failed (Err ReadFailed) = false
is_write_failed (Err WriteFailed) = true

-- the number that a fault is told by
abbrev pub number_of : DeviceFault → ℕ
number_of ReadFailed = 6
number_of WriteFailed = 7
