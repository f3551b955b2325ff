-- What the code holds of the words that lines ask for, while some wait for a symbol that no line before defines.
use Rattle.std.specs.Prelude.{◌≡◌, ◌≢◌, ℕ, ◌==◌, Bool, false, List, [], replicate, Option, None, Some, Err, if◌then◌else◌}
use Rattle.std.specs.List.{All, filter, list_any, flat_map}
use Rattle.std.specs.Result.{result_unwrap_or}
use Rattle.rope.specs.Places.{Words, no_words, with_words}
use Rattle.yayul.specs.Layout.{Request, width, on_line, fault_number}
use Rattle.yayul.specs.Words.{request_words, request_faults}
use Rattle.yayul.specs.Program.{placed_from, is_before, least}
use Rattle.yayul.specs.Language.{Fault, FaultKind, Undefined, Value}
use Rattle.yayul.specs.Inside.Sound.{AreWithin, AreOrdered}

-- a request waits, where one of its line does
abbrev pub is_waiting : List Request → Request → Bool
is_waiting waiting r = list_any (λ w. w.line == r.line) waiting

-- the words that stand for a request: zeros, where it waits or has none
unfoldable pub standing_words : List (List ℕ × Value) → List Request → Request → List ℕ
standing_words table waiting r =
    if is_waiting waiting r then replicate (width r.content) 0 else result_unwrap_or (request_words table r) (replicate (width r.content) 0)

-- the words that stand for requests, in their places
unfoldable pub standing_rope : List (List ℕ × Value) → List Request → List Request → Words
standing_rope table waiting rs = with_words no_words (flat_map (λ r. placed_from r.bank r.offset (standing_words table waiting r)) rs)

-- the word faults of the requests that do not wait
unfoldable pub standing_faults : List (List ℕ × Value) → List Request → List Request → List Fault
standing_faults table waiting rs = flat_map (λ r. if is_waiting waiting r then [] else on_line r.line (request_faults table r)) rs

-- the lesser of a fault that is held and one more on a line
abbrev pub lesser_on : Option Fault → ℕ → Option FaultKind → Option Fault
lesser_on first line None = first
lesser_on None line (Some kind) = Some (record { line = line; number = fault_number kind })
lesser_on (Some first) line (Some kind) =
    Some (if is_before (record { line = line; number = fault_number kind }) first then record { line = line; number = fault_number kind }
    else first)

-- the words of the requests of lines below a number stand in a rope, and their least fault is held, but for those of the requests that wait
pub record Holds (line : ℕ) (table : List (List ℕ × Value)) (rs waiting : List Request) (words : Words) (told : Option Fault) : Type 0 where
  pub ordered : AreOrdered line rs
  pub within : AreWithin rs
  pub waits : waiting ≡ filter (is_waiting waiting) rs
  pub rope : words ≡ standing_rope table waiting rs
  pub fault : told ≡ least (standing_faults table waiting rs)

-- the requests that do not wait have their symbols in a table
abbrev pub AreKnown : List (List ℕ × Value) → List Request → List Request → Type 0
AreKnown table waiting rs = All (λ r. is_waiting waiting r ≡ false → request_words table r ≢ Err Undefined) rs
