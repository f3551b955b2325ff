-- What the code holds of the lines whose words stand at the places of fixed memory.
use Rattle.std.specs.Prelude.{◌≡◌, ◌<◌, ℕ, nat_lt, List, length, replicate, get_or, set, Option, None, Some, if◌then◌else◌}
use Rattle.std.specs.Option.{option_map_or, option_or}
use Rattle.rope.specs.Places.{bank_words, fixed_places, place_number}
use Rattle.yayul.specs.Layout.{Request, word_place, after_words, width}
use Rattle.yayul.specs.Language.{Gives, Location, Operation}
use Rattle.yayul.specs.Survey.{word_line}

-- for each place by its number the line whose word stands there, if any
abbrev pub WordLines : Type 0
WordLines = List (Option ℕ)

-- no word stands anywhere
abbrev pub no_lines : WordLines
no_lines = replicate fixed_places None

-- the line whose word stands at a location
abbrev pub held_at : WordLines → Location → Option ℕ
held_at lines here = option_map_or (λ place. get_or lines (place_number place.0 place.1) None) (word_place here) None

-- the line whose word stands where the first of so many would, else the second where there are two
abbrev pub held_from : WordLines → Location → ℕ → Option ℕ
held_from lines here count = option_or (held_at lines here) (if nat_lt 1 count then held_at lines (after_words 1 here) else None)

-- a word of a line stands at a location, unless that of another does
abbrev pub with_line : ℕ → Location → WordLines → WordLines
with_line line here lines =
    option_map_or (λ place. set lines (place_number place.0 place.1)
    (option_or (get_or lines (place_number place.0 place.1) None) (Some line))) (word_place here) lines

-- none, one or two words of a line stand from a location on
abbrev pub with_lines : ℕ → Location → ℕ → WordLines → WordLines
with_lines line here count lines =
    if nat_lt 1 count then with_line line (after_words 1 here) (with_line line here lines)
    else if nat_lt 0 count then with_line line here lines
    else lines

-- how many words a line gives
abbrev pub words_given : Operation → ℕ
words_given (Gives (Some content)) = width content
words_given _ = 0

-- the line of the first request that stands at each place
pub record AreLines (lines : WordLines) (requests : List Request) : Type 0 where
  pub full : length lines ≡ fixed_places
  pub at : (bank offset : ℕ) → offset < bank_words → get_or lines (place_number bank offset) None ≡ word_line requests bank offset
