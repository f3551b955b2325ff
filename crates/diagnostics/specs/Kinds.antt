-- What is said of a file that is of another kind than the one that is asked for.
use Rattle.std.specs.Prelude.{ℕ, ◌==◌, ◌&&◌, ◌||◌, not, Bool, false, List, [], ◌∷◌, ◌++◌, length, codes, is_ok, is_some, unwrap_or}
use Rattle.std.specs.Prelude.{if◌then◌else◌}
use Rattle.std.specs.List.{find, list_any}
use Rattle.agc_text.specs.Fields.{fields, texts}
use Rattle.agc_text.specs.Lines.{lines}
use Rattle.agc_text.specs.Tables.{same_name}
use Rattle.json_text.specs.declared.notation.Notation.{Notation}
use Rattle.json_text.specs.declared.notation.Notation.TheVariants.{Text, Json}
use Rattle.feed.specs.Statements.{parsed, cycle_in}
use Rattle.yayul.specs.Readings.{parts_for}
use Rattle.yayul.specs.declared.language.Language.TheVariants.{Standard}
use Rattle.diagnostics.specs.Objects.{file_object}

-- the bytes of a rope image
abbrev pub image_length : ℕ
image_length = 73728

-- as many bytes as an image has, one of them 0
abbrev pub is_image : List ℕ → Bool
is_image text = length text == image_length && list_any (λ byte. byte == 0) text

-- an input that is no series stands on a line
abbrev pub is_input : List ℕ → Bool
is_input text = is_ok (parsed text)

-- EVERY with a cycle
abbrev pub begins_series : List (List ℕ) → Bool
begins_series (first ∷ second ∷ rest) = same_name first (codes "EVERY") && is_some (cycle_in second)
begins_series _ = false

-- an input, or the beginning of a series
abbrev pub is_of_feed : List ℕ → Bool
is_of_feed text = is_input text || begins_series (texts (fields text))

-- an operator of the source language, after a label or without one
abbrev pub is_of_source : List ℕ → Bool
is_of_source text = is_some (parts_for Standard text).role

-- the first line that has a field
abbrev pub first_said : List (List ℕ) → List ℕ
first_said texts = unwrap_or (find (λ text. not (length (fields text) == 0)) texts) []

-- what is said of a file
abbrev pub note : Notation → List ℕ → List ℕ → List ℕ
note Json name words = file_object name words
note Text name words = name ++ codes ": " ++ words ++ codes "\n"

-- a file with faults that is no source: an image, or a feed
unfoldable pub kind_of_source : Notation → List ℕ → List ℕ → List ℕ
kind_of_source notation name text =
    if is_image text then note notation name (codes "this is a rope image, and no source: run, trace, cover and debug take it with --image")
    else if is_of_feed (first_said (lines text)) then note notation name (codes "this is a feed, and no source: it stands after the source")
    else []

-- a file with a fault that is no feed: an image, or a source
unfoldable pub kind_of_feed : Notation → List ℕ → List ℕ → List ℕ
kind_of_feed notation name text =
    if is_image text then note notation name
    (codes "this is a rope image, and no feed: run, trace, cover and debug take it with --image, before the feed")
    else if is_of_source (first_said (lines text)) then note notation name (codes "this is a source, and no feed: it stands first")
    else []
