-- The fields of a text of tests.
use Rattle.std.specs.Prelude.{ℕ, ◌-◌, ◌==◌, ◌&&◌, nat_lt, nat_le, Bool, List, length, take, drop, slice_index, Option, None, Some, codes}
use Rattle.std.specs.Prelude.{if◌then◌else◌, option_and_then}
use Rattle.std.specs.Option.{option_map}
use Rattle.words.specs.Numbers.{neg}
use Rattle.agc_text.specs.Digits.{number_of}
use Rattle.agc_text.specs.Tables.{same_name}
use Rattle.feed.specs.Statements.{passing, word_in}
use Rattle.space.specs.declared.place.Linear.{Linear}
use Rattle.commands.specs.NamedPlaces.{moved_on, words_on}
use Rattle.expect.specs.declared.claim.Relation.{Relation}
use Rattle.expect.specs.declared.claim.Relation.TheVariants.{Same, Other, Less, Greater, AtMost, AtLeast}

-- the letter that ends a decimal number
abbrev pub decimal_sign : ℕ
decimal_sign = 0o104

-- a number of 1 to 5 decimal digits that a word holds
abbrev pub magnitude_in : List ℕ → Option ℕ
magnitude_in text = passing (λ n. nat_le n 0o37777) (number_of 10 5 text)

-- the same, with a sign or without: of a minus sign the complement
abbrev pub decimal_in : List ℕ → Option ℕ
decimal_in text =
    if same_name (take 1 text) (codes "-") then option_map neg (magnitude_in (drop 1 text))
    else (if same_name (take 1 text) (codes "+") then magnitude_in (drop 1 text)
    else magnitude_in text)

abbrev pub ends_with : ℕ → List ℕ → Bool
ends_with byte text = nat_lt 0 (length text) && slice_index text (length text - 1) == byte

-- a word: decimal where D ends it, else 1 to 5 octal digits
abbrev pub value_in : List ℕ → Option ℕ
value_in text = if ends_with decimal_sign text then decimal_in (take (length text - 1) text) else word_in text

-- how a word has to stand to another
abbrev pub relation_in : List ℕ → Option Relation
relation_in text =
    if same_name text (codes "=") then Some Same
    else (if same_name text (codes "<>") then Some Other
    else (if same_name text (codes "<") then Some Less
    else (if same_name text (codes ">") then Some Greater
    else (if same_name text (codes "<=") then Some AtMost
    else (if same_name text (codes ">=") then Some AtLeast
    else None)))))

-- the place so many words on, in the same bank, as a field says that begins with a plus sign
abbrev pub moved_in : Linear → List ℕ → Option Linear
moved_in place field = option_and_then (λ k. moved_on k place) (words_on field)
