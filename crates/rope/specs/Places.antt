-- Fixed memory: which words stand in it, and where.
use Rattle.std.specs.Prelude.{ℕ, ◌+◌, ◌*◌, ◌&&◌, Bool, nat_lt, if◌then◌else◌, List, [], ◌∷◌, Option, None, is_some, unwrap_or}
use Rattle.std.specs.Ordering.{nat_cmp}
use Rattle.std.specs.FinMap as map

-- how many banks hold words: 0 to 043
abbrev pub banks : ℕ
banks = 0o44

-- how many words a bank holds
abbrev pub bank_words : ℕ
bank_words = 0o2000

-- how many places there are
abbrev pub fixed_places : ℕ
fixed_places = banks * bank_words

-- the words that stand in fixed memory, by numbers that only the definitions below give to places
abbrev pub Words : Type 0
Words = map.FinMap nat_cmp ℕ

-- the number of a place
abbrev pub place_number : ℕ → ℕ → ℕ
place_number bank offset = bank_words * bank + offset

-- no word stands anywhere
unfoldable pub no_words : Words
no_words = map.empty

-- the word at this place is this one, and every other place is as before
unfoldable pub with_word : Words → ℕ → ℕ → ℕ → Words
with_word words bank offset word = map.insert words (place_number bank offset) word

-- the word that stands at a place: none outside the banks
unfoldable pub slot_at : Words → ℕ → ℕ → Option ℕ
slot_at words bank offset =
    if nat_lt bank banks && nat_lt offset bank_words then map.get words (place_number bank offset) else None

-- whether a word stands at a place
abbrev pub stands : Words → ℕ → ℕ → Bool
stands words bank offset = is_some (slot_at words bank offset)

-- the word at a place, 0 where none stands
abbrev pub word_at : Words → ℕ → ℕ → ℕ
word_at words bank offset = unwrap_or (slot_at words bank offset) 0

-- a word and its place
pub record Placed : Type 0 where
  pub bank : ℕ
  pub offset : ℕ
  pub word : ℕ

-- the words after each of some is put at its place, in order
abbrev pub with_words : Words → List Placed → Words
with_words words [] = words
with_words words (p ∷ more) = with_words (with_word words p.bank p.offset p.word) more
