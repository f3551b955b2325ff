-- How the slots of a rope are seen.
use Rattle.std.specs.Prelude.{◌≡◌, ◌≤◌, ℕ, ◌+◌, ◌*◌, List, [], ◌∷◌, Option, Some, None, get_or}
use Rattle.std.specs.FinMap as map
use Rattle.rope.specs.Places.{Words, bank_words, fixed_places}

-- the words in slots, each with its number, where the first slot has number n
abbrev pub numbered_from : ℕ → List (Option ℕ) → List (ℕ × ℕ)
numbered_from n [] = []
numbered_from n (None ∷ slots) = numbered_from (n + 1) slots
numbered_from n (Some word ∷ slots) = (n, word) ∷ numbered_from (n + 1) slots

-- the words that slots hold
unfoldable pub words_of : List (Option ℕ) → Words
words_of slots = map.from_entries (numbered_from 0 slots)

-- how many slots a rope has: one for each place of the banks 0 to 047
abbrev pub slot_count : ℕ
slot_count = 0o50 * bank_words

-- no slot of the banks 044 to 047 holds a word
abbrev pub IsEmptyBeyond : List (Option ℕ) → Type 0
IsEmptyBeyond slots = (n : ℕ) → fixed_places ≤ n → get_or slots n None ≡ None
