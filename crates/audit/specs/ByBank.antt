-- Texts of fixed memory, bank by bank and word by word.
use Rattle.std.specs.Prelude.{ℕ, List, Option, None, Some}
use Rattle.std.specs.List.{range_with_len, flat_map}
use Rattle.rope.specs.Places.{banks, bank_words}

-- the text of one bank, or those of all by their numbers
abbrev pub by_bank : (ℕ → List ℕ) → Option ℕ → List ℕ
by_bank text None = flat_map text (range_with_len 0 banks)
by_bank text (Some bank) = text bank

-- the texts of a bank's words, each of its places once, by rising offsets
abbrev pub by_word : (ℕ → ℕ → List ℕ) → ℕ → List ℕ
by_word text bank = flat_map (text bank) (range_with_len 0 bank_words)
