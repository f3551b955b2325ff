-- An account of each bank of a source beside a rope: how many of its places are certain and how many of these have the rope's word, how
-- many are uncertain, and how many are holes. Holes are told by a second fixed memory, which has other words in them.
use Rattle.std.specs.Prelude.{◌≡◌, ℕ, ◌+◌, ◌≤◌, ◌<◌, ◌==◌, ◌&&◌, not, Bool, List, [], ◌++◌, codes, decimal, is_some}
use Rattle.std.specs.Prelude.{if◌then◌else◌}
use Rattle.std.specs.List.{range_with_len, flat_map}
use Rattle.words.specs.Numerals.{octal_text}
use Rattle.rope.specs.Places.{Words, banks, bank_words, stands, word_at}
use Rattle.audit.specs.BankFacts.{count_before}
use Rattle.certain.specs.declared.accounts.Kind.{Kind}
use Rattle.certain.specs.declared.accounts.Kind.TheVariants.{Certain, Equal, Uncertain, Hole}
use Rattle.certain.specs.declared.accounts.Account.{Account}
use Rattle.certain.specs.Comparison.{comparison}
use Rattle.certain.specs.Places.{UncertainWords, form_at}

-- ## Places
-- a place of the source is a hole
abbrev pub is_hole : Words → Words → ℕ → ℕ → Bool
is_hole words other bank offset = stands words bank offset && not (word_at words bank offset == word_at other bank offset)

-- the source makes the word at a place
abbrev pub is_made : Words → Words → ℕ → ℕ → Bool
is_made words other bank offset = stands words bank offset && word_at words bank offset == word_at other bank offset

-- it makes it, and no form makes it uncertain
abbrev pub is_certain : UncertainWords → Words → Words → ℕ → ℕ → Bool
is_certain uncertain words other bank offset = is_made words other bank offset && not (is_some (form_at uncertain bank offset))

-- a place is of a kind, beside a rope
abbrev pub is_of : Kind → UncertainWords → Words → Words → Words → ℕ → ℕ → Bool
is_of Certain uncertain words other new bank offset = is_certain uncertain words other bank offset
is_of Equal uncertain words other new bank offset =
    is_certain uncertain words other bank offset && word_at words bank offset == word_at new bank offset
is_of Uncertain uncertain words other new bank offset = is_made words other bank offset && is_some (form_at uncertain bank offset)
is_of Hole uncertain words other new bank offset = is_hole words other bank offset

-- ## Banks
-- how many places of a bank are of a kind
abbrev pub count_of_kind : Kind → UncertainWords → Words → Words → Words → ℕ → ℕ
count_of_kind kind uncertain words other new bank = count_before (is_of kind uncertain words other new bank) bank_words

unfoldable pub account_of : UncertainWords → Words → Words → Words → ℕ → Account
account_of uncertain words other new bank = record {
  certain = count_of_kind Certain uncertain words other new bank;
  equal = count_of_kind Equal uncertain words other new bank;
  uncertain = count_of_kind Uncertain uncertain words other new bank;
  holes = count_of_kind Hole uncertain words other new bank;
}

-- how many places the source fills in a bank
abbrev pub filled_places : Words → ℕ → ℕ
filled_places words bank = count_before (stands words bank) bank_words

-- each place that the source fills is counted once: as certain, as uncertain or as a hole; and of the certain ones some are equal
pub record CountsAll (uncertain : UncertainWords) (words other new : Words) (bank : ℕ) : Type 0 where
  pub all : (account_of uncertain words other new bank).certain + (account_of uncertain words other new bank).uncertain
      + (account_of uncertain words other new bank).holes ≡ filled_places words bank
  pub equal : (account_of uncertain words other new bank).equal ≤ (account_of uncertain words other new bank).certain

-- ## Text
-- uncertain places are told where there are any
abbrev pub uncertain_part : ℕ → List ℕ
uncertain_part count = if count == 0 then [] else codes " UNCERTAIN " ++ decimal count

abbrev pub account_text : ℕ → Account → List ℕ
account_text bank account =
    codes "BANK " ++ octal_text 2 bank ++ codes " CERTAIN " ++ decimal account.certain ++ codes " EQUAL " ++ decimal account.equal
    ++ uncertain_part account.uncertain ++ codes " HOLES " ++ decimal account.holes ++ codes "\n"

-- that of a bank, where the source fills a place of it
abbrev pub account_told : ℕ → Account → List ℕ
account_told bank account =
    if account.certain + account.uncertain + account.holes == 0 then [] else account_text bank account

unfoldable pub account_line : UncertainWords → Words → Words → Words → ℕ → List ℕ
account_line uncertain words other new bank = account_told bank (account_of uncertain words other new bank)

-- those of all banks
unfoldable pub accounts : UncertainWords → Words → Words → Words → List ℕ
accounts uncertain words other new = flat_map (account_line uncertain words other new) (range_with_len 0 banks)
