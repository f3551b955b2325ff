-- Which addresses of erasable memory are others in the new rope, as text.
use Rattle.std.specs.Prelude.{ℕ, ◌+◌, ◌-◌, ◌/◌, ◌%◌, ◌==◌, nat_lt, Bool, false, ◌&&◌, ◌||◌, List, [], ◌++◌, codes, Option, Some}
use Rattle.std.specs.Prelude.{None, if◌then◌else◌}
use Rattle.std.specs.List.{range_with_len, flat_map}
use Rattle.words.specs.Numerals.{octal_text}
use Rattle.rope.specs.Places.{bank_words, fixed_places}
use Rattle.audit.specs.BankFacts.{count_before}
use Rattle.align.specs.AlignLines.{words_text}
use Rattle.align.specs.Alignments.{Renaming}
use Rattle.align.specs.Pairings.{Entries, at, name_alike, Pairing}
use Rattle.align.specs.Renamings.{renamed, slot}

-- how many entries a list of addresses has, the bank of whose words an entry is, and of which address
abbrev pub slots : ℕ
slots = 9984

abbrev pub slot_bank : ℕ → ℕ
slot_bank s = s / 0o400 - 3

abbrev pub slot_address : ℕ → ℕ
slot_address s = if nat_lt s 0o1400 then s else 0o1400 + s % 0o400

-- whether an address that a word of a bank names has an entry
abbrev pub has_slot : ℕ → ℕ → Option ℕ → Bool
has_slot s bank None = false
has_slot s bank (Some address) = slot bank address == s

-- whether the word at a place of the old rope is paired with an equal one
abbrev pub is_alike : Pairing → ℕ → Option ℕ → Bool
is_alike p place None = false
is_alike p place (Some j) = name_alike p place j

-- whether it names an address that has an entry, and is paired with an equal one
abbrev pub is_named_at : Entries → Pairing → ℕ → ℕ → Bool
is_named_at operands p s place = has_slot s (place / bank_words) (at operands place) && is_alike p place (at p.to_new place)

-- the bank of whose words an entry is, where that is of one
abbrev pub bank_text : ℕ → List ℕ
bank_text s = if nat_lt s 0o1400 then [] else codes " BANK " ++ octal_text 2 (slot_bank s)

-- the line of an entry whose address has become another in n words: none where it is the same, or where no word is
abbrev pub renamed_text : ℕ → ℕ → ℕ → List ℕ
renamed_text s other n =
    if other == slot_address s || n == 0 then []
    else codes "RENAMED " ++ octal_text 4 (slot_address s) ++ codes " " ++ octal_text 4 other ++ bank_text s ++ words_text n

unfoldable pub renamed_line : Renaming → Pairing → ℕ → List ℕ
renamed_line r p s = renamed_text s (renamed r.names (slot_bank s) (slot_address s)) (count_before (is_named_at r.operands p s) fixed_places)

-- the lines of the first n entries, and of all
unfoldable pub first_renamed : Renaming → Pairing → ℕ → List ℕ
first_renamed r p n = flat_map (renamed_line r p) (range_with_len 0 n)

abbrev pub renamed_lines : Renaming → Pairing → List ℕ
renamed_lines r p = first_renamed r p slots
