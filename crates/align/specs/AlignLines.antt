-- What has become of the words of a rope, as text.
use Rattle.std.specs.Prelude.{ℕ, zero, suc, ◌+◌, ◌-◌, ◌/◌, ◌%◌, ◌==◌, Bool, true, false, not, ◌&&◌, nat_lt, List, [], ◌++◌, codes, decimal}
use Rattle.std.specs.Prelude.{Option, Some, None, is_some, if◌then◌else◌}
use Rattle.std.specs.List.{range_with_len, flat_map}
use Rattle.rope.specs.Places.{banks, bank_words, fixed_places, place_number, Words, word_at}
use Rattle.audit.specs.BankFacts.{count_before}
use Rattle.audit.specs.WordLines.{place_text}
use Rattle.align.specs.declared.view.View.{View}
use Rattle.align.specs.declared.view.View.TheVariants.{New, Old, Passage}
use Rattle.align.specs.Pairings.{Entries, at, is_entry, is_first, is_free, is_next, Pairing}

-- whether two entries, of which a token stands at the second, belong together: they are of one run, or are paired with none
abbrev pub belong : Option ℕ → Option ℕ → Option ℕ → Bool
belong None None (Some token) = true
belong None None None = false
belong first second here = is_next first second

-- whether the word at a place belongs with the one before it
unfoldable pub joins : Entries → Entries → ℕ → Bool
joins pairs here place = not (is_first place) && belong (at pairs (place - 1)) (at pairs place) (at here place)

-- how many words up to the one before an offset of a bank belong together
unfoldable pub words_before : Entries → Entries → ℕ → ℕ → ℕ
words_before pairs here bank zero = 0
words_before pairs here bank (suc offset) =
    if joins pairs here (place_number bank offset) then words_before pairs here bank offset + 1 else 1

-- a place by its number
unfoldable pub name_of_place : ℕ → List ℕ
name_of_place place = place_text (place / bank_words) (place % bank_words)

-- how many words
abbrev pub words_text : ℕ → List ℕ
words_text n = codes " WORDS " ++ decimal n ++ codes "\n"

-- the line of n words that end at a place of the new rope, and are paired with those that end at a place of the old one: none where that is
-- the same place
abbrev pub moved_line : ℕ → ℕ → ℕ → List ℕ
moved_line i j n =
    if i == j then [] else codes "MOVED " ++ name_of_place (i + 1 - n) ++ codes " " ++ name_of_place (j + 1 - n) ++ words_text n

-- the line of n words of a passage that end at a place, and are paired with those that end at a place of the rope
abbrev pub found_line : ℕ → ℕ → ℕ → List ℕ
found_line i j n = codes "FOUND " ++ name_of_place (i + 1 - n) ++ codes " " ++ name_of_place (j + 1 - n) ++ words_text n

-- the line of n paired words that end at a place, where the other rope has such a place
abbrev pub paired_line : View → ℕ → ℕ → ℕ → List ℕ
paired_line New here there n = moved_line there here n
paired_line Old here there n = []
paired_line Passage here there n = found_line here there n

-- whether no word after that at a place belongs with it
unfoldable pub ends : Entries → Entries → ℕ → Bool
ends pairs here place = not (joins pairs here (place + 1))

-- both sides of the words that are told: with which places of the other rope they are paired and what is compared at them, and the same of
-- the other rope
pub record Sides : Type 0 where
  pub pairs : Entries
  pub here : Entries
  pub back : Entries
  pub there : Entries

-- whether at a place that is no first one of a bank something is compared and nothing paired
abbrev pub stands_free : Entries → Entries → ℕ → Bool
stands_free pairs here place = not (is_first place) && (is_free (at pairs place) && is_some (at here place))

-- whether that is so at n places
unfoldable pub stand_free : Entries → Entries → ℕ → ℕ → Bool
stand_free pairs here place zero = true
stand_free pairs here place (suc n) = stands_free pairs here (place + n) && stand_free pairs here place n

-- where n words that are paired with none stand in place of as many of the other rope: they begin after a word that is paired, and just so
-- many that are paired with none stand there after its partner. That partner
abbrev pub partner_before : Sides → ℕ → ℕ → Option ℕ
partner_before s place n = if is_first (place + 1 - n) then None else at s.pairs (place - n)

abbrev pub replaced_after : Sides → ℕ → Option ℕ → Option ℕ
replaced_after s n None = None
replaced_after s n (Some partner) =
    if nat_lt (partner + n) fixed_places && (stand_free s.back s.there (partner + 1) n && ends s.back s.there (partner + n)) then Some
    partner else None

abbrev pub replaced : Sides → ℕ → ℕ → Option ℕ
replaced s place n = replaced_after s n (partner_before s place n)

-- the line of n words that end at a place and are paired with none, by the partner of the word before them where they stand in place of
-- others: of these nothing is told with the old rope
abbrev pub free_line : View → ℕ → ℕ → Option ℕ → List ℕ
free_line New place n None = codes "NEW " ++ name_of_place (place + 1 - n) ++ words_text n
free_line New place n (Some partner) =
    codes "CHANGED " ++ name_of_place (partner + 1) ++ codes " " ++ name_of_place (place + 1 - n) ++ words_text n
free_line Old place n None = codes "GONE " ++ name_of_place (place + 1 - n) ++ words_text n
free_line Old place n (Some partner) = []
free_line Passage place n _ = codes "MISSING " ++ name_of_place (place + 1 - n) ++ words_text n

-- the line of n words that belong together and end at a place
abbrev pub stretch_line : View → Sides → ℕ → ℕ → Option ℕ → Option ℕ → List ℕ
stretch_line view s n place (Some there) token = if nat_lt there fixed_places then paired_line view place there n else []
stretch_line view s n place None (Some token) = free_line view place n (replaced s place n)
stretch_line view s n place None None = []

-- the line of the words that end at a place
unfoldable pub line_at : View → Sides → ℕ → ℕ → List ℕ
line_at view s bank offset =
    if ends s.pairs s.here (place_number bank offset)
    then stretch_line view s (words_before s.pairs s.here bank (offset + 1)) (place_number bank offset)
    (at s.pairs (place_number bank offset)) (at s.here (place_number bank offset))
    else []

-- the sides of four lists
abbrev pub sides : Entries → Entries → Entries → Entries → Sides
sides pairs here back there = record { pairs = pairs; here = here; back = back; there = there }

-- the sides of a pairing, as the words of the new rope are told, and as those of the old one are
abbrev pub new_sides : Pairing → Sides
new_sides p = sides p.to_old p.new p.to_new p.old

abbrev pub old_sides : Pairing → Sides
old_sides p = sides p.to_new p.old p.to_old p.new

-- the lines of a bank, and of all
unfoldable pub bank_lines : View → Sides → ℕ → List ℕ
bank_lines view s bank = flat_map (line_at view s bank) (range_with_len 0 bank_words)

unfoldable pub view_lines : View → Sides → List ℕ
view_lines view s = flat_map (bank_lines view s) (range_with_len 0 banks)

-- the word at a place by its number
abbrev pub word_of : Words → ℕ → ℕ
word_of words place = word_at words (place / bank_words) (place % bank_words)

-- of a place of the new rope: whether it is paired with the same place of the old one
abbrev pub is_same_at : Entries → ℕ → Bool
is_same_at to_old place = is_entry (at to_old place) place

-- whether it is paired with a place where another word stands
abbrev pub is_other : Words → Words → ℕ → Option ℕ → Bool
is_other old new place None = false
is_other old new place (Some i) = nat_lt i fixed_places && not (word_of old i == word_of new place)

abbrev pub is_other_at : Words → Words → Entries → ℕ → Bool
is_other_at old new to_old place = is_other old new place (at to_old place)

-- how many words are paired with the same place, and how many paired words are others but for their tokens: they have another address
unfoldable pub totals_line : Words → Words → Entries → List ℕ
totals_line old new to_old =
    codes "SAME WORDS " ++ decimal (count_before (is_same_at to_old) fixed_places)
    ++ codes " OTHER ADDRESSES " ++ decimal (count_before (is_other_at old new to_old) fixed_places) ++ codes "\n"
