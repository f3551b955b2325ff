-- Rows and shared cells, worked out by hand.
use Rattle.std.proofs.Common.{◌≡◌, ℕ, true, false, List, [], ◌∷◌, ◌++◌, Some, None, refl}
use Rattle.std.specs.Prelude.{codes}
use Rattle.std.specs.List.{flat_map}
use Rattle.access.specs.Accesses.{slot, times_in}
use Rattle.access.specs.AccessText.{Figures, is_shared, is_touched, is_unread, level_row, shared_line, writers}
use Rattle.access.specs.CellText.{near_part}
use Rattle.words.specs.Numerals.{octal_text}
use Rattle.access.specs.Levels.{level_name}
use Rattle.access.specs.Asked.{cell_in_fields, channel_asked}
use Rattle.symbols.specs.Values.{SymbolTable}
use Rattle.symbols.specs.declared.values.Value.TheVariants.{Erasable}

names : flat_map (λ l. codes " " ++ level_name l) (0 ∷ 1 ∷ 5 ∷ 10 ∷ 11 ∷ 12 ∷ []) ≡ codes " MAIN T6RUPT KEYRUPT1 RUPT10 INHIBITED INPUT"
names = refl

-- what was never used has no row
no_row : level_row 0 0 0 (codes "TMP\n") ≡ []
unfolding level_row
no_row = refl

-- of cell 102, octal, which is 66: MAIN reads at 1716 and writes at 1717, T5RUPT, interrupt 2, at 1720 and 1721, and T4RUPT, interrupt 4,
-- reads at 1724; the main program while interrupts are inhibited writes at 1739
numbers : slot 66 0 0 ∷ slot 66 0 1 ∷ slot 66 2 0 ∷ slot 66 2 1 ∷ slot 66 4 0 ∷ slot 66 11 1 ∷ []
    ≡ 1716 ∷ 1717 ∷ 1720 ∷ 1721 ∷ 1724 ∷ 1739 ∷ []
numbers = refl

abbrev once : List ℕ → Figures
once numbers i = times_in i numbers

written_and_read_below : is_shared (once (1717 ∷ 1720 ∷ [])) 66 ≡ true
written_and_read_below = refl

read_and_written_below : is_shared (once (1716 ∷ 1721 ∷ [])) 66 ≡ true
read_and_written_below = refl

-- where all read it is not shared, nor between two interrupts, nor where interrupts are inhibited
all_read : is_shared (once (1716 ∷ 1720 ∷ 1724 ∷ [])) 66 ≡ false
all_read = refl

two_interrupts : is_shared (once (1721 ∷ 1724 ∷ [])) 66 ≡ false
two_interrupts = refl

while_inhibited : is_shared (once (1739 ∷ 1720 ∷ [])) 66 ≡ false
while_inhibited = refl

-- Q, whose row begins at 52, is a register: MAIN reads it, KEYRUPT1 writes it
register : is_shared (once (52 ∷ 63 ∷ [])) 2 ≡ false
register = refl

touched : is_touched (once (1739 ∷ [])) 66 ≡ true
touched = refl

not_touched : is_touched (once (1715 ∷ 1742 ∷ [])) 66 ≡ false
not_touched = refl

-- the levels that write it
shared_told : shared_line (once (1717 ∷ 1720 ∷ 1721 ∷ [])) 66 (codes "TMP") ≡ codes "SHARED TMP WRITTEN BY MAIN T5RUPT\n"
unfolding writers
shared_told = refl

-- written and never read at any level, and a register, which is never told so
unread : is_unread (once (1717 ∷ 1739 ∷ [])) 66 ≡ true
unread = refl

read_below : is_unread (once (1717 ∷ 1724 ∷ [])) 66 ≡ false
read_below = refl

never_written : is_unread (once []) 66 ≡ false
never_written = refl

unread_register : is_unread (once (53 ∷ [])) 2 ≡ false
unread_register = refl

-- a place without a name is told by the nearest before it, if any
near : near_part (Some (codes "VEL", 1)) (codes "E0,0104") ≡ codes "VEL +1"
unfolding octal_text
near = refl

alone : near_part None (codes "E0,0104") ≡ codes "E0,0104"
alone = refl

-- what is asked for as a session takes it, where VEL stands for place 103, octal, which is 67
abbrev table : SymbolTable
table = (codes "VEL", Erasable 67) ∷ []

moved : cell_in_fields table (codes "VEL" ∷ codes "+1" ∷ []) ≡ Some 68
moved = refl

moved_too_far : cell_in_fields table (codes "VEL" ∷ codes "+4000" ∷ []) ≡ None
moved_too_far = refl

no_sign : cell_in_fields table (codes "VEL" ∷ codes "1" ∷ []) ≡ None
no_sign = refl

three_fields : cell_in_fields table (codes "VEL" ∷ codes "+1" ∷ codes "2" ∷ []) ≡ None
three_fields = refl

by_number : cell_in_fields table (codes "104" ∷ []) ≡ Some 68
by_number = refl

-- channel 15 is cell 4015, octal, and channel 2 is Q
by_channel : channel_asked table (codes "CH15") ≡ Some 2061
by_channel = refl

q_by_channel : channel_asked table (codes "CH2") ≡ Some 2
q_by_channel = refl

no_channel : channel_asked table (codes "CH1000") ≡ None
no_channel = refl
