-- The names of the old rope with what they stand for in the new one.
use Rattle.std.specs.Prelude.{ℕ, zero, suc, ◌+◌, ◌*◌, ◌/◌, ◌%◌, ◌==◌, nat_lt, Bool, true, false, ◌&&◌, ◌||◌, List, ◌++◌, codes, flat_map}
use Rattle.std.specs.Prelude.{if◌then◌else◌}
use Rattle.rope.specs.Places.{fixed_places, place_number}
use Rattle.symbols.specs.Values.{SymbolTable}
use Rattle.symbols.specs.declared.values.Value.{Value}
use Rattle.symbols.specs.declared.values.Value.TheVariants.{Num, Erasable, Fixed}
use Rattle.align.specs.declared.evidence.Evidence.{Evidence}
use Rattle.align.specs.Alignments.{Renaming}
use Rattle.align.specs.Carried.{fixed_line, name_line}
use Rattle.align.specs.Evidences.{evidence_before, is_enough}
use Rattle.align.specs.Pairings.{Entries, at, Pairing}
use Rattle.align.specs.RenamedLines.{slot_address, slot_bank}
use Rattle.align.specs.Renamings.{renamed}

-- the address of an erasable place: of one from 1400 on in the switched bank
abbrev pub address_of_place : ℕ → ℕ
address_of_place place = if nat_lt place 0o1400 then place else 0o1400 + place % 0o400

-- the place of an address in the bank of another place
abbrev pub place_in_bank : ℕ → ℕ → ℕ
place_in_bank place address = if nat_lt place 0o1400 then address else place / 0o400 * 0o400 + address % 0o400

-- whether an address of the switched bank stands for itself in the words of a bank
abbrev pub is_kept : Entries → ℕ → Bool
is_kept names n = renamed names (slot_bank (0o1400 + n)) (slot_address (0o1400 + n)) == slot_address (0o1400 + n)

-- whether each of n such does
unfoldable pub keep_switched : Entries → ℕ → Bool
keep_switched names zero = true
keep_switched names (suc n) = is_kept names n && keep_switched names n

-- whether an erasable place is surely carried: enough is known of its address, and it lies outside the switched bank, or there each
-- address, in the words of each of 36 banks, stands for itself, since no word tells which bank is switched
abbrev pub is_sure_place : Entries → ℕ → Evidence → Bool
is_sure_place names place known = is_enough known && (nat_lt place 0o1400 || keep_switched names 9216)

-- the line of a name and an erasable place that it surely stands for, or in a comment
abbrev pub settled_line : Bool → List ℕ → ℕ → List ℕ
settled_line true name place = name_line name (Erasable place)
settled_line false name place = codes "# UNSURE " ++ name_line name (Erasable place)

-- the line of a name of an erasable place that is no register and no counter, by what is known of its address
abbrev pub known_line : Entries → List ℕ → ℕ → Evidence → List ℕ
known_line names name place known =
    settled_line (is_sure_place names place known) name (place_in_bank place (renamed names known.bank (address_of_place place)))

-- the line of a name of an erasable place: registers and counters are what they were
abbrev pub erasable_line : Renaming → Pairing → List ℕ → ℕ → List ℕ
erasable_line r p name place =
    if nat_lt place 0o61 then name_line name (Erasable place)
    else known_line r.names name place (evidence_before r.operands p (address_of_place place) fixed_places)

-- the line of a name: a number is what it was
abbrev pub carried_line : Renaming → Pairing → List ℕ × Value → List ℕ
carried_line r p (name, Num n) = name_line name (Num n)
carried_line r p (name, Erasable place) = erasable_line r p name place
carried_line r p (name, Fixed bank offset) = fixed_line p name (place_number bank offset) (at p.to_new (place_number bank offset))

-- the lines of all names, in their order
unfoldable pub carried_lines : Renaming → Pairing → SymbolTable → List ℕ
carried_lines r p names = flat_map (carried_line r p) names
