-- What is known of an address of erasable memory by the words that name it.
use Rattle.std.specs.Prelude.{◌≡◌, ℕ, zero, suc, ◌+◌, ◌/◌, ◌<◌, List, get_or, nat_lt, nat_le, Bool, true, false, not, ◌&&◌, ◌||◌}
use Rattle.std.specs.Prelude.{Option, Some, None, if◌then◌else◌}
use Rattle.rope.specs.Places.{bank_words, fixed_places}
use Rattle.align.specs.declared.evidence.Evidence.{Evidence}
use Rattle.align.specs.Carried.{is_sure}
use Rattle.align.specs.Pairings.{Entries, at, is_entry, name_alike, Pairing}

-- nothing is known
abbrev pub no_evidence : Evidence
no_evidence = record { words = 0; is_lost = false; is_sure = false; bank = 0 }

-- what is known by one more that is equal to that with which it is paired: how many words are so, whether one is not paired, whether one is
-- surely carried, and the bank of the last that is equal
abbrev pub kept_word : Pairing → ℕ → ℕ → Evidence → Evidence
kept_word p place j e = record {
  words = e.words + 1;
  is_lost = e.is_lost;
  is_sure = e.is_sure
      || is_sure p place j;
  bank = place / bank_words;
}

-- what is known by one word more, at a place of the old rope
abbrev pub with_word : Pairing → ℕ → Option ℕ → Evidence → Evidence
with_word p place None e = record { words = e.words; is_lost = true; is_sure = e.is_sure; bank = e.bank }
with_word p place (Some j) e = if nat_lt j fixed_places && name_alike p place j then kept_word p place j e else e

-- what is known of an address by those of the first n words that name it
unfoldable pub evidence_before : Entries → Pairing → ℕ → ℕ → Evidence
evidence_before operands p address zero = no_evidence
evidence_before operands p address (suc n) =
    if is_entry (at operands n) address then with_word p n (at p.to_new n) (evidence_before operands p address n) else evidence_before
    operands p address n

-- a list has for each address what is known of it by those of the first n words that name it
abbrev pub IsKnown : Entries → Pairing → ℕ → List Evidence → Type 0
IsKnown operands p n known =
    (address : ℕ) → address < 0o2000 → get_or known address no_evidence ≡ evidence_before operands p address n

-- whether that is enough: two words or more that name it are paired with equal ones, one is surely carried, and none is not paired
abbrev pub is_enough : Evidence → Bool
is_enough e = nat_le 2 e.words && (e.is_sure && not e.is_lost)
