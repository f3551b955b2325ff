-- What is known of a word, by its place and what its source names: whether something is told of it by what it finds, and by which bank
-- register that it reaches another bank.
use Rattle.std.specs.Prelude.{◌≡◌, ℕ, ◌/◌, ◌<◌, ◌^◌, ◌==◌, ◌&&◌, ◌||◌, nat_le, nat_lt, Bool, true, false, not, List, Option, Some, None}
use Rattle.std.specs.Prelude.{get_or, if◌then◌else◌}
use Rattle.space.specs.Cells.{at, erasable_bank, fixed_bank, superbank}
use Rattle.space.specs.Places.{selected_bank}
use Rattle.space.specs.declared.place.Linear.{Linear}
use Rattle.space.specs.declared.place.Linear.TheVariants.{Erasable, Fixed}
use Rattle.rope.specs.Places.{bank_words, place_number}
use Rattle.yayul.specs.Named.{Named, named_at}
use Rattle.cpu.specs.Codes.{code_of}
use Rattle.cpu.specs.Operands.{address_of}
use Rattle.cpu.specs.State.{State}
use Rattle.notes.specs.declared.known.KnownWord.{KnownWord}
use Rattle.notes.specs.declared.known.Way.{Way}
use Rattle.notes.specs.declared.known.Way.TheVariants as way
use Rattle.notes.specs.Past.{entered_at}

-- by which bank register it is told whether the word at a place reaches another bank than what its source names; of few it is not known
abbrev pub way_of : Option Linear → Option ℕ → Option Way
way_of None address = Some way.Nowhere
way_of (Some other) None = Some way.Nowhere
way_of (Some (Erasable n)) (Some k) = if nat_le 0o1400 k && nat_lt k 0o2000 then Some (way.ByErasable (n / 0o400)) else None
way_of (Some (Fixed bank n)) (Some k) = if nat_le 0o2000 k && nat_lt k 0o4000 then Some (way.ByFixed bank) else None

-- whether it does
abbrev pub leads_away : State → Way → Bool
leads_away s way.Nowhere = false
leads_away s (way.ByErasable n) = not (at s.cells erasable_bank == n)
leads_away s (way.ByFixed n) = not (selected_bank (at s.cells fixed_bank) (superbank s.cells) == n)

-- words of TS and of CCS, of which something is told by what they find
abbrev pub is_judged : ℕ → Bool
is_judged word = (nat_le 0o54000 word && nat_le word 0o55777) || (nat_le 0o10000 word && nat_lt word 0o12000)

-- a word of which nothing is told, whatever it finds
abbrev pub is_calm : Bool → ℕ → Bool
is_calm extra word = if extra then nat_le 0o12000 word else not (word == 0o50017) && not (is_judged word)

-- what is known of the word at a place
pub record KnowsWord (named : Named) (bank offset : ℕ) (known : KnownWord) : Type 0 where
  pub calm : known.calm ≡ true → is_calm known.extra known.word ≡ true
  pub entry : known.calm ≡ true → entered_at (Fixed bank offset) ≡ None
  pub way : way_of (named_at named bank offset) (address_of (code_of known.extra known.word)) ≡ Some known.way

-- nothing
abbrev pub nothing_known : KnownWord
nothing_known = record { word = 0o177777; extra = false; calm = false; way = way.Nowhere }

-- what is known of all words, each by the number of its place
abbrev pub Knows : Named → List KnownWord → Type 0
Knows named words = (bank offset : ℕ) → offset < bank_words → (get_or words (place_number bank offset) nothing_known).word < 2 ^ 15
    → KnowsWord named bank offset (get_or words (place_number bank offset) nothing_known)
