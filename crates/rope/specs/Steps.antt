-- What the steps of reading an image take. Only private contracts cite these.
use Rattle.std.specs.Prelude.{◌≡◌, ℕ, ◌+◌, ◌*◌, ◌%◌, ◌/◌, ◌<◌, ◌≤◌, true, false, List, [], ◌∷◌, ◌++◌, length, drop, Option, Some, None}
use Rattle.std.specs.Prelude.{Result, Ok, Err}
use Rattle.rope.specs.Places.{bank_words, Words, stands}
use Rattle.rope.specs.Image.{bank_of_entry, spelled, image_front}
use Rattle.rope.specs.Reading.{spells_word, AllSpellWords, ReadsImage}
use Rattle.rope.specs.declared.spelling.Version.{Version}
use Rattle.rope.specs.declared.spelling.Version.TheVariants.{One, Two}
use Rattle.rope.specs.declared.fault.RopeFault.{RopeFault}
use Rattle.rope.specs.declared.fault.RopeFault.TheVariants.{NoMemory, Short, Long, LowBit, BadParity, ReadFailed}

-- the word that two bytes spell, or that they spell none
abbrev pub Spells : Version → ℕ → ℕ → Option ℕ → Type 0
Spells version high low (Some word) = high ∷ low ∷ [] ≡ spelled version word
Spells version high low None = spells_word version high low ≡ false

-- the next byte was taken, where one was left
abbrev pub TakesByte : List ℕ → List ℕ → Result (Option ℕ) RopeFault → Type 0
TakesByte old new (Ok None) = (old ≡ []) × (new ≡ [])
TakesByte old new (Ok (Some byte)) = old ≡ byte ∷ new
TakesByte old new (Err fault) = new ≡ old

-- no two bytes stand, and all was read
pub record EndsWithin (old new : List ℕ) : Type 0 where
  pub short : length old < 2
  pub left : new ≡ []

-- a read failed before two bytes were taken
pub record FailsWithin (old new : List ℕ) : Type 0 where
  pub count : ℕ
  pub few : count ≤ 1
  pub stand : count ≤ length old
  pub left : new ≡ drop count old

-- the next two bytes were taken, where two were left
abbrev pub TakesPair : List ℕ → List ℕ → Result (Option (List ℕ)) RopeFault → Type 0
TakesPair old new (Ok None) = EndsWithin old new
TakesPair old new (Ok (Some pair)) = old ≡ pair ++ new
TakesPair old new (Err fault) = FailsWithin old new

-- two bytes were taken that spell no word
pub record TakesWrongBytes (version : Version) (old new : List ℕ) (position at : ℕ) : Type 0 where
  pub high : ℕ
  pub low : ℕ
  pub taken : old ≡ high ∷ low ∷ new
  pub wrong : spells_word version high low ≡ false
  pub place : at ≡ 2 * position + 1

-- the next word was taken, where two bytes were left that spell one
abbrev pub TakesWord : Version → ℕ → List ℕ → List ℕ → Result ℕ RopeFault → Type 0
TakesWord version position old new (Ok word) = old ≡ spelled version word ++ new
TakesWord version position old new (Err NoMemory) = ⊥
TakesWord version position old new (Err Short) = EndsWithin old new
TakesWord version position old new (Err Long) = ⊥
TakesWord version position old new (Err (LowBit at)) = (version ≡ One) × TakesWrongBytes One old new position at
TakesWord version position old new (Err (BadParity at)) = (version ≡ Two) × TakesWrongBytes Two old new position at
TakesWord version position old new (Err ReadFailed) = FailsWithin old new

-- words stand at all positions before one
abbrev pub AllStand : Words → ℕ → Type 0
AllStand words n = (position : ℕ) → position < n → stands words (bank_of_entry (position / bank_words)) (position % bank_words) ≡ true

-- the words at the positions before one were read, and these bytes are left
pub record IsReadTo (version : Version) (old left : List ℕ) (words : Words) (position : ℕ) : Type 0 where
  pub front : old ≡ image_front version words position ++ left
  pub spelled : AllSpellWords version old (2 * position)

-- reading goes on from one position to another, whatever was read before
abbrev pub GoesOn : Version → List ℕ → Words → ℕ → List ℕ → Words → ℕ → Type 0
GoesOn version left words position new_left new_words new_position =
    (old : List ℕ) → IsReadTo version old left words position → IsReadTo version old new_left new_words new_position

-- reading ends at a position, whatever was read before
abbrev pub FaultGoesOn : Version → List ℕ → Words → ℕ → List ℕ → RopeFault → Type 0
FaultGoesOn version left words position new_left fault =
    (old : List ℕ) → IsReadTo version old left words position → ReadsImage version old new_left (Err fault)
