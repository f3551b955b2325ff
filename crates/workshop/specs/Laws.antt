-- What joins assembler and machine: how the machine reads the words that the assembler makes.
use Rattle.std.specs.Prelude.{◌≡◌, ◌⊎◌, MatchOption, slice_get, ◌<◌, ◌^◌, nat_le, ℕ, ◌==◌, ◌&&◌, not, Bool, false, List, [], ◌∷◌, ◌++◌}
use Rattle.std.specs.Prelude.{codes, unwrap_or}
use Rattle.std.specs.List.{AllByRecursion, list_any}
use Rattle.words.specs.Numerals.{octal_text}
use Rattle.agc_text.specs.Tables.{value_in}
use Rattle.cpu.specs.Next.{extracode_after}
use Rattle.cpu.specs.Texts.{disassembly}
use Rattle.yayul.specs.Laws.{instructions, GivesAlone, GivesWith, operand_digits, LeavesExtracode}
use Rattle.yayul.specs.Operators.{spellings}

-- what the words of an operator are shown by: another operator's name or text, or its own name
abbrev pub shown_as : List ℕ → List ℕ
shown_as name = unwrap_or (value_in spellings name) name

-- the words of RELINT, INHINT, EXTEND and RESUME, which would else be of TC and INDEX
abbrev pub own_words : List ℕ
own_words = 0o3 ∷ 0o4 ∷ 0o6 ∷ 0o50017 ∷ []

-- a word that is one of these, where extracode is not in force
abbrev pub is_own : Bool → ℕ → Bool
is_own extracode word = not extracode && list_any (λ own. word == own) own_words

-- the words that an operator gives alone are shown by a text, and those that it gives of a number by the text and the number in so many
-- octal digits
pub record IsShown (text : List ℕ) (GivesAlone : Bool → ℕ → Type 0) (GivesWith : Bool → ℕ → ℕ → Type 0) (digits : ℕ) : Type 0 where
  pub alone : (extracode : Bool) (word : ℕ) → GivesAlone extracode word → disassembly extracode word ≡ text
  pub with_number : (extracode : Bool) (n word : ℕ) → GivesWith extracode n word → is_own extracode word ≡ false
      → disassembly extracode word ≡ text ++ codes " " ++ octal_text digits n

-- Each operator of an instruction is shown so.
abbrev pub AreShown : Type 0
AreShown = AllByRecursion (λ row. IsShown (shown_as row.0) (GivesAlone row.1) (GivesWith row.1) (operand_digits row.1)) instructions

-- ## Extracode
-- after a word of an operator extracode is in force for the machine as it is for the assembler on the next line that gives words
pub record IsAgreedAfter (GivesAlone : Bool → ℕ → Type 0) (GivesWith : Bool → ℕ → ℕ → Type 0) (LeavesExtracode : Bool → Bool → Type 0) :
    Type 0 where
  pub alone : (extracode : Bool) (word : ℕ) → GivesAlone extracode word → LeavesExtracode extracode (extracode_after extracode word)
  pub with_number : (extracode : Bool) (n word : ℕ) → GivesWith extracode n word → is_own extracode word ≡ false
      → LeavesExtracode extracode (extracode_after extracode word)

-- It is so after each operator of an instruction, where it stands as its row asks. (The word of TC 6 is that of EXTEND, and so stands
-- apart.)
abbrev pub AreAgreed : Type 0
AreAgreed = AllByRecursion (λ row. IsAgreedAfter (GivesAlone row.1) (GivesWith row.1) (LeavesExtracode row.1)) instructions

-- ## Written as it is shown
-- a word is shown by a name, and an operator of this name gives it alone; or by the name and a number, and the operator gives it of the
-- number
pub record IsGivenWith (extracode : Bool) (word : ℕ) (name : List ℕ) (GivesWith : Bool → ℕ → ℕ → Type 0) (digits : ℕ) : Type 0 where
  pub number : ℕ
  pub shown : disassembly extracode word ≡ name ++ codes " " ++ octal_text digits number
  pub gives : GivesWith extracode number word

abbrev pub IsGiven : Bool → ℕ → List ℕ → (Bool → ℕ → Type 0) → (Bool → ℕ → ℕ → Type 0) → ℕ → Type 0
IsGiven extracode word name GivesAlone GivesWith digits =
    ((disassembly extracode word ≡ name) × GivesAlone extracode word) ⊎ IsGivenWith extracode word name GivesWith digits

-- a row of the assembler's operators gives a word as it is shown
pub record IsWritten (extracode : Bool) (word : ℕ) : Type 0 where
  pub row : ℕ
  pub by : MatchOption (slice_get instructions row) ⊥
      (λ r. IsGiven extracode word r.0 (GivesAlone r.1) (GivesWith r.1) (operand_digits r.1))

-- the words of EDRUPT, which has no operator
abbrev pub is_edrupt : Bool → ℕ → Bool
is_edrupt extracode word = extracode && nat_le 0o7000 word && nat_le word 0o7777

-- Each word, under extracode or not, but EDRUPT's.
abbrev pub AreWritten : Type 0
AreWritten = (extracode : Bool) (word : ℕ) → word < 2 ^ 15 → is_edrupt extracode word ≡ false → IsWritten extracode word
