-- Accounts of banks, worked by hand.
use Rattle.std.proofs.Common.{◌≡◌, ℕ, List, [], ◌∷◌, ◌++◌, refl}
use Rattle.std.specs.Fmt.{digits}
use Rattle.words.specs.Numerals.{octal_text}
use Rattle.std.specs.Prelude.{codes, Option, None, Some, Bool, true, false}
use Rattle.rope.specs.Places.{Words, stands, word_at}
use Rattle.certain.specs.Accounts.{account_told, is_of}
use Rattle.certain.specs.declared.accounts.Kind.TheVariants.{Certain, Equal, Uncertain, Hole}
use Rattle.certain.specs.declared.form.UncertainForm.TheVariants.{VerbNoun}
use Rattle.certain.specs.Places.{UncertainWords}

abbrev lf : List ℕ
lf = 10 ∷ []

-- bank 10 with 812 certain places and 211 holes
with_holes : account_told 8 (record { certain = 812; equal = 811; uncertain = 0; holes = 211 })
    ≡ codes "BANK 10 CERTAIN 812 EQUAL 811 HOLES 211" ++ lf
unfolding digits octal_text
with_holes = refl

with_uncertain_places : account_told 0o43 (record { certain = 9; equal = 9; uncertain = 3; holes = 0 })
    ≡ codes "BANK 43 CERTAIN 9 EQUAL 9 UNCERTAIN 3 HOLES 0" ++ lf
unfolding digits octal_text
with_uncertain_places = refl

-- a bank without a word of the source has no line
empty_bank : account_told 4 (record { certain = 0; equal = 0; uncertain = 0; holes = 0 }) ≡ []
empty_bank = refl

-- a bank of holes alone has one
holes_alone : account_told 4 (record { certain = 0; equal = 0; uncertain = 0; holes = 2 })
    ≡ codes "BANK 04 CERTAIN 0 EQUAL 0 HOLES 2" ++ lf
unfolding digits octal_text
holes_alone = refl

-- ## Places
-- the first place of bank 0 is of VN, the second of no form
abbrev forms : UncertainWords
forms = Some VerbNoun ∷ None ∷ []

-- a word that the source makes, of no form, and the rope's is another: certain, not equal
certain_place : (words other new : Words) → stands words 0 1 ≡ true → word_at words 0 1 ≡ 5 → word_at other 0 1 ≡ 5
    → is_of Certain forms words other new 0 1 ≡ true
certain_place words other new s w o = rw (s, w, o) refl

not_equal : (words other new : Words) → stands words 0 1 ≡ true → word_at words 0 1 ≡ 5 → word_at other 0 1 ≡ 5 → word_at new 0 1 ≡ 6
    → is_of Equal forms words other new 0 1 ≡ false
not_equal words other new s w o n = rw (s, w, o, n) refl

-- a word of VN is uncertain, and counts as no certain one
uncertain_place : (words other new : Words) → stands words 0 0 ≡ true → word_at words 0 0 ≡ 5 → word_at other 0 0 ≡ 5
    → is_of Uncertain forms words other new 0 0 ≡ true
uncertain_place words other new s w o = rw (s, w, o) refl

not_certain : (words other new : Words) → stands words 0 0 ≡ true → word_at words 0 0 ≡ 5 → word_at other 0 0 ≡ 5
    → is_of Certain forms words other new 0 0 ≡ false
not_certain words other new s w o = rw (s, w, o) refl

-- 0 in a hole and 1 in the other memory
hole : (words other new : Words) → stands words 0 1 ≡ true → word_at words 0 1 ≡ 0 → word_at other 0 1 ≡ 1
    → is_of Hole forms words other new 0 1 ≡ true
hole words other new s w o = rw (s, w, o) refl
