-- Places as a listing has them.
use Rattle.std.proofs.Common.{◌≡◌, ℕ, ◌+◌, ◌*◌, ◌/◌, ◌%◌, ◌<◌, ◌≤◌, ◌==◌, nat_lt, nat_le, Bool, true, false}
use Rattle.std.proofs.Common.{List, [], ◌∷◌, ◌++◌, length, Some, None, Option, refl, ◌∙◌, ap, sym, arith, inl, inr}
use Rattle.std.specs.Prelude.{codes}
use Rattle.std.specs.List.{list_all}
use Rattle.std.specs.Option.{option_or}
use Rattle.std.proofs.lemmas.Bool.{and_parts, cases_Bool, eq-eqb, ne_eqb}
use Rattle.std.proofs.lemmas.Bool.Decides.{nat_tests}
use Rattle.words.specs.Numerals.{octal_text}
use Rattle.agc_text.specs.Digits.{number_of}
use Rattle.agc_text.specs.Tables.{same_name, value_in}
use Rattle.space.specs.Places.{window}
use Rattle.space.specs.declared.place.Linear.{Linear}
use Rattle.space.specs.declared.place.Linear.TheVariants.{Erasable, Fixed}
use Rattle.symbols.specs.Registers.{registers}
use Rattle.symbols.proofs.Names.{same_length}
use Rattle.yayul.specs.Listing.{place_text}
use Rattle.commands.specs.Commands.{after_comma, bank_in, before_comma, fixed_place_in, numbered_place}
use Rattle.commands.specs.NamedPlaces.{in_erasable_bank, in_fixed_bank, listed_place, named_place, own_place, place_of_bank}
use Rattle.commands.specs.NamedPlaces.{unnamed_place}
use Rattle.audit.specs.WordLines.{place_text as rope_place_text}
use Rattle.debugger.proofs.InputsRead.{octal_value}
use Rattle.notation_laws.specs.ReadBack.{IsPlace, PlaceReadsBack, HasOneText}

-- ## Addresses
-- the address of a place of fixed memory, and of one of erasable memory
window_fixed : (bank offset : ℕ) → offset < 0o2000
    → (window (Fixed bank offset) % 0o2000 ≡ offset) × (0o2000 ≤ window (Fixed bank offset)) × (window (Fixed bank offset) < 0o10000)
unfolding window
window_fixed bank offset lt = elim (cases_Bool (bank == 2)) [
  | inl two ↦ rw two (omega (arith, lt), omega (arith, lt), omega (arith, lt))
  | inr other ↦ elim (cases_Bool (bank == 3)) [
    | inl three ↦ rw (other, three) (omega (arith, lt), omega (arith, lt), omega (arith, lt))
    | inr neither ↦ rw (other, neither) (omega (arith, lt), omega (arith, lt), omega (arith, lt))
  ]
]

window_erasable : (p : ℕ) → p < 0o4000
    → (0o400 * (p / 0o400) + window (Erasable p) % 0o400 ≡ p) × (window (Erasable p) < 0o10000)
unfolding window
window_erasable p lt = elim (cases_Bool (nat_lt p 0o1400)) [
  | inl low ↦ rw low (omega (arith, lt), omega (arith, lt))
  | inr high ↦ rw high (omega (arith, lt), omega (arith, lt))
]

itself : (n : ℕ) → n == n ≡ true
itself n = eq-eqb n n refl

reached_fixed : (bank offset : ℕ) → offset < 0o2000 → in_fixed_bank bank (window (Fixed bank offset)) ≡ Some (Fixed bank offset)
reached_fixed bank offset lt = rw ((window_fixed bank offset lt).0, itself (window (Fixed bank offset))) refl

reached_erasable : (p : ℕ) → p < 0o4000 → in_erasable_bank (p / 0o400) (window (Erasable p)) ≡ Some (Erasable p)
reached_erasable p lt = rw ((window_erasable p lt).0, itself (window (Erasable p))) refl

-- ## A text that is too long for a name of a register or of a counter
abbrev is_short : {X : Type 0} → List ℕ × X → Bool
is_short entry = nat_le (length entry.0) 6

too_long : {X : Type 0} (table : List (List ℕ × X)) (text : List ℕ) → list_all is_short table ≡ true → 6 < length text
    → value_in table text ≡ None
too_long [] text all long = refl
too_long (e ∷ es) text all long =
    let parts = and_parts (is_short e) (list_all is_short es) all in
    elim (cases_Bool (same_name text e.0)) [
      | inl same ↦ absurd (
          let equal = same_length text e.0 same in
          let short : length e.0 ≤ 6 = (let le = parts.0 in grind (arith, nat_tests, le)) in
          omega (arith, equal, short, long))
      | inr apart ↦ rw apart (too_long es text parts.1 long)
    ]

no_own : (text : List ℕ) → 6 < length text → own_place text ≡ None
no_own text long = rw (too_long registers text refl long) refl

-- ## A place that is read as a listing has it
read_so : (n f l o : Option Linear) (place : Linear) → n ≡ None → f ≡ None → o ≡ None → l ≡ Some place
    → (option_or n (option_or f l) ≡ Some place)
    × (option_or (option_or n (option_or None f)) (option_or o l) ≡ Some place)
read_so n f l o place none no_fixed no_name listed = rw (none, no_fixed, no_name, listed) (refl, refl)

reads : (text : List ℕ) (place : Linear) → numbered_place text ≡ None → fixed_place_in text ≡ None → own_place text ≡ None
    → listed_place text ≡ Some place → (unnamed_place text ≡ Some place) × (named_place [] text ≡ Some place)
reads text place = read_so (numbered_place text) (fixed_place_in text) (listed_place text) (own_place text) place

-- a bank of two bytes, a comma and an address of four
abbrev pub seven : ℕ → ℕ → ℕ → ℕ → ℕ → ℕ → List ℕ
seven b c w x y z = b ∷ c ∷ 0o54 ∷ w ∷ x ∷ y ∷ z ∷ []

pub parted : (b c w x y z : ℕ) → b == 0o54 ≡ false → c == 0o54 ≡ false
    → (before_comma (seven b c w x y z) ≡ b ∷ c ∷ []) × (after_comma (seven b c w x y z) ≡ w ∷ x ∷ y ∷ z ∷ [])
parted b c w x y z nb nc = rw (nb, nc) (refl, refl)

digit_apart : (d other : ℕ) → d < 8 → nat_le 0o70 other ≡ true → (48 + d) == other ≡ false
digit_apart d other lt high = ne_eqb (48 + d) other
    (λ e. (let le : 0o70 ≤ other = grind (arith, nat_tests, high) in omega (arith, e, lt, le)))

pub no_comma : (d : ℕ) → (48 + d) == 0o54 ≡ false
no_comma d = ne_eqb (48 + d) 0o54 (λ e. omega (arith, e))

-- ## A place of fixed memory
pub fixed_text : (bank a : ℕ) → octal_text 2 bank ++ codes "," ++ octal_text 4 a
    ≡ seven (48 + bank / 8 % 8) (48 + bank % 8) (48 + a / 8 / 8 / 8 % 8) (48 + a / 8 / 8 % 8) (48 + a / 8 % 8) (48 + a % 8)
unfolding octal_text
fixed_text bank a = refl

pub two : (b : ℕ) → octal_text 2 b ≡ (48 + b / 8 % 8) ∷ (48 + b % 8) ∷ []
unfolding octal_text
two b = refl

pub four : (a : ℕ) → octal_text 4 a ≡ (48 + a / 8 / 8 / 8 % 8) ∷ (48 + a / 8 / 8 % 8) ∷ (48 + a / 8 % 8) ∷ (48 + a % 8) ∷ []
unfolding octal_text
four a = refl

bank_read : (b c bank a : ℕ) (place : Linear) → b == 0o105 ≡ false → number_of 8 5 (b ∷ c ∷ []) ≡ Some bank → nat_le bank 0o47 ≡ true
    → in_fixed_bank bank a ≡ Some place → place_of_bank (b ∷ c ∷ []) a ≡ Some place
bank_read b c bank a place no_e is few reached = rw (no_e, is, few) reached

listed_so : (text before after : List ℕ) (a : ℕ) (place : Linear) → before_comma text ≡ before → after_comma text ≡ after
    → number_of 8 5 after ≡ Some a → place_of_bank before a ≡ Some place → listed_place text ≡ Some place
listed_so text before after a place front rest number place_is = rw (rest, front, number) place_is

no_fixed_by : (text before after : List ℕ) (bank a : ℕ) → before_comma text ≡ before → after_comma text ≡ after
    → number_of 8 5 before ≡ Some bank → number_of 8 5 after ≡ Some a → nat_le bank 0o47 ≡ true → nat_le a 0o1777 ≡ false
    → fixed_place_in text ≡ None
no_fixed_by text before after bank a front rest bank_is a_is few far = rw (rest, front, bank_is, a_is, few, far) refl

fixed_reads : (bank a : ℕ) (place : Linear) → bank < 0o50 → 0o2000 ≤ a → a < 0o10000 → in_fixed_bank bank a ≡ Some place
    → (unnamed_place (octal_text 2 bank ++ codes "," ++ octal_text 4 a) ≡ Some place)
    × (named_place [] (octal_text 2 bank ++ codes "," ++ octal_text 4 a) ≡ Some place)
fixed_reads bank a place lt high low reached =
    let b : ℕ = 48 + bank / 8 % 8 in
    let c : ℕ = 48 + bank % 8 in
    let w : ℕ = 48 + a / 8 / 8 / 8 % 8 in
    let x : ℕ = 48 + a / 8 / 8 % 8 in
    let y : ℕ = 48 + a / 8 % 8 in
    let z : ℕ = 48 + a % 8 in
    let bank_is : number_of 8 5 (b ∷ c ∷ []) ≡ Some bank = ap (number_of 8 5) (sym (two bank))
    ∙ octal_value 2 bank (omega arith) (omega arith) (omega (arith, lt)) in
    let a_is : number_of 8 5 (w ∷ x ∷ y ∷ z ∷ []) ≡ Some a = ap (number_of 8 5) (sym (four a))
    ∙ octal_value 4 a (omega arith) (omega arith) (omega (arith, low)) in
    let few : nat_le bank 0o47 ≡ true = grind (arith, nat_tests, lt) in
    let far : nat_le a 0o1777 ≡ false = grind (arith, nat_tests, high) in
    let parts = parted b c w x y z (no_comma (bank / 8 % 8)) (no_comma (bank % 8)) in
    let no_e : b == 0o105 ≡ false = digit_apart (bank / 8 % 8) 0o105 (omega arith) refl in
    let fixed : fixed_place_in (seven b c w x y z) ≡ None
    = no_fixed_by (seven b c w x y z) (b ∷ c ∷ []) (w ∷ x ∷ y ∷ z ∷ []) bank a parts.0 parts.1 bank_is a_is few far in
    let listed : listed_place (seven b c w x y z) ≡ Some place
    = listed_so (seven b c w x y z) (b ∷ c ∷ []) (w ∷ x ∷ y ∷ z ∷ []) a place parts.0 parts.1 a_is
    (bank_read b c bank a place no_e bank_is few reached) in
    rw (fixed_text bank a) (reads (seven b c w x y z) place refl fixed (no_own (seven b c w x y z) (omega arith)) listed)

-- ## One of erasable memory
erasable_text : (bank a : ℕ) → (codes "E" ++ octal_text 1 bank) ++ codes "," ++ octal_text 4 a
    ≡ seven 0o105 (48 + bank % 8) (48 + a / 8 / 8 / 8 % 8) (48 + a / 8 / 8 % 8) (48 + a / 8 % 8) (48 + a % 8)
unfolding octal_text
erasable_text bank a = refl

single : (b : ℕ) → octal_text 1 b ≡ (48 + b % 8) ∷ []
unfolding octal_text
single b = refl

erasable_bank_read : (c bank a : ℕ) (place : Linear) → number_of 8 5 (c ∷ []) ≡ Some bank → nat_le bank 7 ≡ true
    → in_erasable_bank bank a ≡ Some place → place_of_bank (0o105 ∷ c ∷ []) a ≡ Some place
erasable_bank_read c bank a place is few reached = rw (is, few) reached

no_bank : (c : ℕ) → bank_in (0o105 ∷ c ∷ []) ≡ None
no_bank c = refl

no_fixed_bank : (text before : List ℕ) → before_comma text ≡ before → bank_in before ≡ None → fixed_place_in text ≡ None
no_fixed_bank text before front none = rw (front, none) refl

erasable_reads : (bank a : ℕ) (place : Linear) → bank < 8 → a < 0o10000 → in_erasable_bank bank a ≡ Some place
    → (unnamed_place ((codes "E" ++ octal_text 1 bank) ++ codes "," ++ octal_text 4 a) ≡ Some place)
    × (named_place [] ((codes "E" ++ octal_text 1 bank) ++ codes "," ++ octal_text 4 a) ≡ Some place)
unfolding octal_text
erasable_reads bank a place lt low reached =
    let c : ℕ = 48 + bank % 8 in
    let w : ℕ = 48 + a / 8 / 8 / 8 % 8 in
    let x : ℕ = 48 + a / 8 / 8 % 8 in
    let y : ℕ = 48 + a / 8 % 8 in
    let z : ℕ = 48 + a % 8 in
    let bank_is : number_of 8 5 (c ∷ []) ≡ Some bank = ap (number_of 8 5) (sym (single bank))
    ∙ octal_value 1 bank (omega arith) (omega arith) (omega (arith, lt)) in
    let a_is : number_of 8 5 (w ∷ x ∷ y ∷ z ∷ []) ≡ Some a = ap (number_of 8 5) (sym (four a))
    ∙ octal_value 4 a (omega arith) (omega arith) (omega (arith, low)) in
    let few : nat_le bank 7 ≡ true = grind (arith, nat_tests, lt) in
    let parts = parted 0o105 c w x y z refl (no_comma (bank % 8)) in
    let fixed : fixed_place_in (seven 0o105 c w x y z) ≡ None
    = no_fixed_bank (seven 0o105 c w x y z) (0o105 ∷ c ∷ []) parts.0 (no_bank c) in
    let listed : listed_place (seven 0o105 c w x y z) ≡ Some place
    = listed_so (seven 0o105 c w x y z) (0o105 ∷ c ∷ []) (w ∷ x ∷ y ∷ z ∷ []) a place parts.0 parts.1 a_is
    (erasable_bank_read c bank a place bank_is few reached) in
    rw (erasable_text bank a) (reads (seven 0o105 c w x y z) place refl fixed (no_own (seven 0o105 c w x y z) (omega arith)) listed)

pub place_reads_back : (place : Linear) → IsPlace place → PlaceReadsBack place
unfolding place_text
place_reads_back (Erasable p) lt =
    let r = erasable_reads (p / 0o400) (window (Erasable p)) (Erasable p) (omega (arith, lt)) (window_erasable p lt).1
    (reached_erasable p lt) in
    record { alone = r.0; asked = r.1 }
place_reads_back (Fixed bank offset) is =
    let at = window_fixed bank offset is.1 in
    let r = fixed_reads bank (window (Fixed bank offset)) (Fixed bank offset) is.0 at.1 at.2 (reached_fixed bank offset is.1) in
    record { alone = r.0; asked = r.1 }

pub has_one_text : (bank offset : ℕ) → HasOneText bank offset
unfolding place_text rope_place_text
has_one_text bank offset = refl
