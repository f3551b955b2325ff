-- The row that a word lies in, and how operands are shown.
use Rattle.std.proofs.Common.{◌≡◌, ◌<◌, ◌-◌, ◌^◌, ℕ, List, [], ◌∷◌, ◌++◌, Bool, true, false, refl, arith, eqb, filter, find, length}
use Rattle.std.proofs.Common.{Option, Some, ap, sym, inl, inr}
use Rattle.std.specs.Prelude.{codes, unwrap_or}
use Rattle.std.specs.List.{list_all}
use Rattle.std.proofs.lemmas.Bool.{cases_Bool, and_parts, eqb-true}
use Rattle.words.specs.Numerals.{octal_text}
use Rattle.cpu.specs.Codes.{Range, table, serves, rows_serving, instruction_of, no_range}
use Rattle.cpu.specs.Effects.{first_of}
use Rattle.cpu.specs.Texts.{operand_text}
use Rattle.cpu.specs.declared.instruction.Operand.{Operand}
use Rattle.cpu.specs.declared.instruction.Operand.TheVariants.{Nothing, Short, Long, ShortPair, LongPair, Channel}
use Rattle.cpu.proofs.RowLaws.{one_row}

-- where one passes alone it is found, and has what all have
found : {A : Type 0} (p test : A → Bool) (xs : List A) → length (filter p xs) ≡ 1 → list_all test xs ≡ true
    → (x : A) × ((find p xs ≡ Some x) × ((p x ≡ true) × (test x ≡ true)))
found p test [] one all = absurd (omega arith)
found p test (x ∷ xs) one all =
    let parts = and_parts (test x) (list_all test xs) all in
    elim (cases_Bool (p x)) [
      | inl passes ↦ (x, (rw passes refl, (passes, parts.0)))
      | inr fails ↦ (let h = found p test xs (rw fails at one) parts.1 in (h.0, (rw fails h.1.0, h.1.1)))
    ]

-- a word is the instruction of the row that it lies in, and of that row holds what does of all
pub row_found : (extracode : Bool) (test : Range → Bool) (word : ℕ) → word < 2 ^ 15 → list_all test (table extracode) ≡ true
    → (r : Range) × ((instruction_of extracode word ≡ r.instruction) × ((serves word r ≡ true) × (test r ≡ true)))
unfolding rows_serving
row_found extracode test word high all =
    let h = found (serves word) test (table extracode) (one_row extracode word high) all in
    (h.0, (ap (λ (o : Option Range). (unwrap_or o no_range).instruction) h.1.0, h.1.1))

-- ## Operands
-- what is shown as an address, as the address before one of so many, and as a channel
abbrev pub is_address : Operand → Bool
is_address Nothing = false
is_address Short = true
is_address Long = true
is_address ShortPair = false
is_address LongPair = false
is_address Channel = false

abbrev pub is_next_of : ℕ → Operand → Bool
is_next_of size Nothing = false
is_next_of size Short = false
is_next_of size Long = false
is_next_of size ShortPair = eqb size 0o2000
is_next_of size LongPair = eqb size 0o10000
is_next_of size Channel = false

abbrev pub is_channel : Operand → Bool
is_channel Nothing = false
is_channel Short = false
is_channel Long = false
is_channel ShortPair = false
is_channel LongPair = false
is_channel Channel = true

pub address_shown : (o : Operand) (k : ℕ) → is_address o ≡ true → operand_text o k ≡ codes " " ++ octal_text 4 k
address_shown Nothing k e = absurd (cc)
address_shown Short k e = refl
address_shown Long k e = refl
address_shown ShortPair k e = absurd (cc)
address_shown LongPair k e = absurd (cc)
address_shown Channel k e = absurd (cc)

pub next_shown : (size : ℕ) (o : Operand) (k : ℕ) → is_next_of size o ≡ true
    → operand_text o k ≡ codes " " ++ octal_text 4 (first_of (size - 1) k)
next_shown size Nothing k e = absurd (cc)
next_shown size Short k e = absurd (cc)
next_shown size Long k e = absurd (cc)
next_shown size ShortPair k e = let is : size ≡ 0o2000 = eqb-true _ _ e in
    ap (λ (s : ℕ). codes " " ++ octal_text 4 (first_of (s - 1) k)) (sym is)
next_shown size LongPair k e = let is : size ≡ 0o10000 = eqb-true _ _ e in
    ap (λ (s : ℕ). codes " " ++ octal_text 4 (first_of (s - 1) k)) (sym is)
next_shown size Channel k e = absurd (cc)

pub channel_shown : (o : Operand) (k : ℕ) → is_channel o ≡ true → operand_text o k ≡ codes " " ++ octal_text 3 k
channel_shown Nothing k e = absurd (cc)
channel_shown Short k e = absurd (cc)
channel_shown Long k e = absurd (cc)
channel_shown ShortPair k e = absurd (cc)
channel_shown LongPair k e = absurd (cc)
channel_shown Channel k e = refl
