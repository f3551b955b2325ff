-- The words of each operator are shown by its name and its operand: this is tested row by row, by computing.
use Rattle.std.proofs.Common.{◌≡◌, ◌≤◌, ◌<◌, ◌+◌, ◌-◌, ◌*◌, ◌/◌, ◌%◌, ◌^◌, ℕ, List, [], ◌∷◌, ◌++◌, Bool, true, false, not, ◌&&◌, ◌||◌, refl}
use Rattle.std.proofs.Common.{arith, eqb, leb, ltb, ◌==◌, ◌∙◌, ap, sym, inl, inr, Ok, Err, Result}
use Rattle.std.specs.Prelude.{codes}
use Rattle.std.specs.List.{AllByRecursion, list_all}
use Rattle.std.proofs.lemmas.Bool.{cases_Bool, cases_lt, and_parts, or_cases, eqb-true, leb-true, ltb-true, true≢false}
use Rattle.std.proofs.lemmas.Bool.Decides.{nat_tests}
use Rattle.std.proofs.lemmas.Nat.{mod-mul-add}
use Rattle.std.proofs.Math.Nat.{mod-eq_of_lt, mod_self}
use Rattle.words.specs.Numerals.{octal_text}
use Rattle.agc_text.specs.Tables.{same_name}
use Rattle.cpu.specs.Codes.{Range, basic_rows, extracode_rows, table, serves, row_of, bits, instruction_of, operand_of}
use Rattle.cpu.specs.Codes.{code_of}
use Rattle.cpu.specs.Effects.{first_of}
use Rattle.cpu.specs.Texts.{operand_text, instruction_text, disassembly}
use Rattle.cpu.specs.declared.instruction.Instruction.{Instruction}
use Rattle.cpu.proofs.RowTexts.{row_found, is_address, is_next_of, is_channel, address_shown, next_shown, channel_shown}
use Rattle.yayul.specs.Layout.{and_then}
use Rattle.yayul.specs.Laws.{GivesAlone, GivesWith, instructions, operand_digits}
use Rattle.yayul.specs.Operators.{operators, operator_rows}
use Rattle.yayul.specs.Words.{accepted, address_of, address_below}
use Rattle.yayul.specs.declared.faults.FaultKind.{FaultKind}
use Rattle.yayul.specs.Language.{Num}
use Rattle.yayul.proofs.GivenWords.{Kind, Says, field, Gives, stands_alone, word_alone, stands_with, takes_number, kind_of, least_of}
use Rattle.yayul.proofs.GivenWords.{size_of, gives_alone, given_stands, gives_with}
use Rattle.yayul.proofs.GivenWords.Kind.{Number, Pair, Far, Channel}
use Rattle.workshop.specs.Laws.{shown_as, is_own, IsShown, AreShown}

-- what a field holds of a number
abbrev pub Holds : Kind → ℕ → ℕ → ℕ → Type 0
Holds Number size n f = (n < size) × (f ≡ n)
Holds Pair size n f = (n < size) × (f ≡ (n + 1) % size)
Holds Far size n f = ((0o2000 ≤ n) × (n < 0o10000)) × (f ≡ n)
Holds Channel size n f = (n < size) × (f ≡ n)

-- what leads on from a value has a value to lead on from
pub then_ok : {A B : Type 0} (g : A → Result B FaultKind) (r : Result A FaultKind) (y : B) → and_then g r ≡ Ok y
    → (x : A) × ((r ≡ Ok x) × (g x ≡ Ok y))
then_ok g (Ok x) y e = (x, (refl, e))
then_ok g (Err kind) y e = absurd (cc)

accepted_ok : (test : ℕ → Bool) (n m : ℕ) → accepted test n ≡ Ok m → (test n ≡ true) × (m ≡ n)
accepted_ok test n m e =
    elim (cases_Bool (test n)) [
      | inl passes ↦ (passes, (let e' = rw passes at e in cc))
      | inr fails ↦ absurd (let e' = rw fails at e in cc)
    ]

address_ok : (n a : ℕ) → address_of (Num n) ≡ Ok a → (n < 0o10000) × (a ≡ n)
address_ok n a e =
    elim (cases_Bool (ltb n 0o10000)) [
      | inl passes ↦ (ltb-true _ _ passes, (let e' = rw passes at e in cc))
      | inr fails ↦ absurd (let e' = rw fails at e in cc)
    ]

below_ok : (size n f : ℕ) → address_below size (Num n) ≡ Ok f → (n < size) × (f ≡ n)
below_ok size n f e =
    let h = then_ok (accepted (λ a. ltb a size)) (address_of (Num n)) f e in
    let a : (n < 0o10000) × (h.0 ≡ n) = address_ok n h.0 h.1.0 in
    let t : (ltb h.0 size ≡ true) × (f ≡ h.0) = accepted_ok (λ a. ltb a size) h.0 f h.1.1 in
    let lt : h.0 < size = ltb-true _ _ t.0 in
    (omega arith, t.1 ∙ a.1)

pub field_ok : (kind : Kind) (size n f : ℕ) → field kind size n ≡ Ok f → Holds kind size n f
field_ok Number size n f e = below_ok size n f e
field_ok Pair size n f e =
    let h = then_ok {A = ℕ} {B = ℕ} (λ a. Ok ((a + 1) % size)) (address_below size (Num n)) f e in
    let b : (n < size) × (h.0 ≡ n) = below_ok size n h.0 h.1.0 in
    let is : (h.0 + 1) % size ≡ f = (let same = h.1.1 in cc) in
    (b.0, sym is ∙ ap (λ (a : ℕ). (a + 1) % size) b.1)
field_ok Far size n f e =
    let h = then_ok (accepted (λ a. leb 0o2000 a)) (address_of (Num n)) f e in
    let a : (n < 0o10000) × (h.0 ≡ n) = address_ok n h.0 h.1.0 in
    let t : (leb 0o2000 h.0 ≡ true) × (f ≡ h.0) = accepted_ok (λ a. leb 0o2000 a) h.0 f h.1.1 in
    let le : 0o2000 ≤ h.0 = leb-true _ _ t.0 in
    ((omega arith, a.0), t.1 ∙ a.1)
field_ok Channel size n f e =
    let t : (ltb n size ≡ true) × (f ≡ n) = accepted_ok (λ a. ltb a size) n f e in
    (ltb-true _ _ t.0, t.1)

-- how many digits a number has, and how a field is shown: in a pair by the address before
abbrev pub digits : Kind → ℕ
digits Channel = 3
digits Number = 4
digits Pair = 4
digits Far = 4

abbrev pub shown_field : Kind → ℕ → ℕ → List ℕ
shown_field Number size f = octal_text 4 f
shown_field Pair size f = octal_text 4 (first_of (size - 1) f)
shown_field Far size f = octal_text 4 f
shown_field Channel size f = octal_text 3 f

-- from where on and up to where fields lie
abbrev pub field_from : Kind → ℕ
field_from Far = 0o2000
field_from Number = 0
field_from Pair = 0
field_from Channel = 0

abbrev pub field_to : Kind → ℕ → ℕ
field_to Far size = 0o10000
field_to Number size = size
field_to Pair size = size
field_to Channel size = size

-- what a field holds of a number lies where fields lie
within : (kind : Kind) (size n f : ℕ) → Holds kind size n f → (field_from kind ≤ f) × (f < field_to kind size)
within Number size n f (lt, is) = (omega arith, omega arith)
within Pair size n f (lt, is) = (omega arith, omega arith)
within Far size n f (range, is) = (omega arith, omega arith)
within Channel size n f (lt, is) = (omega arith, omega arith)

-- before the next address stands the address
first_of_next : (size n : ℕ) → n < size → first_of (size - 1) ((n + 1) % size) ≡ n
first_of_next size n lt =
    elim (cases_lt (n + 1) size) [
      | inl less ↦ (let same : (n + 1) % size ≡ n + 1 = mod-eq_of_lt less in rw same (grind (arith, nat_tests)))
      | inr last ↦ (let all : n + 1 ≡ size = omega arith in let none : (n + 1) % size
          ≡ 0 = ap (λ (a : ℕ). a % size) all
          ∙ mod_self size in rw none (omega arith))
    ]

-- it is shown as the number
number_shown : (kind : Kind) (size n f : ℕ) → Holds kind size n f → shown_field kind size f ≡ octal_text (digits kind) n
number_shown Number size n f (lt, is) = ap (octal_text 4) is
number_shown Pair size n f (lt, is) = ap (octal_text 4) (ap (first_of (size - 1)) is ∙ first_of_next size n lt)
number_shown Far size n f (range, is) = ap (octal_text 4) is
number_shown Channel size n f (lt, is) = ap (octal_text 3) is

given_field : (kind : Kind) (least size n word : ℕ) → Gives kind least size n word
    → (f : ℕ) × (Holds kind size n f × (word ≡ least + f))
given_field kind least size n word e =
    let h = then_ok {A = ℕ} {B = List ℕ} (λ f. Ok ((least + f) ∷ [])) (field kind size n) (word ∷ []) e in
    let is : word ≡ least + h.0 = (let same = h.1.1 in cc) in
    (h.0, (field_ok kind size n h.0 h.1.0, is))

-- ## Rows of the machine
-- a row of the machine's table is right for the words of a code: it has none of them, or one alone with a name of its own, or a test holds
abbrev pub row_is_right : Bool → Kind → ℕ → ℕ → (Range → Bool) → Range → Bool
row_is_right extracode kind least size test r =
    (leb (least + field_to kind size) r.least || ltb r.greatest (least + field_from kind))
    || ((eqb r.least r.greatest && is_own extracode r.least) || test r)

-- so is each row
abbrev pub rows_are_right : Bool → Kind → ℕ → ℕ → (Range → Bool) → Bool
rows_are_right extracode kind least size test =
    leb (least + field_to kind size) (2 ^ 15) && list_all (row_is_right extracode kind least size test) (table extracode)

-- of a row that has a word without a name of its own the test holds
test_holds : (extracode : Bool) (kind : Kind) (least size : ℕ) (test : Range → Bool) (r : Range) (word f : ℕ)
    → row_is_right extracode kind least size test r ≡ true → serves word r ≡ true → word ≡ least + f
    → (field_from kind ≤ f) × (f < field_to kind size) → is_own extracode word ≡ false → test r ≡ true
test_holds extracode kind least size test r word f right lies is range own =
    let ends = and_parts (leb r.least word) (leb word r.greatest) lies in
    let low : r.least ≤ word = leb-true _ _ ends.0 in
    let high : word ≤ r.greatest = leb-true _ _ ends.1 in
    elim (or_cases (leb (least + field_to kind size) r.least || ltb r.greatest (least + field_from kind))
    ((eqb r.least r.greatest && is_own extracode r.least) || test r) right) [
      | inl beside ↦ absurd (elim (or_cases (leb (least + field_to kind size) r.least) (ltb r.greatest (least + field_from kind)) beside) [
        | inl above ↦ (let le : least + field_to kind size ≤ r.least = leb-true (least + field_to kind size) r.least above in
            omega (arith, is, range, low, le))
        | inr below ↦ (let lt : r.greatest < least + field_from kind = ltb-true r.greatest (least + field_from kind) below in
            omega (arith, is, range, high, lt))
      ])
      | inr there ↦ elim (or_cases (eqb r.least r.greatest && is_own extracode r.least) (test r) there) [
        | inl apart ↦ absurd (
            let parts = and_parts (eqb r.least r.greatest) (is_own extracode r.least) apart in
            let one : r.least ≡ r.greatest = eqb-true _ _ parts.0 in
            let same : word ≡ r.least = omega (arith, one, low, high) in
            true≢false (sym parts.1 ∙ ap (is_own extracode) (sym same) ∙ own))
        | inr holds ↦ holds
      ]
    ]

-- a word that a code gives is the instruction of a row of which the test holds
pub row_of_given : (extracode : Bool) (kind : Kind) (least size : ℕ) (test : Range → Bool)
    → rows_are_right extracode kind least size test ≡ true → (n word : ℕ) → Gives kind least size n word → is_own extracode word ≡ false
    → (r : Range) × ((instruction_of extracode word ≡ r.instruction) × (test r ≡ true))
row_of_given extracode kind least size test right n word given own =
    let each = row_is_right extracode kind least size test in
    let parts = and_parts (leb (least + field_to kind size) (2 ^ 15)) (list_all each (table extracode)) right in
    let g = given_field kind least size n word given in
    let range = within kind size n g.0 g.1.0 in
    let is : word ≡ least + g.0 = g.1.1 in
    let end : least + field_to kind size ≤ 2 ^ 15 = leb-true _ _ parts.0 in
    let h = row_found extracode each word (omega (arith, is, range, end)) parts.1 in
    (h.0, (h.1.0, test_holds extracode kind least size test h.0 word g.0 h.1.1.1 h.1.1.0 is range own))

-- ## Texts
pub names_same : (a b : List ℕ) → same_name a b ≡ true → a ≡ b
names_same [] [] e = refl
names_same [] (y ∷ ys) e = absurd (cc)
names_same (x ∷ xs) [] e = absurd (cc)
names_same (x ∷ xs) (y ∷ ys) e =
    let parts = and_parts (x == y) (same_name xs ys) e in
    ap (λ k. k ∷ xs) (eqb-true x y parts.0) ∙ ap (λ ks. y ∷ ks) (names_same xs ys parts.1)

appended : (xs ys zs : List ℕ) → xs ++ (ys ++ zs) ≡ (xs ++ ys) ++ zs
appended [] ys zs = refl
appended (x ∷ xs) ys zs = ap (λ t. x ∷ t) (appended xs ys zs)

-- the operand of an instruction is shown as a field of a kind
abbrev pub shows : Kind → ℕ → Instruction → Bool
shows Number size i = is_address (row_of i).operand
shows Pair size i = is_next_of size (row_of i).operand
shows Far size i = is_address (row_of i).operand
shows Channel size i = is_channel (row_of i).operand

operand_shown : (kind : Kind) (size f : ℕ) (i : Instruction) → shows kind size i ≡ true
    → operand_text (row_of i).operand f ≡ codes " " ++ shown_field kind size f
operand_shown Number size f i e = address_shown (row_of i).operand f e
operand_shown Pair size f i e = next_shown size (row_of i).operand f e
operand_shown Far size f i e = address_shown (row_of i).operand f e
operand_shown Channel size f i e = channel_shown (row_of i).operand f e

-- a row shows its words by a name and a field of a kind, which is their operand
abbrev pub shows_as : List ℕ → Kind → ℕ → ℕ → Range → Bool
shows_as name kind least size r =
    let row = row_of r.instruction in
    let unit = 2 ^ bits row.operand in
    same_name row.name name && (shows kind size r.instruction && (eqb (least / unit * unit) least && leb (field_to kind size) unit))

-- a code is shown by a name, where extracode is in force or is not
abbrev pub is_named : List ℕ → Bool → Kind → ℕ → ℕ → Bool
is_named name extracode kind least size = rows_are_right extracode kind least size (shows_as name kind least size)

pub given_text : (name : List ℕ) (extracode : Bool) (kind : Kind) (least size n word : ℕ) → is_named name extracode kind least size ≡ true
    → Gives kind least size n word → is_own extracode word ≡ false
    → disassembly extracode word ≡ name ++ codes " " ++ octal_text (digits kind) n
unfolding code_of instruction_text
given_text name extracode kind least size n word right given own =
    let h = row_of_given extracode kind least size (shows_as name kind least size) right n word given own in
    let i = h.0.instruction in
    let unit = 2 ^ bits (row_of i).operand in
    let a = and_parts (same_name (row_of i).name name) _ h.1.1 in
    let b = and_parts (shows kind size i) _ a.1 in
    let c = and_parts (eqb (least / unit * unit) least) (leb (field_to kind size) unit) b.1 in
    let g = given_field kind least size n word given in
    let range = within kind size n g.0 g.1.0 in
    let whole : least / unit * unit ≡ least = eqb-true _ _ c.0 in
    let room : field_to kind size ≤ unit = leb-true _ _ c.1 in
    let part : (least / unit * unit + g.0) % unit ≡ g.0 = mod-mul-add (least / unit) unit g.0 (omega (arith, room, range)) in
    let is : word % unit ≡ g.0 = ap (λ (w : ℕ). w % unit) g.1.1 ∙ ap (λ (l : ℕ). (l + g.0) % unit) (sym whole) ∙ part in
    ap (λ (j : Instruction). instruction_text (record { instruction = j; operand = operand_of j word })) h.1.0
    ∙ ap (λ (k : ℕ). (row_of i).name ++ operand_text (row_of i).operand k) is
    ∙ ap (λ (t : List ℕ). t ++ operand_text (row_of i).operand g.0) (names_same (row_of i).name name a.0)
    ∙ ap (λ (t : List ℕ). name ++ t) (operand_shown kind size g.0 i b.0)
    ∙ appended name (codes " ") (shown_field kind size g.0)
    ∙ ap (λ (t : List ℕ). name ++ codes " " ++ t) (number_shown kind size n g.0 g.1.0)

-- ## Rows of the assembler
-- what holds without extracode and under it
pub either_way : (test : Bool → Bool) → (test false && test true) ≡ true → (extracode : Bool) → test extracode ≡ true
either_way test e false = (and_parts (test false) (test true) e).0
either_way test e true = (and_parts (test false) (test true) e).1

-- what holds where something stands
pub where_it_stands : (stands test : Bool) → (not stands || test) ≡ true → stands ≡ true → test ≡ true
where_it_stands true test e is = e
where_it_stands false test e is = absurd (cc)

-- an operator is shown by a text alone, and of a number by the text and the number
abbrev is_shown_alone : List ℕ → Says → Bool → Bool
is_shown_alone text operator extracode =
    not (stands_alone operator extracode) || same_name (disassembly extracode (word_alone operator)) text

abbrev is_shown_with : List ℕ → Says → Bool → Bool
is_shown_with text operator extracode =
    not (stands_with operator extracode)
    || (takes_number operator && (eqb (digits (kind_of operator)) (operand_digits operator)
    && is_named text extracode (kind_of operator) (least_of operator) (size_of operator extracode)))

abbrev is_shown : List ℕ → Says → Bool
is_shown text operator =
    (is_shown_alone text operator false && is_shown_alone text operator true)
    && (is_shown_with text operator false && is_shown_with text operator true)

alone_text : (text : List ℕ) (operator : Says) (extracode : Bool) (word : ℕ) → is_shown_alone text operator extracode ≡ true
    → GivesAlone operator extracode word → disassembly extracode word ≡ text
alone_text text operator extracode word e given =
    let g = gives_alone operator extracode word given in
    let same = where_it_stands (stands_alone operator extracode) (same_name (disassembly extracode (word_alone operator)) text) e g.0 in
    ap (disassembly extracode) g.1 ∙ names_same (disassembly extracode (word_alone operator)) text same

text_with : (text : List ℕ) (operator : Says) (extracode : Bool) (n word : ℕ) → is_shown_with text operator extracode ≡ true
    → GivesWith operator extracode n word → is_own extracode word ≡ false
    → disassembly extracode word ≡ text ++ codes " " ++ octal_text (operand_digits operator) n
text_with text operator extracode n word e given own =
    let kind = kind_of operator in
    let named = is_named text extracode kind (least_of operator) (size_of operator extracode) in
    let stands = given_stands operator extracode n word given in
    let right = where_it_stands (stands_with operator extracode)
    (takes_number operator && (eqb (digits kind) (operand_digits operator) && named)) e stands in
    let a = and_parts (takes_number operator) (eqb (digits kind) (operand_digits operator) && named) right in
    let b = and_parts (eqb (digits kind) (operand_digits operator)) named a.1 in
    given_text text extracode kind (least_of operator) (size_of operator extracode) n word b.1
    (gives_with operator extracode n word a.0 given) own
    ∙ ap (λ (d : ℕ). text ++ codes " " ++ octal_text d n) (eqb-true (digits kind) (operand_digits operator) b.0)

if_shown : (text : List ℕ) (operator : Says) → is_shown text operator ≡ true
    → IsShown text (GivesAlone operator) (GivesWith operator) (operand_digits operator)
if_shown text operator e =
    let parts = and_parts (is_shown_alone text operator false && is_shown_alone text operator true)
    (is_shown_with text operator false && is_shown_with text operator true) e in
    record {
      alone = λ extracode word given.
          alone_text text operator extracode word (either_way (is_shown_alone text operator) parts.0 extracode) given;
      with_number = λ extracode n word given own.
          text_with text operator extracode n word (either_way (is_shown_with text operator) parts.1 extracode) given own;
    }

each_shown : (rows : List (List ℕ × Says)) → list_all (λ row. is_shown (shown_as row.0) row.1) rows ≡ true
    → AllByRecursion (λ row. IsShown (shown_as row.0) (GivesAlone row.1) (GivesWith row.1) (operand_digits row.1)) rows
each_shown [] e = tt
each_shown (row ∷ rows) e =
    let parts = and_parts (is_shown (shown_as row.0) row.1) (list_all (λ row. is_shown (shown_as row.0) row.1) rows) e in
    (if_shown (shown_as row.0) row.1 parts.0, each_shown rows parts.1)

pub are_shown : AreShown
unfolding operators operator_rows instruction_text basic_rows extracode_rows code_of octal_text
are_shown = each_shown instructions refl
