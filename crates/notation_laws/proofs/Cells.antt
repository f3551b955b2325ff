-- Cells, operands and the nearest symbols, read as fields of a command.
use Rattle.std.proofs.Common.{◌≡◌, ℕ, zero, suc, ◌+◌, ◌-◌, ◌/◌, ◌%◌, ◌^◌, ◌<◌, ◌≤◌, ◌==◌, nat_lt, true, false}
use Rattle.std.proofs.Common.{List, [], ◌∷◌, ◌++◌, Some, None, Option, IfSome, is_some, unwrap_or, refl, sym, ap, ◌∙◌, inl, inr, arith}
use Rattle.std.proofs.Common.{append_assoc, append-nil}
use Rattle.std.specs.Prelude.{codes, if◌then◌else◌, option_and_then}
use Rattle.std.specs.Option.{option_map, option_or}
use Rattle.std.proofs.lemmas.Bool.{cases_Bool}
use Rattle.std.proofs.lemmas.Bool.Decides.{nat_tests}
use Rattle.words.specs.Numerals.{octal_text}
use Rattle.agc_text.specs.Digits.{number_of}
use Rattle.agc_text.specs.Fields.{runs, texts}
use Rattle.agc_text.specs.Tables.{value_in}
use Rattle.space.specs.Places.{window}
use Rattle.space.specs.declared.place.Linear.{Linear}
use Rattle.space.specs.declared.place.Linear.TheVariants.{Erasable, Fixed}
use Rattle.symbols.specs.Values.{SymbolTable}
use Rattle.symbols.specs.declared.values.Value.{Value}
use Rattle.yayul.specs.Listing.{place_text}
use Rattle.yayul.proofs.Octals.{octal_all}
use Rattle.commands.specs.Commands.{channel_in, erasable_number}
use Rattle.commands.specs.Extended.{subject_alone}
use Rattle.commands.specs.NamedPlaces.{moved_on, named_place, place_first}
use Rattle.commands.specs.Subjects.{channel_by, channel_subject}
use Rattle.commands.specs.declared.subject.Subject.{Subject}
use Rattle.commands.specs.declared.subject.Subject.TheVariants.{Place, Channel}
use Rattle.trace.specs.TraceLines.{behind_text, full_name, near_count, near_name, near_symbol, octal_digits, operand_gap, place_name}
use Rattle.trace.specs.TraceLines.{register_name, short_octal, special_name, symbol_at}
use Rattle.names.specs.NamedLines.{distance_text, nearest, nearest_name, place_before, places_before}
use Rattle.debugger.proofs.InputsRead.{field_alone, fields_joined, octal_value}
use Rattle.notation_laws.specs.Named.{AreApart, IsApart, IsField, is_field_byte}
use Rattle.notation_laws.specs.ReadBack.{CellReadsBack, IsPlace, NamedPlaceReadsBack, place_asked}
use Rattle.notation_laws.proofs.Digits.{channel_back}
use Rattle.notation_laws.proofs.Places.{no_comma, place_reads_back}
use Rattle.notation_laws.proofs.Registers.{IsOwn, if_map, if_or, if_weaker, register_read, special_read}
use Rattle.notation_laws.proofs.Symbols.{IsRead, stays_read, symbol_at_read, unasked, value_passes}

-- ## Digits as bytes of a field
pub digit_stands : (d : ℕ) → d < 10 → is_field_byte (48 + d) ≡ true
digit_stands d lt = grind (arith, nat_tests)

pub octal_stands : (d : ℕ) → d < 8 → is_field_byte (48 + d) ≡ true
octal_stands d lt = digit_stands d (omega (arith, lt))

pub low_digit : (n : ℕ) → is_field_byte (48 + n % 8) ≡ true
low_digit n = octal_stands (n % 8) (omega arith)

-- a place as a listing has it is one field
pub fixed_text_field : (bank a : ℕ) → IsField (octal_text 2 bank ++ codes "," ++ octal_text 4 a)
unfolding octal_text
fixed_text_field bank a = (
  omega arith,
  rw (
    low_digit (bank / 8),
    low_digit bank,
    low_digit (a / 8 / 8 / 8),
    low_digit (a / 8 / 8),
    low_digit (a / 8),
    low_digit a,
  ) refl,
)

erasable_field : (bank a : ℕ) → IsField ((codes "E" ++ octal_text 1 bank) ++ codes "," ++ octal_text 4 a)
unfolding octal_text
erasable_field bank a = (
  omega arith,
  rw (
    low_digit bank,
    low_digit (a / 8 / 8 / 8),
    low_digit (a / 8 / 8),
    low_digit (a / 8),
    low_digit a,
  ) refl,
)

place_field : (place : Linear) → IsField (place_text place)
unfolding place_text
place_field (Erasable p) = erasable_field (p / 0o400) (window (Erasable p))
place_field (Fixed bank offset) = fixed_text_field bank (window (Fixed bank offset))

-- ## What a field is read as
pub read_field : (symbols : SymbolTable) (text : List ℕ) (place : Linear) → IsRead symbols place text
    → place_asked symbols text ≡ Some place
read_field symbols text place is = ap (place_first symbols) (field_alone text is.field) ∙ is.asked

pub listed_read : (symbols : SymbolTable) (place : Linear) → AreApart symbols → IsPlace place → IsRead symbols place (place_text place)
listed_read symbols place apart is = record {
  field = place_field place;
  asked = stays_read symbols (place_text place) place apart (place_reads_back place is).asked;
}

-- ## A symbol, and how far behind it
-- the number that short octal digits are
short_value : (n : ℕ) → n < 0o100000 → number_of 8 5 (short_octal n) ≡ Some n
short_value n lt = octal_value (octal_digits n) n (sizes n lt).0 (sizes n lt).1 (sizes n lt).2
  where
    sizes : (m : ℕ) → m < 0o100000 → (1 ≤ octal_digits m) × (octal_digits m ≤ 5) × (m < 8 ^ octal_digits m)
    sizes m small = elim (cases_Bool (nat_lt m 0o10)) [
      | inl one ↦ (let below : m < 0o10 = grind (arith, nat_tests, one) in rw one (omega arith, omega arith, omega (arith, below)))
      | inr many ↦ elim (cases_Bool (nat_lt m 0o100)) [
        | inl two ↦ (let below : m < 0o100 = grind (arith, nat_tests, two) in
            rw (many, two) (omega arith, omega arith, omega (arith, below)))
        | inr more ↦ elim (cases_Bool (nat_lt m 0o1000)) [
          | inl three ↦ (let below : m < 0o1000 = grind (arith, nat_tests, three) in
              rw (many, more, three) (omega arith, omega arith, omega (arith, below)))
          | inr others ↦ elim (cases_Bool (nat_lt m 0o10000)) [
            | inl four ↦ (let below : m < 0o10000 = grind (arith, nat_tests, four) in
                rw (many, more, others, four) (omega arith, omega arith, omega (arith, below)))
            | inr five ↦ rw (many, more, others, five) (omega arith, omega arith, omega (arith, small))
          ]
        ]
      ]
    ]

plus_field : (n : ℕ) → IsField (0o53 ∷ short_octal n)
plus_field n = (omega arith, octal_all is_field_byte octal_stands (octal_digits n) n)

behind_read : (symbols : SymbolTable) (name : List ℕ) (d : ℕ) (before place : Linear) → IsRead symbols before name → d < 0o100000
    → moved_on d before ≡ Some place → place_asked symbols (name ++ 0o40 ∷ 0o53 ∷ short_octal d) ≡ Some place
behind_read symbols name d before place is lt moved =
    ap (place_first symbols) (fields_joined name ((0o53 ∷ short_octal d) ∷ []) is.field (plus_field d, tt))
    ∙ rw (is.asked, short_value d lt) moved

moves_back : (place : Linear) (d : ℕ) → IsPlace place → d ≤ places_before place → moved_on d (place_before place d) ≡ Some place
moves_back (Erasable p) d lt le =
    let same : p - d + d ≡ p = omega (arith, le) in
    let within : nat_lt p 0o4000 ≡ true = grind (arith, nat_tests, lt) in
    rw (same, within) refl
moves_back (Fixed bank offset) d is le =
    let lt = is.1 in
    let same : offset - d + d ≡ offset = omega (arith, le) in
    let within : nat_lt offset 0o2000 ≡ true = grind (arith, nat_tests, lt) in
    rw (same, within) refl

few_before : (place : Linear) (d : ℕ) → IsPlace place → d ≤ places_before place → d < 0o100000
few_before (Erasable p) d lt le = omega (arith, lt, le)
few_before (Fixed bank offset) d is le = (let lt = is.1 in omega (arith, lt, le))

none_before : (place : Linear) → place_before place 0 ≡ place
none_before (Erasable p) = ap (λ n. Erasable n) (omega arith)
none_before (Fixed bank offset) = ap (λ n. Fixed bank n) (omega arith)

-- what is known of a symbol so far before a place
record IsBehind (symbols : SymbolTable) (place : Linear) (near : List ℕ × ℕ) : Type 0 where
  pub name : IsRead symbols (place_before place near.1) near.0
  pub within : near.1 ≤ places_before place

first_or : {X Y : Type 0} (f : X → Y) (P : Y → Type 0) (s : Option X) (rest : Option Y) → IfSome s (λ x. P (f x)) → IfSome rest P
    → IfSome (option_or (option_map f s) rest) P
first_or f P None rest here later = later
first_or f P (Some x) rest here later = here

behind : (symbols : SymbolTable) (place : Linear) (d : ℕ) → AreApart symbols → d ≤ places_before place
    → IfSome (symbol_at symbols (place_before place d)) (λ name. IsBehind symbols place (name, d))
behind symbols place d apart le = if_weaker (IsRead symbols (place_before place d)) (λ name. IsBehind symbols place (name, d))
    (symbol_at symbols (place_before place d)) (λ name is. record { name = is; within = le })
    (symbol_at_read symbols (place_before place d) apart)

nearest_behind : (symbols : SymbolTable) (place : Linear) (more d : ℕ) → AreApart symbols → d + more ≤ places_before place + 1
    → IfSome (nearest symbols place d more) (IsBehind symbols place)
nearest_behind symbols place zero d apart le = tt
nearest_behind symbols place (suc more) d apart le =
    first_or (λ name. (name, d)) (IsBehind symbols place) (symbol_at symbols (place_before place d)) (nearest symbols place (d + 1) more)
    (behind symbols place d apart (omega (arith, le))) (nearest_behind symbols place more (d + 1) apart (omega (arith, le)))

near_behind : (symbols : SymbolTable) (p more d : ℕ) → AreApart symbols → d + more ≤ p + 1
    → IfSome (near_symbol symbols p d more) (IsBehind symbols (Erasable p))
near_behind symbols p zero d apart le = tt
near_behind symbols p (suc more) d apart le =
    first_or (λ name. (name, d)) (IsBehind symbols (Erasable p)) (symbol_at symbols (Erasable (p - d))) (near_symbol symbols p (d + 1) more)
    (behind symbols (Erasable p) d apart (omega (arith, le))) (near_behind symbols p more (d + 1) apart (omega (arith, le)))

distance_read : (symbols : SymbolTable) (place : Linear) (name : List ℕ) (d : ℕ) → IsPlace place → IsBehind symbols place (name, d)
    → place_asked symbols (name ++ distance_text d) ≡ Some place
distance_read symbols place name zero is near =
    rw append-nil (read_field symbols name (place_before place 0) near.name ∙ ap (λ p. Some p) (none_before place))
distance_read symbols place name (suc d) is near =
    behind_read symbols name (suc d) (place_before place (suc d)) place near.name (few_before place (suc d) is near.within)
    (moves_back place (suc d) is near.within)

pub nearest_reads_back : (symbols : SymbolTable) (place : Linear) → AreApart symbols → IsPlace place
    → IfSome (nearest_name symbols place) (λ near. place_asked symbols (near.0 ++ distance_text near.1) ≡ Some place)
nearest_reads_back symbols place apart is =
    if_weaker (IsBehind symbols place) (λ near. place_asked symbols (near.0 ++ distance_text near.1) ≡ Some place)
    (nearest_name symbols place) (λ near it. distance_read symbols place near.0 near.1 is it)
    (nearest_behind symbols place (places_before place + 1) 0 apart (omega arith))

-- ## A place by its name
own_read : (symbols : SymbolTable) (p : ℕ) (name : Option (List ℕ)) → AreApart symbols → IfSome name (IsOwn p)
    → IfSome name (IsRead symbols (Erasable p))
own_read symbols p None apart is = tt
own_read symbols p (Some n) apart is = record { field = is.field; asked = stays_read symbols n (Erasable p) apart is.asked }

special_if : (symbols : SymbolTable) (p : ℕ) → AreApart symbols → IfSome (special_name p) (IsRead symbols (Erasable p))
special_if symbols p apart = own_read symbols p (special_name p) apart (special_read p)

-- the name of a place: a register's letters, a symbol, or another name
name_read : (symbols : SymbolTable) (place : Linear) → AreApart symbols → IfSome (place_name symbols place) (IsRead symbols place)
name_read symbols (Erasable p) apart =
    if_or (IsRead symbols (Erasable p)) (register_name p) (option_or (symbol_at symbols (Erasable p)) (special_name p))
    (own_read symbols p (register_name p) apart (register_read p))
    (if_or (IsRead symbols (Erasable p)) (symbol_at symbols (Erasable p)) (special_name p) (symbol_at_read symbols (Erasable p) apart)
    (special_if symbols p apart))
name_read symbols (Fixed bank offset) apart = symbol_at_read symbols (Fixed bank offset) apart

passes_or : (P : List ℕ → Type 0) (name : Option (List ℕ)) (text : List ℕ) → IfSome name P → P text → P (unwrap_or name text)
passes_or P None text here other = other
passes_or P (Some n) text here other = here

-- and where it has none, as a listing has it
shown_read : (symbols : SymbolTable) (place : Linear) → AreApart symbols → IsPlace place
    → IsRead symbols place (unwrap_or (place_name symbols place) (place_text place))
shown_read symbols place apart is =
    passes_or (IsRead symbols place) (place_name symbols place) (place_text place) (name_read symbols place apart)
    (listed_read symbols place apart is)

-- ## Operands
blank_plus : (name short : List ℕ) → name ++ codes " " ++ codes "+" ++ short ≡ name ++ 0o40 ∷ 0o53 ∷ short
blank_plus name short = append_assoc (name ++ codes " ") (codes "+") short ∙ append_assoc name (codes " ") (codes "+" ++ short)

near_asked : (symbols : SymbolTable) (p : ℕ) → AreApart symbols → p < 0o4000
    → IfSome (near_name operand_gap symbols (Erasable p)) (λ text. place_asked symbols text ≡ Some (Erasable p))
near_asked symbols p apart lt =
    if_map (behind_text operand_gap) (λ text. place_asked symbols text ≡ Some (Erasable p)) (near_symbol symbols p 1 (near_count p))
    (if_weaker (IsBehind symbols (Erasable p)) (λ near. place_asked symbols (behind_text operand_gap near) ≡ Some (Erasable p))
    (near_symbol symbols p 1 (near_count p)) each (near_behind symbols p (near_count p) 1 apart (omega arith)))
  where
    each : (near : List ℕ × ℕ) → IsBehind symbols (Erasable p) near → place_asked symbols (behind_text operand_gap near) ≡ Some (Erasable p)
    each near is =
        ap (place_asked symbols) (blank_plus near.0 (short_octal near.1))
        ∙ behind_read symbols near.0 near.1 (place_before (Erasable p) near.1) (Erasable p) is.name
        (few_before (Erasable p) near.1 lt is.within) (moves_back (Erasable p) near.1 lt is.within)

operand_read : (symbols : SymbolTable) (place : Linear) → AreApart symbols → IsPlace place
    → IfSome (full_name operand_gap symbols place) (λ name. place_asked symbols name ≡ Some place)
operand_read symbols (Erasable p) apart is =
    if_or (λ name. place_asked symbols name ≡ Some (Erasable p)) (place_name symbols (Erasable p))
    (near_name operand_gap symbols (Erasable p))
    (if_weaker (IsRead symbols (Erasable p)) (λ name. place_asked symbols name ≡ Some (Erasable p)) (place_name symbols (Erasable p))
    (λ t read. read_field symbols t (Erasable p) read) (name_read symbols (Erasable p) apart))
    (near_asked symbols p apart is)
operand_read symbols (Fixed bank offset) apart is =
    if_or (λ name. place_asked symbols name ≡ Some (Fixed bank offset)) (symbol_at symbols (Fixed bank offset)) None
    (if_weaker (IsRead symbols (Fixed bank offset)) (λ name. place_asked symbols name ≡ Some (Fixed bank offset))
    (symbol_at symbols (Fixed bank offset)) (λ t read. read_field symbols t (Fixed bank offset) read)
    (symbol_at_read symbols (Fixed bank offset) apart)) tt

pub named_place_reads_back : (symbols : SymbolTable) (place : Linear) → NamedPlaceReadsBack symbols place
named_place_reads_back symbols place apart is = record {
  operand = operand_read symbols place apart is;
  shown = read_field symbols (unwrap_or (place_name symbols place) (place_text place)) place (shown_read symbols place apart is);
}

-- ## Cells
place_shape : (place : Option Linear) (channel : Option Subject) (p : ℕ) → place ≡ Some (Erasable p)
    → option_or (option_map (λ q. Place q) (option_and_then erasable_number place)) channel ≡ Some (Place p)
place_shape place channel p is = rw is refl

channel_shape : (place : Option Linear) (named : Option Value) (channel : Option ℕ) (n : ℕ) → place ≡ None → named ≡ None
    → channel ≡ Some n
    → option_or (option_map (λ q. Place q) (option_and_then erasable_number place))
    (option_map (λ c. Channel c) (if is_some named then None else channel)) ≡ Some (Channel n)
channel_shape place named channel n none no_symbol is = rw (none, no_symbol, is) refl

abbrev five : ℕ → ℕ → ℕ → List ℕ
five a b c = 67 ∷ 72 ∷ a ∷ b ∷ c ∷ []

channel_text : (n : ℕ) → codes "CH" ++ octal_text 3 n ≡ five (48 + n / 8 / 8 % 8) (48 + n / 8 % 8) (48 + n % 8)
unfolding octal_text
channel_text n = refl

three : (n : ℕ) → octal_text 3 n ≡ (48 + n / 8 / 8 % 8) ∷ (48 + n / 8 % 8) ∷ (48 + n % 8) ∷ []
unfolding octal_text
three n = refl

no_place : (a b c : ℕ) → a == 0o54 ≡ false → b == 0o54 ≡ false → c == 0o54 ≡ false → named_place [] (five a b c) ≡ None
no_place a b c na nb nc = rw (na, nb, nc) refl

five_field : (a b c : ℕ) → is_field_byte a ≡ true → is_field_byte b ≡ true → is_field_byte c ≡ true → IsField (five a b c)
five_field a b c fa fb fc = (omega arith, rw (fa, fb, fc) refl)

no_symbol : (text : List ℕ) (n : ℕ) (named : Option Value) → channel_by text ≡ Some n → IfSome named (λ v. IsApart (text, v))
    → named ≡ None
no_symbol text n None is apart = refl
no_symbol text n (Some v) is apart = absurd (let never : None ≡ Some n = sym apart.1 ∙ is in cc)

channel_read : (symbols : SymbolTable) (text : List ℕ) (n : ℕ) → AreApart symbols → channel_by text ≡ Some n
    → named_place [] text ≡ None → subject_alone symbols (text ∷ []) ≡ Some (Channel n)
channel_read symbols text n apart is none =
    let unnamed = no_symbol text n (value_in symbols text) is (value_passes IsApart symbols text apart.apart) in
    channel_shape (named_place symbols text) (value_in symbols text) (channel_by text) n
    (unasked symbols text unnamed ∙ none) unnamed is

pub channel_alone : (symbols : SymbolTable) (n : ℕ) → AreApart symbols → n < 0o1000
    → subject_alone symbols ((codes "CH" ++ octal_text 3 n) ∷ []) ≡ Some (Channel n)
unfolding octal_text
channel_alone symbols n apart lt =
    rw (channel_text n) (channel_read symbols (five (48 + n / 8 / 8 % 8) (48 + n / 8 % 8) (48 + n % 8)) n apart
    (ap channel_in (sym (three n)) ∙ channel_back n lt)
    (no_place (48 + n / 8 / 8 % 8) (48 + n / 8 % 8) (48 + n % 8) (no_comma (n / 8 / 8 % 8)) (no_comma (n / 8 % 8)) (no_comma (n % 8))))

pub channel_field : (n : ℕ) → IsField (codes "CH" ++ octal_text 3 n)
unfolding octal_text
channel_field n = five_field (48 + n / 8 / 8 % 8) (48 + n / 8 % 8) (48 + n % 8) (low_digit (n / 8 / 8)) (low_digit (n / 8)) (low_digit n)

channel_cell : (symbols : SymbolTable) (n : ℕ) → AreApart symbols → n < 0o1000
    → subject_alone symbols (texts (runs (codes "CH" ++ octal_text 3 n))) ≡ Some (Channel n)
channel_cell symbols n apart lt =
    ap (subject_alone symbols) (field_alone (codes "CH" ++ octal_text 3 n) (channel_field n)) ∙ channel_alone symbols n apart lt

pub place_alone_read : (symbols : SymbolTable) (text : List ℕ) (p : ℕ) → IsRead symbols (Erasable p) text
    → subject_alone symbols (text ∷ []) ≡ Some (Place p)
place_alone_read symbols text p is = place_shape (named_place symbols text) (channel_subject symbols text) p is.asked

erasable_cell : (symbols : SymbolTable) (p : ℕ) → AreApart symbols → p < 0o4000
    → subject_alone symbols (texts (runs (unwrap_or (place_name symbols (Erasable p)) (place_text (Erasable p))))) ≡ Some (Place p)
erasable_cell symbols p apart lt =
    let text : List ℕ = unwrap_or (place_name symbols (Erasable p)) (place_text (Erasable p)) in
    let is : IsRead symbols (Erasable p) text = shown_read symbols (Erasable p) apart lt in
    ap (subject_alone symbols) (field_alone text is.field)
    ∙ place_alone_read symbols text p is

pub cell_reads_back : (symbols : SymbolTable) (c : ℕ) → CellReadsBack symbols c
cell_reads_back symbols c apart lt = elim (cases_Bool (nat_lt c 0o4000)) [
  | inl erasable ↦ (
      let below : c < 0o4000 = grind (arith, nat_tests, erasable) in
      rw erasable (erasable_cell symbols c apart below))
  | inr channel ↦ rw channel (channel_cell symbols (c - 0o4000) apart (omega (arith, lt)))
]
