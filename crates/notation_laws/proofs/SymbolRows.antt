-- The rows of a listing's symbols, as a table of names.
use Rattle.std.proofs.Common.{◌≡◌, ◌≢◌, ℕ, zero, suc, ◌+◌, ◌-◌, ◌/◌, ◌%◌, ◌^◌, ◌<◌, ◌≤◌, not, nat_le, nat_lt, true, false}
use Rattle.std.proofs.Common.{List, [], ◌∷◌, ◌++◌, length, drop, get_or, All, Some, None, Option, Ok, Result, refl, sym, ap, ◌∙◌, inl, inr}
use Rattle.std.proofs.Common.{arith, append_assoc, append-nil}
use Rattle.std.specs.Prelude.{codes, decimal}
use Rattle.std.specs.List.{flat_map, list_all, position_or_len}
use Rattle.std.specs.Option.{option_or}
use Rattle.std.specs.Cmp.Lexicographic.{same_text}
use Rattle.std.proofs.lemmas.Bool.{cases_Bool}
use Rattle.std.proofs.lemmas.Bool.Decides.{nat_tests}
use Rattle.std.proofs.lemmas.List.Elements.{All-head, All-tail}
use Rattle.words.specs.Numerals.{octal_text}
use Rattle.agc_text.specs.Bytes.{is_text_byte}
use Rattle.agc_text.specs.Digits.{digits_value, is_digit, number_of}
use Rattle.agc_text.specs.Fields.{fields, is_blank, runs, texts}
use Rattle.agc_text.specs.Lines.{HasNoFeed, lines}
use Rattle.agc_text.specs.Tables.{same_name, value_in}
use Rattle.agc_text.proofs.LineLaws.{lines-ended, lines-none}
use Rattle.agc_text.proofs.Splits.{texts-skip}
use Rattle.space.specs.declared.place.Linear.{Linear}
use Rattle.space.specs.declared.place.Linear.TheVariants as linear
use Rattle.symbols.specs.Values.{SymbolTable, value_text}
use Rattle.symbols.specs.declared.values.Value.{Value}
use Rattle.symbols.specs.declared.values.Value.TheVariants.{Num, Erasable, Fixed}
use Rattle.yayul.specs.Laws.{StandOnce}
use Rattle.yayul.specs.Listing.{blanks, symbol_row, symbols_head}
use Rattle.commands.specs.Commands.{after_comma, before_comma, fixed_place_in}
use Rattle.commands.specs.NamedPlaces.{listed_place, unnamed_place}
use Rattle.names.specs.Tables.{below, entry, is_heading, listed_in, names_after, names_of, with_name}
use Rattle.debugger.proofs.InputsRead.{all_append, all_weaker, decimal_all, decimal_long, decimal_number, field_then, fields_joined, is_decimal, is_open}
use Rattle.debugger.proofs.InputsRead.{joined, joined_open, joined_stands, octal_field, octal_value, open_of}
use Rattle.notation_laws.specs.Named.{IsField, is_field_byte}
use Rattle.notation_laws.specs.SymbolRows.{IsListed, IsValue, SymbolsReadBack}
use Rattle.notation_laws.proofs.Cells.{digit_stands, fixed_text_field}
use Rattle.notation_laws.proofs.Digits.{erasable_back, word_back}
use Rattle.notation_laws.proofs.Fields.{bytes_open, line_joined, without_comment}
use Rattle.notation_laws.proofs.Places.{fixed_text, no_comma, parted, seven, four, two}

-- ## Blanks between a name and its value
blanks_first : (k : ℕ) (rest : List ℕ) → blanks k ++ 0o40 ∷ rest ≡ 0o40 ∷ (blanks k ++ rest)
blanks_first zero rest = refl
blanks_first (suc k) rest = ap (λ more. 0o40 ∷ more) (blanks_first k rest)

blanks_long : (k r : ℕ) (rest : List ℕ) → is_blank r ≡ false → k ≡ position_or_len (λ b. not (is_blank b)) (blanks k ++ r ∷ rest)
blanks_long zero r rest stands = rw stands refl
blanks_long (suc k) r rest stands = let more = blanks_long k r rest stands in omega (arith, more)

blanks_dropped : (k : ℕ) (rest : List ℕ) → drop k (blanks k ++ rest) ≡ rest
blanks_dropped zero rest = refl
blanks_dropped (suc k) rest = blanks_dropped k rest

blanks_skipped : (k : ℕ) (rest : List ℕ) → 0 < length rest → is_blank (get_or rest 0 0) ≡ false
    → texts (runs (blanks k ++ rest)) ≡ texts (runs rest)
blanks_skipped k [] some stands = absurd (omega (arith, some))
blanks_skipped k (r ∷ rest) some stands =
    texts-skip (blanks k ++ r ∷ rest) k (blanks_long k r rest stands) ∙ rw (blanks_dropped k (r ∷ rest)) refl

blanks_open : (k : ℕ) (rest : List ℕ) → list_all is_open rest ≡ true → list_all is_open (blanks k ++ rest) ≡ true
blanks_open zero rest all = all
blanks_open (suc k) rest all = blanks_open k rest all

-- ## The line of a symbol
abbrev line_of : List ℕ → ℕ → List ℕ → List ℕ → List ℕ
line_of name k kind value = name ++ 0o40 ∷ (blanks k ++ joined kind (value ∷ []))

line_open : (name kind value : List ℕ) (k : ℕ) → IsField name → IsField kind → IsField value
    → list_all is_open (line_of name k kind value) ≡ true
line_open name kind value k f g h =
    all_append is_open name (0o40 ∷ (blanks k ++ joined kind (value ∷ []))) (all_weaker is_field_byte is_open open_of name f.1)
    (blanks_open k (joined kind (value ∷ [])) (joined_open kind (value ∷ []) g (h, tt)))

line_fields : (name kind value : List ℕ) (k : ℕ) → IsField name → IsField kind → IsField value
    → texts (fields (line_of name k kind value)) ≡ name ∷ kind ∷ value ∷ []
line_fields name kind value k f g h =
    let stands = joined_stands kind (value ∷ []) g in
    ap (λ text. texts (runs text)) (without_comment (line_of name k kind value) (line_open name kind value k f g h))
    ∙ field_then name (blanks k ++ joined kind (value ∷ [])) f
    ∙ ap (λ ts. name ∷ ts) (blanks_skipped (suc k) (joined kind (value ∷ [])) stands.0 stands.1
    ∙ fields_joined kind (value ∷ []) g (h, tt))

-- what it gives
abbrev GivesName : List ℕ → List ℕ → Value → Type 0
GivesName line name is = (next : SymbolTable → Result SymbolTable ℕ) (table : SymbolTable) (n : ℕ)
    → names_after (entry line) next table n ≡ next (with_name table name is)

line_gives : (name kind value : List ℕ) (k : ℕ) (is : Value) → IsField name → IsField kind → IsField value → length name ≤ 8
    → listed_in kind value ≡ Some is → GivesName (line_of name k kind value) name is
unfolding entry
line_gives name kind value k is f g h short gives next table n =
    let few : nat_le (length name) 8 ≡ true = grind (arith, nat_tests, short) in
    rw (bytes_open (line_of name k kind value) (line_open name kind value k f g h), line_fields name kind value k f g h, gives, few) refl

-- ## Values
num_field : IsField (codes "NUM")
num_field = (omega arith, refl)

erasable_kind : IsField (codes "ERASABLE")
erasable_kind = (omega arith, refl)

fixed_kind : IsField (codes "FIXED")
fixed_kind = (omega arith, refl)

num_listed : (n : ℕ) → n < 2 ^ 15 → listed_in (codes "NUM") (octal_text 5 n) ≡ Some (Num n)
num_listed n lt = rw (word_back n lt) refl

erasable_listed : (p : ℕ) → p < 0o4000 → listed_in (codes "ERASABLE") (octal_text 4 p) ≡ Some (Erasable p)
erasable_listed p lt = rw (erasable_back p lt) refl

abbrev fixed_value_text : ℕ → ℕ → List ℕ
fixed_value_text bank offset = octal_text 2 bank ++ codes "," ++ octal_text 4 offset

fixed_by : (text before after : List ℕ) (bank offset : ℕ) → before_comma text ≡ before → after_comma text ≡ after
    → number_of 8 5 before ≡ Some bank → number_of 8 5 after ≡ Some offset → nat_le bank 0o47 ≡ true → nat_le offset 0o1777 ≡ true
    → fixed_place_in text ≡ Some (linear.Fixed bank offset)
fixed_by text before after bank offset front rest bank_is offset_is few near = rw (rest, front, bank_is, offset_is, few, near) refl

fixed_unnamed : (bank offset : ℕ) → bank < 0o44 → offset < 0o2000
    → unnamed_place (fixed_value_text bank offset) ≡ Some (linear.Fixed bank offset)
fixed_unnamed bank offset lb lo =
    let b : ℕ = 48 + bank / 8 % 8 in
    let c : ℕ = 48 + bank % 8 in
    let w : ℕ = 48 + offset / 8 / 8 / 8 % 8 in
    let x : ℕ = 48 + offset / 8 / 8 % 8 in
    let y : ℕ = 48 + offset / 8 % 8 in
    let z : ℕ = 48 + offset % 8 in
    let parts = parted b c w x y z (no_comma (bank / 8 % 8)) (no_comma (bank % 8)) in
    let bank_is : number_of 8 5 (b ∷ c ∷ []) ≡ Some bank = ap (number_of 8 5) (sym (two bank))
    ∙ octal_value 2 bank (omega arith) (omega arith) (omega (arith, lb)) in
    let offset_is : number_of 8 5 (w ∷ x ∷ y ∷ z ∷ []) ≡ Some offset = ap (number_of 8 5) (sym (four offset))
    ∙ octal_value 4 offset (omega arith) (omega arith) (omega (arith, lo)) in
    let few : nat_le bank 0o47 ≡ true = grind (arith, nat_tests, lb) in
    let near : nat_le offset 0o1777 ≡ true = grind (arith, nat_tests, lo) in
    let fixed : fixed_place_in (seven b c w x y z) ≡ Some (linear.Fixed bank offset)
    = fixed_by (seven b c w x y z) (b ∷ c ∷ []) (w ∷ x ∷ y ∷ z ∷ []) bank offset parts.0 parts.1 bank_is offset_is few near in
    rw (fixed_text bank offset) (first_some (fixed_place_in (seven b c w x y z)) (listed_place (seven b c w x y z)) fixed)
  where
    first_some : (f l : Option Linear) → f ≡ Some (linear.Fixed bank offset) → option_or f l ≡ Some (linear.Fixed bank offset)
    first_some f l is = rw is refl

fixed_listed : (bank offset : ℕ) → bank < 0o44 → offset < 0o2000
    → listed_in (codes "FIXED") (fixed_value_text bank offset) ≡ Some (Fixed bank offset)
fixed_listed bank offset lb lo =
    let has : nat_lt bank 0o44 ≡ true = grind (arith, nat_tests, lb) in
    rw (fixed_unnamed bank offset lb lo, has) refl

-- ## A row
line_is : (name : List ℕ) (k : ℕ) (text : List ℕ) → name ++ blanks k ++ codes " " ++ text ≡ name ++ 0o40 ∷ (blanks k ++ text)
line_is name k text = append_assoc (name ++ blanks k) (codes " ") text ∙ append_assoc name (blanks k) (0o40 ∷ text)
    ∙ ap (λ more. name ++ more) (blanks_first k text)

abbrev symbol_line : List ℕ × Value → List ℕ
symbol_line symbol = symbol.0 ++ blanks (8 - length symbol.0) ++ codes " " ++ value_text symbol.1

symbol_gives : (name : List ℕ) (value : Value) → IsField name → length name ≤ 8 → IsValue value
    → GivesName (symbol_line (name, value)) name value × (list_all is_text_byte (symbol_line (name, value)) ≡ true)
symbol_gives name (Num n) f short is =
    let k : ℕ = 8 - length name in
    let field = octal_field 5 n (omega arith) in
    rw (line_is name k (value_text (Num n))) (
      line_gives name (codes "NUM") (octal_text 5 n) k (Num n) f num_field field short (num_listed n is),
      bytes_open (line_of name k (codes "NUM") (octal_text 5 n)) (line_open name (codes "NUM") (octal_text 5 n) k f num_field field),
    )
symbol_gives name (Erasable p) f short is =
    let k : ℕ = 8 - length name in
    let field = octal_field 4 p (omega arith) in
    rw (line_is name k (value_text (Erasable p))) (
      line_gives name (codes "ERASABLE") (octal_text 4 p) k (Erasable p) f erasable_kind field short (erasable_listed p is),
      bytes_open (line_of name k (codes "ERASABLE") (octal_text 4 p))
          (line_open name (codes "ERASABLE") (octal_text 4 p) k f erasable_kind field),
    )
symbol_gives name (Fixed bank offset) f short is =
    let k : ℕ = 8 - length name in
    let field = fixed_text_field bank offset in
    rw (line_is name k (value_text (Fixed bank offset))) (
      line_gives name (codes "FIXED") (fixed_value_text bank offset) k (Fixed bank offset) f fixed_kind field short
          (fixed_listed bank offset is.0 is.1),
      bytes_open (line_of name k (codes "FIXED") (fixed_value_text bank offset))
          (line_open name (codes "FIXED") (fixed_value_text bank offset) k f fixed_kind field),
    )

no_feed : (xs : List ℕ) → list_all is_text_byte xs ≡ true → HasNoFeed xs
no_feed [] all = tt
no_feed (x ∷ xs) all = elim (cases_Bool (is_text_byte x)) [
  | inl passes ↦ (λ same. (let never : false ≡ true = rw same at passes in cc), no_feed xs (rw passes at all))
  | inr fails ↦ absurd (let never : false ≡ true = rw fails at all in cc)
]

-- ## The table
one_more : (table : SymbolTable) (name other : List ℕ) (value : Value) → value_in table other ≡ None → other ≢ name
    → value_in (table ++ (name, value) ∷ []) other ≡ None
one_more [] name other value none differs = elim (cases_Bool (same_name other name)) [
  | inl same ↦ absurd (differs (same_text other name (sym same)))
  | inr apart ↦ rw apart refl
]
one_more (e ∷ es) name other value none differs = elim (cases_Bool (same_name other e.0)) [
  | inl same ↦ absurd (let never : Some e.1 ≡ None = rw same at none in cc)
  | inr apart ↦ rw apart (one_more es name other value (rw apart at none) differs)
]

abbrev AreNew : SymbolTable → SymbolTable → Type 0
AreNew table symbols = All (λ e. value_in table e.0 ≡ None) symbols

names_after_rows : (symbols table : SymbolTable) (n : ℕ) → StandOnce symbols → All IsListed symbols → AreNew table symbols
    → names_of table n (lines (flat_map symbol_row symbols)) ≡ Ok (table ++ symbols)
unfolding names_of symbol_row
names_after_rows [] table n once listed new = rw (lines-none [] refl, append-nil table) refl
names_after_rows (e ∷ es) table n once listed new =
    let is = All-head IsListed e es listed in
    let gives = symbol_gives e.0 e.1 is.field is.short is.value in
    let none : value_in table e.0 ≡ None = new 0 e (omega arith) in
    let parted : lines (flat_map symbol_row (e ∷ es)) ≡ symbol_line e ∷ lines (flat_map symbol_row es)
    = ap lines (append_assoc (symbol_line e) (codes "\n") (flat_map symbol_row es))
    ∙ lines-ended (symbol_line e) (flat_map symbol_row es) (no_feed (symbol_line e) gives.1) in
    let later : AreNew (table ++ e ∷ []) es = λ k d lt. one_more table e.0 (get_or es k d).0 e.1 (new (suc k) d (omega (arith, lt)))
    (λ same. once 0 (suc k) d (omega arith) (omega (arith, lt)) (sym same)) in
    rw parted (gives.0 (λ given. names_of given (n + 1) (lines (flat_map symbol_row es))) table n
    ∙ ap (λ given. names_of given (n + 1) (lines (flat_map symbol_row es))) (added none)
    ∙ names_after_rows es (table ++ e ∷ []) (n + 1) (λ i j d lo hi. once (suc i) (suc j) d (omega (arith, lo)) (omega (arith, hi)))
    (All-tail IsListed e es listed) later
    ∙ ap (λ all. Ok all) (append_assoc table (e ∷ []) es))
  where
    added : value_in table e.0 ≡ None → with_name table e.0 e.1 ≡ table ++ e ∷ []
    added none = rw none refl

-- ## The heading
decimal_digits : (n : ℕ) → n < 2 ^ 64 → digits_value 10 (decimal n) ≡ Some n
decimal_digits n small =
    let long = decimal_long n small in
    let some : nat_le 1 (length (decimal n)) ≡ true = grind (arith, nat_tests, long) in
    rw (some, decimal_all (is_digit 10) is_decimal n small, decimal_number n small) refl

head_field : IsField (codes "SYMBOLS")
head_field = (omega arith, refl)

count_field : (n : ℕ) → n < 2 ^ 64 → IsField (decimal n)
count_field n small = (decimal_long n small, decimal_all is_field_byte digit_stands n small)

head_is : (n : ℕ) → n < 2 ^ 64 → is_heading (codes "SYMBOLS " ++ decimal n) ≡ true
unfolding is_heading
head_is n small =
    rw (line_joined (codes "SYMBOLS") (decimal n ∷ []) head_field (count_field n small, tt), decimal_digits n small) refl

head_bytes : (n : ℕ) → n < 2 ^ 64 → list_all is_text_byte (codes "SYMBOLS " ++ decimal n) ≡ true
head_bytes n small = bytes_open (joined (codes "SYMBOLS") (decimal n ∷ []))
    (joined_open (codes "SYMBOLS") (decimal n ∷ []) head_field (count_field n small, tt))

below_head : (head : List ℕ) (more : List (List ℕ)) → is_heading head ≡ true → below 0 (head ∷ more) ≡ Some (1, more)
unfolding below
below_head head more is = rw is refl

pub symbols_read_back : (symbols : SymbolTable) → SymbolsReadBack symbols
unfolding symbols_head
symbols_read_back symbols once listed few =
    let n : ℕ = length symbols in
    let head : List ℕ = codes "SYMBOLS " ++ decimal n in
    let parted : lines (symbols_head symbols ++ flat_map symbol_row symbols) ≡ head ∷ lines (flat_map symbol_row symbols)
    = ap lines (append_assoc head (codes "\n") (flat_map symbol_row symbols))
    ∙ lines-ended head (flat_map symbol_row symbols) (no_feed head (head_bytes n few)) in
    rw (parted, below_head head (lines (flat_map symbol_row symbols)) (head_is n few))
    (names_after_rows symbols [] 1 once listed (λ k d lt. refl))
