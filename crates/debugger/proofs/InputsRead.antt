-- The lines that `inputs` tells, read as a feed.
use Rattle.std.proofs.Common.{◌≡◌, ◌<◌, ◌≤◌, ◌+◌, ◌/◌, ◌%◌, ◌^◌, ◌&&◌, not, eqb, nat_le, ℕ, List, [], ◌∷◌, ◌++◌, length, take, drop, get_or}
use Rattle.std.proofs.Common.{map, filter, All, Some, Ok, Bool, true, false, refl, arith, ◌∙◌, ap, sym, inl, inr, append_assoc}
use Rattle.std.proofs.Common.{length-append}
use Rattle.std.specs.Prelude.{codes, decimal}
use Rattle.std.specs.List.{list_all, position_or_len}
use Rattle.std.specs.Int.Digits.{number_from_digits}
use Rattle.std.proofs.lemmas.Fmt.{decimal_by_steps, length-decimal-le}
use Rattle.std.proofs.lemmas.Int.Digits.{number_push}
use Rattle.std.proofs.lemmas.Bool.{cases_Bool}
use Rattle.std.proofs.lemmas.Bool.Decides.{nat_tests}
use Rattle.std.proofs.Math.Seq.{take-append_seam, drop-append_seam, take-length}
use Rattle.std.proofs.lemmas.List.{append-nil, map-append, get_or_append_left, length-drop}
use Rattle.std.proofs.lemmas.List.Elements.{All-head, All-tail}
use Rattle.std.proofs.lemmas.List.Folds.{list_all-append}
use Rattle.words.specs.Numerals.{octal_text}
use Rattle.words.proofs.Digits.{length-octal_text}
use Rattle.agc_text.specs.Bytes.{is_text_byte}
use Rattle.agc_text.specs.Digits.{digit_value, is_digit, number_of}
use Rattle.agc_text.specs.Fields.{is_blank, before_comment, runs, texts}
use Rattle.agc_text.specs.Lines.{lines, HasNoFeed}
use Rattle.agc_text.specs.Tables.{same_name, value_in}
use Rattle.agc_text.proofs.LineLaws.{lines-ended, lines-none}
use Rattle.agc_text.proofs.Splits.{texts-skip, texts-take, texts-none}
use Rattle.feed.specs.Counters.{row_of}
use Rattle.feed.specs.Given.{CanBeGiven, CanBeGivenAt}
use Rattle.feed.specs.Names.{counters, sequences}
use Rattle.feed.specs.Statements.{input_in, statement_in, statement_of}
use Rattle.feed.specs.declared.entry.Entry.{Entry}
use Rattle.feed.specs.declared.input.Counter.{Counter}
use Rattle.feed.specs.declared.input.Counter.TheVariants.{Time1, Time2, Time3, Time4, Time5, Time6, CduX, CduY, CduZ, OptY, OptX, PipaX}
use Rattle.feed.specs.declared.input.Counter.TheVariants.{PipaY, PipaZ, Inlink}
use Rattle.feed.specs.declared.input.Input.{Input}
use Rattle.feed.specs.declared.input.Input.TheVariants.{Count, Word, Interrupt}
use Rattle.feed.specs.declared.input.Sequence.{Sequence}
use Rattle.feed.specs.declared.input.Sequence.TheVariants.{Pinc, Minc, Dinc, Pcdu, Mcdu, Shinc, Shanc}
use Rattle.feed.specs.declared.statement.Statement.TheVariants.{Nothing}
use Rattle.yayul.proofs.Octals.{octal_all, octal_number}
use Rattle.trace.specs.TraceLines.{input_text, sequence_name}
use Rattle.cpu.specs.State.{Scenario}
use Rattle.debugger.specs.Inputs.{inputs_text, lines_from}
use Rattle.debugger.specs.ReadBack.{ReadsBack, giving, standing_from}
use Rattle.debugger.specs.Terms.{plain_inputs}

-- an input that a line can give at its cycle
abbrev pub IsGivable : Entry → Type 0
IsGivable e = CanBeGivenAt e.cycle e.input

-- ## Bytes
-- a byte of a field, and one of a line before its comment
abbrev pub is_plain : ℕ → Bool
is_plain b = is_text_byte b && (not (is_blank b) && not (eqb b 0o43))

abbrev pub is_open : ℕ → Bool
is_open b = is_text_byte b && not (eqb b 0o43)

-- what passes one test passes another
pub all_weaker : (p q : ℕ → Bool) → ((b : ℕ) → p b ≡ true → q b ≡ true) → (xs : List ℕ) → list_all p xs ≡ true → list_all q xs ≡ true
all_weaker p q weaker [] all = refl
all_weaker p q weaker (x ∷ xs) all = elim (cases_Bool (p x)) [
  | inl passes ↦ (let others : list_all p xs ≡ true = rw passes at all in rw (weaker x passes, all_weaker p q weaker xs others) refl)
  | inr fails ↦ absurd (let never : false ≡ true = rw fails at all in cc)
]

both : (a b : Bool) → (a && b) ≡ true → (a ≡ true) × (b ≡ true)
both true true h = (refl, refl)
both true false h = absurd (cc)
both false b h = absurd (cc)

pub open_of : (b : ℕ) → is_plain b ≡ true → is_open b ≡ true
open_of b h = let p = both (is_text_byte b) _ h in let q = both (not (is_blank b)) _ p.1 in rw (p.0, q.1) refl

pub unblank_of : (b : ℕ) → is_plain b ≡ true → not (is_blank b) ≡ true
unblank_of b h = (both (not (is_blank b)) _ (both (is_text_byte b) _ h).1).0

pub text_of : (b : ℕ) → is_open b ≡ true → is_text_byte b ≡ true
text_of b h = (both (is_text_byte b) _ h).0

pub unhash_of : (b : ℕ) → is_open b ≡ true → not (eqb b 0o43) ≡ true
unhash_of b h = (both (is_text_byte b) _ h).1

pub all_append : (p : ℕ → Bool) (xs ys : List ℕ) → list_all p xs ≡ true → list_all p ys ≡ true → list_all p (xs ++ ys) ≡ true
all_append p xs ys all others = list_all-append p xs ys ∙ rw (all, others) refl

-- ## Fields
-- where the first byte that passes a test stands, after bytes that do not
pub past : (p : ℕ → Bool) (xs ys : List ℕ) → list_all (λ b. not (p b)) xs ≡ true
    → position_or_len p (xs ++ ys) ≡ length xs + position_or_len p ys
past p [] ys all = omega arith
past p (x ∷ xs) ys all = elim (cases_Bool (p x)) [
  | inl passes ↦ absurd (let never : false ≡ true = rw passes at all in cc)
  | inr fails ↦ (
      let rest : list_all (λ b. not (p b)) xs ≡ true = rw fails at all in
      let more = past p xs ys rest in
      rw fails (omega (arith, more)))
]

pub no_hash : (xs : List ℕ) → list_all (λ b. not (eqb b 0o43)) xs ≡ true → before_comment xs ≡ xs
no_hash xs all =
    let whole = past (λ b. eqb b 0o43) xs [] all in
    let at : position_or_len (λ b. eqb b 0o43) xs ≡ length xs = rw append-nil at whole ∙ omega arith in
    ap (λ n. take n xs) at ∙ take-length xs

-- a field: some plain bytes
abbrev pub IsField : List ℕ → Type 0
IsField w = (0 < length w) × (list_all is_plain w ≡ true)

pub stands_first : (w : List ℕ) → IsField w → is_blank (get_or w 0 0) ≡ false
stands_first [] f = absurd (omega (arith, f.0))
stands_first (x ∷ xs) f = elim (cases_Bool (is_plain x)) [
  | inl passes ↦ (let un = unblank_of x passes in elim (cases_Bool (is_blank x)) [
    | inl blank ↦ absurd (let never : false ≡ true = rw blank at un in cc)
    | inr none ↦ none
  ])
  | inr fails ↦ absurd (let all = f.1 in let never : false ≡ true = rw fails at all in cc)
]

-- a field alone, and one before others
pub field_alone : (w : List ℕ) → IsField w → texts (runs w) ≡ w ∷ []
field_alone w f =
    let whole = past is_blank w [] (all_weaker is_plain (λ b. not (is_blank b)) unblank_of w f.1) in
    let at : position_or_len is_blank w ≡ length w = rw append-nil at whole ∙ omega arith in
    let left = length-drop (length w) w in
    let none : length (drop (length w) w) ≡ 0 = omega (arith, left) in
    texts-take w (length w) f.0 (stands_first w f) (sym at) ∙ rw (take-length w, texts-none (drop (length w) w) none) refl

pub one_blank : (r : ℕ) (rest : List ℕ) → is_blank r ≡ false → 1 ≡ position_or_len (λ b. not (is_blank b)) (0o40 ∷ r ∷ rest)
one_blank r rest stands = rw stands refl

pub after_blank : (rest : List ℕ) → 0 < length rest → is_blank (get_or rest 0 0) ≡ false → texts (runs (0o40 ∷ rest)) ≡ texts (runs rest)
after_blank [] some first = absurd (omega (arith, some))
after_blank (r ∷ rest) some first = texts-skip (0o40 ∷ r ∷ rest) 1 (one_blank r rest first)

-- a field, a blank, and what comes after it
pub field_then : (w rest : List ℕ) → IsField w → texts (runs (w ++ 0o40 ∷ rest)) ≡ w ∷ texts (runs (0o40 ∷ rest))
field_then w rest f =
    let at : position_or_len is_blank (w ++ 0o40 ∷ rest)
    ≡ length w = past is_blank w (0o40 ∷ rest) (all_weaker is_plain (λ b. not (is_blank b)) unblank_of w f.1) ∙ omega arith in
    let long = length-append w (0o40 ∷ rest) in
    let head : is_blank (get_or (w ++ 0o40 ∷ rest) 0 0) ≡ false = rw (get_or_append_left w (0o40 ∷ rest) 0 0 f.0) (stands_first w f) in
    texts-take (w ++ 0o40 ∷ rest) (length w) (omega (arith, long, f.0)) head (sym at)
    ∙ rw (take-append_seam w (0o40 ∷ rest), drop-append_seam w (0o40 ∷ rest)) refl

field_more : (w rest : List ℕ) → IsField w → 0 < length rest → is_blank (get_or rest 0 0) ≡ false
    → texts (runs (w ++ 0o40 ∷ rest)) ≡ w ∷ texts (runs rest)
field_more w rest f some first = field_then w rest f ∙ ap (λ ts. w ∷ ts) (after_blank rest some first)

-- fields, each a blank after the one before
abbrev pub joined : List ℕ → List (List ℕ) → List ℕ
joined w [] = w
joined w (next ∷ more) = w ++ 0o40 ∷ joined next more

abbrev pub AreFields : List (List ℕ) → Type 0
AreFields [] = Unit {0}
AreFields (w ∷ ws) = IsField w × AreFields ws

pub joined_stands : (w : List ℕ) (ws : List (List ℕ)) → IsField w → (0 < length (joined w ws)) × (is_blank (get_or (joined w ws) 0 0) ≡ false)
joined_stands w [] f = (f.0, stands_first w f)
joined_stands w (next ∷ more) f =
    let long = length-append w (0o40 ∷ joined next more) in
    (omega (arith, long, f.0), rw (get_or_append_left w (0o40 ∷ joined next more) 0 0 f.0) (stands_first w f))

pub fields_joined : (w : List ℕ) (ws : List (List ℕ)) → IsField w → AreFields ws → texts (runs (joined w ws)) ≡ w ∷ ws
fields_joined w [] f fs = field_alone w f
fields_joined w (next ∷ more) f fs =
    let j = joined_stands next more fs.0 in
    field_more w (joined next more) f j.0 j.1 ∙ ap (λ ts. w ∷ ts) (fields_joined next more fs.0 fs.1)

pub joined_open : (w : List ℕ) (ws : List (List ℕ)) → IsField w → AreFields ws → list_all is_open (joined w ws) ≡ true
joined_open w [] f fs = all_weaker is_plain is_open open_of w f.1
joined_open w (next ∷ more) f fs = all_append is_open w (0o40 ∷ joined next more) (all_weaker is_plain is_open open_of w f.1)
    (joined_open next more fs.0 fs.1)

-- what a line of such fields says
says_joined : (w : List ℕ) (ws : List (List ℕ)) → IsField w → AreFields ws → length (joined w ws) ≤ 120
    → statement_of (joined w ws) ≡ statement_in (w ∷ ws)
unfolding statement_of
says_joined w ws f fs short =
    let opened = joined_open w ws f fs in
    let few : nat_le (length (joined w ws)) 120 ≡ true = grind (arith, nat_tests) in
    let bytes = all_weaker is_open is_text_byte text_of (joined w ws) opened in
    let whole = no_hash (joined w ws) (all_weaker is_open (λ b. not (eqb b 0o43)) unhash_of (joined w ws) opened) in
    rw (few, bytes, whole, fields_joined w ws f fs) refl

-- ## Numbers
plain_digit : (d : ℕ) → d < 10 → is_plain (48 + d) ≡ true
plain_digit d lt = grind (arith, nat_tests)

pub is_decimal : (d : ℕ) → d < 10 → is_digit 10 (48 + d) ≡ true
is_decimal d lt = grind (arith, nat_tests)

pub decimal_all : (p : ℕ → Bool) → ((d : ℕ) → d < 10 → p (48 + d) ≡ true) → (n : ℕ) → n < 2 ^ 64 → list_all p (decimal n) ≡ true
decimal_all p each n small = decimal_by_steps (λ m ds. list_all p ds ≡ true) (λ m lt. rw (each m lt) refl)
    (λ m ds le so_far. (let low : m % 10 < 10 = omega arith in all_append p ds ((48 + m % 10) ∷ []) so_far (rw (each (m % 10) low) refl))) n
    small

pub decimal_number : (n : ℕ) → n < 2 ^ 64 → number_from_digits 10 (map digit_value (decimal n)) ≡ n
decimal_number n small = decimal_by_steps (λ m ds. number_from_digits 10 (map digit_value ds) ≡ m) one more n small
  where
    one : (m : ℕ) → m < 10 → number_from_digits 10 (map digit_value ((48 + m) ∷ [])) ≡ m
    one m lt = omega arith

    more : (m : ℕ) (ds : List ℕ) → 10 ≤ m → number_from_digits 10 (map digit_value ds) ≡ m / 10
        → number_from_digits 10 (map digit_value (ds ++ ((48 + m % 10) ∷ []))) ≡ m
    more m ds le so_far =
        let digit : digit_value (48 + m % 10) ≡ m % 10 = omega arith in
        ap (number_from_digits 10) (map-append digit_value ds ((48 + m % 10) ∷ []))
        ∙ number_push 10 (map digit_value ds) (digit_value (48 + m % 10))
        ∙ rw (so_far, digit) (omega arith)

pub decimal_long : (n : ℕ) → n < 2 ^ 64 → 1 ≤ length (decimal n)
decimal_long n small = decimal_by_steps (λ m ds. 1 ≤ length ds) (λ m lt. omega arith)
    (λ m ds le so_far. omega (arith, length-append ds ((48 + m % 10) ∷ []))) n small

pub decimal_field : (n : ℕ) → n < 2 ^ 64 → IsField (decimal n)
decimal_field n small = (decimal_long n small, decimal_all is_plain plain_digit n small)

pub decimal_value : (n most : ℕ) → n < 2 ^ 64 → length (decimal n) ≤ most → number_of 10 most (decimal n) ≡ Some n
decimal_value n most small few =
    let within : nat_le (length (decimal n)) most ≡ true = grind (arith, nat_tests, few) in
    let long = decimal_long n small in
    let some : nat_le 1 (length (decimal n)) ≡ true = grind (arith, nat_tests, long) in
    rw (within, some, decimal_all (is_digit 10) is_decimal n small, decimal_number n small) refl

pub is_octal : (d : ℕ) → d < 8 → is_digit 8 (48 + d) ≡ true
is_octal d lt = grind (arith, nat_tests)

octal_plain : (d : ℕ) → d < 8 → is_plain (48 + d) ≡ true
octal_plain d lt = plain_digit d (omega (arith, lt))

pub octal_field : (k n : ℕ) → 1 ≤ k → IsField (octal_text k n)
octal_field k n some = (omega (arith, length-octal_text k n, some), octal_all is_plain octal_plain k n)

pub octal_value : (k n : ℕ) → 1 ≤ k → k ≤ 5 → n < 8 ^ k → number_of 8 5 (octal_text k n) ≡ Some n
octal_value k n some few lt =
    let within : nat_le (length (octal_text k n)) 5 ≡ true = rw length-octal_text (grind (arith, nat_tests)) in
    let long : nat_le 1 (length (octal_text k n)) ≡ true = rw length-octal_text (grind (arith, nat_tests)) in
    rw (within, long, octal_all (is_digit 8) is_octal k n, octal_number k n lt) refl

-- ## Names
pub counter_field : (c : Counter) → IsField (row_of c).name
counter_field Time1 = (omega arith, refl)
counter_field Time2 = (omega arith, refl)
counter_field Time3 = (omega arith, refl)
counter_field Time4 = (omega arith, refl)
counter_field Time5 = (omega arith, refl)
counter_field Time6 = (omega arith, refl)
counter_field CduX = (omega arith, refl)
counter_field CduY = (omega arith, refl)
counter_field CduZ = (omega arith, refl)
counter_field OptY = (omega arith, refl)
counter_field OptX = (omega arith, refl)
counter_field PipaX = (omega arith, refl)
counter_field PipaY = (omega arith, refl)
counter_field PipaZ = (omega arith, refl)
counter_field Inlink = (omega arith, refl)

-- a counter's name is short, names this counter, and is not that of what is no counter
pub counter_back : (c : Counter) → (length (row_of c).name ≤ 6) × (value_in counters (row_of c).name ≡ Some c)
    × (same_name (row_of c).name (codes "RUPT") ≡ false)
unfolding counters
counter_back Time1 = (omega arith, refl, refl)
counter_back Time2 = (omega arith, refl, refl)
counter_back Time3 = (omega arith, refl, refl)
counter_back Time4 = (omega arith, refl, refl)
counter_back Time5 = (omega arith, refl, refl)
counter_back Time6 = (omega arith, refl, refl)
counter_back CduX = (omega arith, refl, refl)
counter_back CduY = (omega arith, refl, refl)
counter_back CduZ = (omega arith, refl, refl)
counter_back OptY = (omega arith, refl, refl)
counter_back OptX = (omega arith, refl, refl)
counter_back PipaX = (omega arith, refl, refl)
counter_back PipaY = (omega arith, refl, refl)
counter_back PipaZ = (omega arith, refl, refl)
counter_back Inlink = (omega arith, refl, refl)

sequence_field : (s : Sequence) → IsField (sequence_name s)
sequence_field Pinc = (omega arith, refl)
sequence_field Minc = (omega arith, refl)
sequence_field Dinc = (omega arith, refl)
sequence_field Pcdu = (omega arith, refl)
sequence_field Mcdu = (omega arith, refl)
sequence_field Shinc = (omega arith, refl)
sequence_field Shanc = (omega arith, refl)

sequence_back : (s : Sequence) → (length (sequence_name s) ≤ 5) × (value_in sequences (sequence_name s) ≡ Some s)
unfolding sequences
sequence_back Pinc = (omega arith, refl)
sequence_back Minc = (omega arith, refl)
sequence_back Dinc = (omega arith, refl)
sequence_back Pcdu = (omega arith, refl)
sequence_back Mcdu = (omega arith, refl)
sequence_back Shinc = (omega arith, refl)
sequence_back Shanc = (omega arith, refl)

-- ## Inputs
-- the fields that tell an input
abbrev pub input_fields : Input → List (List ℕ)
input_fields (Count c s) = (row_of c).name ∷ sequence_name s ∷ []
input_fields (Word n w) = codes "CHAN" ∷ octal_text 3 n ∷ octal_text 5 w ∷ []
input_fields (Interrupt k) = codes "RUPT" ∷ decimal k ∷ []

pub are_fields : (i : Input) → CanBeGiven i → AreFields (input_fields i)
are_fields (Count c s) given = (counter_field c, (sequence_field s, tt))
are_fields (Word n w) given = ((omega arith, refl), (octal_field 3 n (omega arith), (octal_field 5 w (omega arith), tt)))
are_fields (Interrupt k) given = ((omega arith, refl), (decimal_field k (omega (arith, given.1)), tt))

pub told_as : (i : Input) → CanBeGiven i → input_in (input_fields i) ≡ Ok i
told_as (Count c s) given = let c_back = counter_back c in let s_back = sequence_back s in rw (c_back.2, c_back.1, s_back.1, given) refl
told_as (Word n w) given =
    let few : nat_le w 0o77777 ≡ true = (let lt = given.1 in grind (arith, nat_tests, lt)) in
    rw (octal_value 3 n (omega arith) (omega arith) given.0, octal_value 5 w (omega arith) (omega arith) given.1, given.2, few) refl
told_as (Interrupt k) given =
    let low : nat_le 1 k ≡ true = (let le = given.0 in grind (arith, nat_tests, le)) in
    let high : nat_le k 10 ≡ true = (let le = given.1 in grind (arith, nat_tests, le)) in
    let short : length (decimal k) ≤ 2 = length-decimal-le 2 k (omega arith) (omega (arith, given.1)) (omega (arith, given.1)) in
    rw (decimal_value k 2 (omega (arith, given.1)) short, low, high) refl

-- the line of an input, without its line feed
abbrev text_of_input : Entry → List ℕ
text_of_input e = decimal e.cycle ++ codes " " ++ input_text e.input

pub blank_between : (a b : List ℕ) → a ++ codes " " ++ b ≡ a ++ 0o40 ∷ b
blank_between a b = append_assoc a (codes " ") b

pub is_joined : (cycle : ℕ) (i : Input) → decimal cycle ++ codes " " ++ input_text i ≡ joined (decimal cycle) (input_fields i)
is_joined cycle (Count c s) = blank_between (decimal cycle) (input_text (Count c s))
    ∙ ap (λ t. decimal cycle ++ 0o40 ∷ t) (blank_between (row_of c).name (sequence_name s))
is_joined cycle (Word n w) =
    blank_between (decimal cycle) (input_text (Word n w))
    ∙ ap (λ t. decimal cycle ++ 0o40 ∷ t) (blank_between (codes "CHAN " ++ octal_text 3 n) (octal_text 5 w))
is_joined cycle (Interrupt k) = blank_between (decimal cycle) (input_text (Interrupt k))

pub short_input_text : (i : Input) → CanBeGiven i → length (input_text i) ≤ 30
short_input_text (Count c s) given =
    let c_back = counter_back c in
    let s_back = sequence_back s in
    let front = length-append (row_of c).name (codes " ") in
    omega (arith, length-append ((row_of c).name ++ codes " ") (sequence_name s), front, c_back.0, s_back.0)
short_input_text (Word n w) given =
    let name = length-append (codes "CHAN ") (octal_text 3 n) in
    let front = length-append (codes "CHAN " ++ octal_text 3 n) (codes " ") in
    omega (
      arith,
      length-append (codes "CHAN " ++ octal_text 3 n ++ codes " ") (octal_text 5 w),
      name,
      front,
      length-octal_text 3 n,
      length-octal_text 5 w,
    )
short_input_text (Interrupt k) given =
    let short : length (decimal k) ≤ 2 = length-decimal-le 2 k (omega arith) (omega (arith, given.1)) (omega (arith, given.1)) in
    omega (arith, length-append (codes "RUPT ") (decimal k), short)

pub no_every : (w : List ℕ) → list_all (is_digit 10) w ≡ true → same_name w (codes "EVERY") ≡ false
no_every [] all = refl
no_every (x ∷ xs) all = elim (cases_Bool (is_digit 10 x)) [
  | inl passes ↦ (let other : eqb x 69 ≡ false = grind (arith, nat_tests, passes) in rw other refl)
  | inr fails ↦ absurd (let never : false ≡ true = rw fails at all in cc)
]

-- a line that tells an input gives it
line_says : (e : Entry) → IsGivable e → statement_of (text_of_input e) ≡ giving e
line_says e stands =
    let small : e.cycle < 2 ^ 64 = omega (arith, stands.0) in
    let few : length (decimal e.cycle) ≤ 15 = length-decimal-le 15 e.cycle (omega arith) stands.0 small in
    let joins = is_joined e.cycle e.input in
    let long : length (joined (decimal e.cycle) (input_fields e.input)) ≤ 120 =
    (let same = ap length joins in omega (
      arith,
      same,
      few,
      short_input_text e.input stands.1,
      length-append (decimal e.cycle ++ codes " ")
          (input_text e.input),
      length-append (decimal e.cycle) (codes " "),
    )) in
    ap statement_of joins
    ∙ says_joined (decimal e.cycle) (input_fields e.input) (decimal_field e.cycle small) (are_fields e.input stands.1) long
    ∙ rw (
      no_every (decimal e.cycle) (decimal_all (is_digit 10) is_decimal e.cycle small),
      decimal_value e.cycle 15 small few,
      told_as
          e.input stands.1,
    ) refl

-- ## The whole text
no_feed : (xs : List ℕ) → list_all is_text_byte xs ≡ true → HasNoFeed xs
no_feed [] all = tt
no_feed (x ∷ xs) all = elim (cases_Bool (is_text_byte x)) [
  | inl passes ↦ (λ same. (let never : false ≡ true = rw same at passes in cc), no_feed xs (rw passes at all))
  | inr fails ↦ absurd (let never : false ≡ true = rw fails at all in cc)
]

-- a line, and then others
line_then : (text rest : List ℕ) → list_all is_text_byte text ≡ true → lines ((text ++ codes "\n") ++ rest) ≡ text ∷ lines rest
line_then text rest all = ap lines (append_assoc text (codes "\n") rest) ∙ lines-ended text rest (no_feed text all)

text_bytes : (e : Entry) → IsGivable e → list_all is_text_byte (text_of_input e) ≡ true
text_bytes e stands =
    rw (is_joined e.cycle e.input) (all_weaker is_open is_text_byte text_of (joined (decimal e.cycle) (input_fields e.input))
    (joined_open (decimal e.cycle) (input_fields e.input) (decimal_field e.cycle (omega (arith, stands.0)))
    (are_fields e.input stands.1)))

-- the comment at the end says nothing
comment_bytes : (n : ℕ) → n < 2 ^ 64 → list_all is_text_byte (codes "# COUNT " ++ decimal n) ≡ true
comment_bytes n small = all_weaker is_plain is_text_byte (λ b h. text_of b (open_of b h)) (decimal n)
    (decimal_all is_plain plain_digit n small)

comment_says : (n : ℕ) → n < 2 ^ 64 → statement_of (codes "# COUNT " ++ decimal n) ≡ Nothing
unfolding statement_of
comment_says n small =
    let few : length (decimal n) ≤ 20 = length-decimal-le 20 n (omega arith) (omega (arith, small)) small in
    let short : nat_le (length (codes "# COUNT " ++ decimal n)) 120 ≡ true = grind (arith, nat_tests, few) in
    rw (short, comment_bytes n small, texts-none [] refl) refl

abbrev pub told_first : ℕ → Entry → Bool
told_first first e = nat_le first e.line

read_lines : (first n : ℕ) (es : List Entry) → n + length (filter (told_first first) es) < 2 ^ 64
    → All IsGivable (filter (told_first first) es)
    → map statement_of (lines (lines_from first n es)) ≡ map giving (filter (told_first first) es) ++ Nothing ∷ []
read_lines first n [] few all =
    let small : n < 2 ^ 64 = omega (arith, few) in
    ap (λ text. map statement_of (lines text)) (sym (append-nil ((codes "# COUNT " ++ decimal n) ++ codes "\n")))
    ∙ ap (map statement_of) (line_then (codes "# COUNT " ++ decimal n) [] (comment_bytes n small))
    ∙ rw (comment_says n small, lines-none [] refl) refl
read_lines first n (e ∷ more) few all = elim (cases_Bool (nat_le first e.line)) [
  | inl told ↦ (
      let here : All IsGivable (e ∷ filter (told_first first) more) = rw told at all in
      let room : n + length (e ∷ filter (told_first first) more) < 2 ^ 64 = rw told at few in
      let stands = All-head IsGivable e (filter (told_first first) more) here in
      let later = read_lines first (n + 1) more (omega (arith, room)) (All-tail IsGivable e (filter (told_first first) more) here) in
      rw told (ap (map statement_of) (line_then (text_of_input e) (lines_from first (n + 1) more) (text_bytes e stands))
      ∙ ap (λ s. s ∷ map statement_of (lines (lines_from first (n + 1) more))) (line_says e stands)
      ∙ ap (λ ss. giving e ∷ ss) later))
  | inr passed ↦ (
      let rest : All IsGivable (filter (told_first first) more) = rw passed at all in
      let room : n + length (filter (told_first first) more) < 2 ^ 64 = rw passed at few in
      rw passed (read_lines first n more room rest))
]

pub reads_back : (first : ℕ) (scenario : Scenario) → length (standing_from first scenario) < 2 ^ 64
    → All IsGivable (standing_from first scenario)
    → ReadsBack first scenario (inputs_text first scenario)
unfolding inputs_text
reads_back first scenario few all = read_lines first 0 (plain_inputs scenario) (omega (arith, few)) all
