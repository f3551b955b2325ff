-- Words as five octal digits each, in a line.
use Rattle.std.proofs.Common.{◌≡◌, ◌≢◌, ℕ, zero, suc, ◌+◌, ◌-◌, ◌*◌, ◌/◌, ◌%◌, ◌<◌, ◌^◌, ◌==◌, ◌&&◌, ◌||◌, not, Bool, true, false}
use Rattle.std.proofs.Common.{nat_lt, nat_le}
use Rattle.std.proofs.Common.{List, [], ◌∷◌, ◌++◌, length, map, take, get_or, Some, refl, sym, ◌∙◌, ap, arith, inl, inr}
use Rattle.std.specs.List.{list_all, position_or_len}
use Rattle.std.specs.Int.Digits.{number_from_digits}
use Rattle.std.proofs.lemmas.Bool.{cases_Bool, ne_eqb}
use Rattle.std.proofs.lemmas.Bool.Decides.{nat_tests}
use Rattle.std.proofs.lemmas.Int.Digits.{number_push}
use Rattle.std.proofs.lemmas.List.{map-append}
use Rattle.std.proofs.lemmas.List.Folds.{list_all-append}
use Rattle.std.proofs.Math.Nat.{pow-suc}
use Rattle.words.specs.Numerals.{octal_text}
use Rattle.words.proofs.Digits.{length-octal_text}
use Rattle.agc_text.specs.Bytes.{line_feed}
use Rattle.agc_text.specs.Digits.{digit_value, is_digit, number_of}
use Rattle.agc_text.specs.Fields.{is_blank, runs, texts}
use Rattle.agc_text.specs.Lines.{HasNoFeed}
use Rattle.agc_text.proofs.Splits.{texts-none, texts-skip, texts-take}
use Rattle.audit.specs.OctalTexts.{State, before_comment, before_return, fields, names_bank, put_all, said, take_fields, word_of}

-- ## Digits
-- five digits, and what follows
abbrev pub five : ℕ → List ℕ → List ℕ
five w rest =
    (48 + w / 8 / 8 / 8 / 8 % 8) ∷ (48 + w / 8 / 8 / 8 % 8) ∷ (48 + w / 8 / 8 % 8) ∷ (48 + w / 8 % 8) ∷ (48 + w % 8) ∷ rest

pub five_is : (w : ℕ) (rest : List ℕ) → octal_text 5 w ++ rest ≡ five w rest
unfolding octal_text
five_is w rest = refl

pub five_alone : (w : ℕ) → octal_text 5 w ≡ five w []
unfolding octal_text
five_alone w = refl

-- what each digit passes all do
octal_all : (p : ℕ → Bool) → ((d : ℕ) → d < 8 → p (48 + d) ≡ true) → (k n : ℕ) → list_all p (octal_text k n) ≡ true
unfolding octal_text
octal_all p each zero n = refl
octal_all p each (suc k) n =
    let low : n % 8 < 8 = omega arith in
    list_all-append p (octal_text k (n / 8)) ((48 + n % 8) ∷ []) ∙ rw (octal_all p each k (n / 8), each (n % 8) low) refl

-- the number that they give
octal_number : (k n : ℕ) → n < 8 ^ k → number_from_digits 8 (map digit_value (octal_text k n)) ≡ n
unfolding octal_text
octal_number zero n lt = omega (arith, lt)
octal_number (suc k) n lt =
    let whole : n < 8 ^ k * 8 = rw pow-suc at lt in
    let high : n / 8 < 8 ^ k = omega (arith, whole) in
    let digit : digit_value (48 + n % 8) ≡ n % 8 = omega arith in
    ap (number_from_digits 8) (map-append digit_value (octal_text k (n / 8)) ((48 + n % 8) ∷ []))
    ∙ number_push 8 (map digit_value (octal_text k (n / 8))) (digit_value (48 + n % 8))
    ∙ rw (octal_number k (n / 8) high, digit) (omega arith)

digit_is : (d : ℕ) → d < 8 → is_digit 8 (48 + d) ≡ true
digit_is d lt = grind (arith, nat_tests)

-- the word that five digits are
pub word_of_octal : (w : ℕ) → w < 2 ^ 15 → word_of (octal_text 5 w) ≡ Some w
word_of_octal w lt =
    let small : w < 8 ^ 5 = omega (arith, lt) in
    let fits : nat_lt w 0o100000 ≡ true = grind (arith, nat_tests, lt) in
    rw (length-octal_text 5 w, octal_all (is_digit 8) digit_is 5 w, octal_number 5 w small, fits) refl

pub word_of_five : (w : ℕ) → w < 2 ^ 15 → word_of (five w []) ≡ Some w
word_of_five w lt = ap word_of (sym (five_alone w)) ∙ word_of_octal w lt

-- the number of a bank that two digits are
two_alone : (n : ℕ) → octal_text 2 n ≡ (48 + n / 8 % 8) ∷ (48 + n % 8) ∷ []
unfolding octal_text
two_alone n = refl

number_of_octal : (n : ℕ) → n < 64 → number_of 8 2 (octal_text 2 n) ≡ Some n
number_of_octal n lt = rw (length-octal_text 2 n, octal_all (is_digit 8) digit_is 2 n, octal_number 2 n (omega (arith, lt))) refl

pub number_of_two : (n : ℕ) → n < 64 → number_of 8 2 ((48 + n / 8 % 8) ∷ (48 + n % 8) ∷ []) ≡ Some n
number_of_two n lt = ap (number_of 8 2) (sym (two_alone n)) ∙ number_of_octal n lt

-- ## Bytes
-- a digit or a space
abbrev pub is_plain : ℕ → Bool
is_plain byte = (nat_le 48 byte && nat_lt byte 56) || byte == 32

plain_digit : (n : ℕ) → is_plain (48 + n % 8) ≡ true
plain_digit n = let low : n % 8 < 8 = omega arith in grind (arith, nat_tests, low)

pub no_blank : (n : ℕ) → is_blank (48 + n % 8) ≡ false
no_blank n = let low : n % 8 < 8 = omega arith in grind (arith, nat_tests, low)

plain_is : (b other : ℕ) → is_plain b ≡ true → is_plain other ≡ false → b ≢ other
plain_is b other plain is_not same = let never : false ≡ true = sym (ap is_plain same ∙ is_not) ∙ plain in cc

pub plain_head : (b : ℕ) (bs : List ℕ) → list_all is_plain (b ∷ bs) ≡ true → is_plain b ≡ true
plain_head b bs all = elim (cases_Bool (is_plain b)) [
  | inl passes ↦ passes
  | inr fails ↦ absurd (let never : false ≡ true = rw fails at all in cc)
]

pub plain_tail : (b : ℕ) (bs : List ℕ) → list_all is_plain (b ∷ bs) ≡ true → list_all is_plain bs ≡ true
plain_tail b bs all = rw (plain_head b bs all) at all

-- no byte of such a text is another one
first_of_none : (other : ℕ) → is_plain other ≡ false → (bs : List ℕ) → list_all is_plain bs ≡ true
    → position_or_len (λ b. b == other) bs ≡ length bs
first_of_none other is_not [] all = refl
first_of_none other is_not (b ∷ bs) all =
    let more = first_of_none other is_not bs (plain_tail b bs all) in
    rw (ne_eqb b other (plain_is b other (plain_head b bs all) is_not)) (omega (arith, more))

take_all : (bs : List ℕ) → take (length bs) bs ≡ bs
take_all [] = refl
take_all (b ∷ bs) = ap (λ more. b ∷ more) (take_all bs)

none_at : (other : ℕ) → is_plain other ≡ false → 0 ≢ other → (bs : List ℕ) (k : ℕ) → list_all is_plain bs ≡ true
    → get_or bs k 0 == other ≡ false
none_at other is_not some [] k all = ne_eqb 0 other some
none_at other is_not some (b ∷ bs) zero all = ne_eqb b other (plain_is b other (plain_head b bs all) is_not)
none_at other is_not some (b ∷ bs) (suc k) all = none_at other is_not some bs k (plain_tail b bs all)

no_feed : (bs : List ℕ) → list_all is_plain bs ≡ true → HasNoFeed bs
no_feed [] all = tt
no_feed (b ∷ bs) all = (plain_is b line_feed (plain_head b bs all) refl, no_feed bs (plain_tail b bs all))

-- such a line says all that it has
said_all : (line : List ℕ) → list_all is_plain line ≡ true → said line ≡ line
said_all line all =
    let front : before_comment line ≡ line = rw (first_of_none 0o73 refl line all) (take_all line) in
    ap before_return front ∙ whole
  where
    whole : before_return line ≡ line
    whole = elim (cases_Bool (nat_lt 0 (length line))) [
      | inl some ↦ rw (some, none_at 0o15 refl (λ e. omega (arith, e)) line (length line - 1) all) refl
      | inr none ↦ rw none refl
    ]

-- ## Fields
-- more words, each after a space
abbrev pub others : List ℕ → List ℕ
others [] = []
others (w ∷ ws) = 32 ∷ five w (others ws)

-- the fields of some words
abbrev pub fives : List ℕ → List (List ℕ)
fives ws = map (λ w. five w []) ws

-- what five bytes pass, and those after them, all do
all_five : (p : ℕ → Bool) (a b c d e : ℕ) (rest : List ℕ) → p a ≡ true → p b ≡ true → p c ≡ true → p d ≡ true → p e ≡ true
    → list_all p rest ≡ true → list_all p (a ∷ b ∷ c ∷ d ∷ e ∷ rest) ≡ true
all_five p a b c d e rest pa pb pc pd pe all = rw (pa, pb, pc, pd, pe, all) refl

five_plain : (w : ℕ) (rest : List ℕ) → list_all is_plain rest ≡ true → list_all is_plain (five w rest) ≡ true
five_plain w rest all =
    all_five is_plain (48 + w / 8 / 8 / 8 / 8 % 8) (48 + w / 8 / 8 / 8 % 8) (48 + w / 8 / 8 % 8) (48 + w / 8 % 8) (48 + w % 8) rest
    (plain_digit (w / 8 / 8 / 8 / 8)) (plain_digit (w / 8 / 8 / 8)) (plain_digit (w / 8 / 8)) (plain_digit (w / 8)) (plain_digit w) all

space_plain : (rest : List ℕ) → list_all is_plain rest ≡ true → list_all is_plain (32 ∷ rest) ≡ true
space_plain rest all = rw all refl

pub plain_row : (ws : List ℕ) (w : ℕ) → list_all is_plain (five w (others ws)) ≡ true
plain_row [] w = five_plain w [] refl
plain_row (v ∷ ws) w = five_plain w (32 ∷ five v (others ws)) (space_plain (five v (others ws)) (plain_row ws v))

-- five bytes that are no blanks, up to the end or a space
five_long : (a b c d e : ℕ) (rest : List ℕ) → is_blank a ≡ false → is_blank b ≡ false → is_blank c ≡ false → is_blank d ≡ false
    → is_blank e ≡ false → position_or_len is_blank rest ≡ 0 → 5 ≡ position_or_len is_blank (a ∷ b ∷ c ∷ d ∷ e ∷ rest)
five_long a b c d e rest na nb nc nd ne none = rw (na, nb, nc, nd, ne, none) refl

five_takes : (w : ℕ) (rest : List ℕ) → position_or_len is_blank rest ≡ 0 → texts (runs (five w rest)) ≡ five w [] ∷ texts (runs rest)
five_takes w rest none =
    texts-take (five w rest) 5 (omega arith) (no_blank (w / 8 / 8 / 8 / 8))
    (five_long (48 + w / 8 / 8 / 8 / 8 % 8) (48 + w / 8 / 8 / 8 % 8) (48 + w / 8 / 8 % 8) (48 + w / 8 % 8) (48 + w % 8) rest
    (no_blank (w / 8 / 8 / 8 / 8)) (no_blank (w / 8 / 8 / 8)) (no_blank (w / 8 / 8)) (no_blank (w / 8)) (no_blank w) none)

five_last : (w : ℕ) → texts (runs (five w [])) ≡ five w [] ∷ []
five_last w = five_takes w [] refl ∙ ap (λ ts. five w [] ∷ ts) (texts-none [] refl)

one_space : (a : ℕ) (rest : List ℕ) → is_blank a ≡ false → 1 ≡ position_or_len (λ b. not (is_blank b)) (32 ∷ a ∷ rest)
one_space a rest stands = rw stands refl

space_first : (w : ℕ) (rest : List ℕ) → texts (runs (32 ∷ five w rest)) ≡ texts (runs (five w rest))
space_first w rest =
    texts-skip (32 ∷ five w rest) 1
    (one_space (48 + w / 8 / 8 / 8 / 8 % 8) ((48 + w / 8 / 8 / 8 % 8) ∷ (48 + w / 8 / 8 % 8) ∷ (48 + w / 8 % 8) ∷ (48 + w % 8) ∷ rest)
    (no_blank (w / 8 / 8 / 8 / 8)))

row_fields : (ws : List ℕ) (w : ℕ) → texts (runs (five w (others ws))) ≡ fives (w ∷ ws)
row_fields [] w = five_last w
row_fields (v ∷ ws) w =
    five_takes w (32 ∷ five v (others ws)) refl ∙ ap (λ ts. five w [] ∷ ts) (space_first v (others ws) ∙ row_fields ws v)

-- the fields of a line of words, and that it is one line
pub fields_of_row : (ws : List ℕ) (w : ℕ) → fields (five w (others ws)) ≡ fives (w ∷ ws)
fields_of_row ws w = ap (λ line. texts (runs line)) (said_all (five w (others ws)) (plain_row ws w)) ∙ row_fields ws w

pub row_has_no_feed : (ws : List ℕ) (w : ℕ) → HasNoFeed (five w (others ws))
row_has_no_feed ws w = no_feed (five w (others ws)) (plain_row ws w)

-- a line of words names no bank
names_none : (a b c d e : ℕ) → a == 0o102 ≡ false → names_bank (a ∷ b ∷ c ∷ d ∷ e ∷ []) ≡ false
names_none a b c d e other = rw other refl

pub takes_fives : (s : State) (w : ℕ) (ws : List ℕ) → take_fields s (fives (w ∷ ws)) ≡ put_all s (fives (w ∷ ws))
takes_fives s w ws =
    rw (names_none (48 + w / 8 / 8 / 8 / 8 % 8) (48 + w / 8 / 8 / 8 % 8) (48 + w / 8 / 8 % 8) (48 + w / 8 % 8) (48 + w % 8)
    (ne_eqb (48 + w / 8 / 8 / 8 / 8 % 8) 0o102 (λ e. omega (arith, e)))) refl

-- ## The line of a bank
abbrev pub head : ℕ → List ℕ
head bank = 66 ∷ 65 ∷ 78 ∷ 75 ∷ 61 ∷ (48 + bank / 8 % 8) ∷ (48 + bank % 8) ∷ []

title_said : (a b : ℕ) → a == 0o73 ≡ false → b == 0o73 ≡ false → b == 0o15 ≡ false
    → said (66 ∷ 65 ∷ 78 ∷ 75 ∷ 61 ∷ a ∷ b ∷ []) ≡ 66 ∷ 65 ∷ 78 ∷ 75 ∷ 61 ∷ a ∷ b ∷ []
title_said a b na nb nr = rw (na, nb, nr) refl

title_long : (a b : ℕ) → is_blank a ≡ false → is_blank b ≡ false
    → 7 ≡ position_or_len is_blank (66 ∷ 65 ∷ 78 ∷ 75 ∷ 61 ∷ a ∷ b ∷ [])
title_long a b na nb = rw (na, nb) refl

pub fields_of_head : (bank : ℕ) → fields (head bank) ≡ head bank ∷ []
fields_of_head bank =
    ap (λ line. texts (runs line)) (title_said (48 + bank / 8 % 8) (48 + bank % 8)
    (ne_eqb (48 + bank / 8 % 8) 0o73 (λ e. omega (arith, e))) (ne_eqb (48 + bank % 8) 0o73 (λ e. omega (arith, e)))
    (ne_eqb (48 + bank % 8) 0o15 (λ e. omega (arith, e))))
    ∙ texts-take (head bank) 7 (omega arith) refl
    (title_long (48 + bank / 8 % 8) (48 + bank % 8) (no_blank (bank / 8)) (no_blank bank))
    ∙ ap (λ ts. head bank ∷ ts) (texts-none [] refl)

no_feed_of : (a b : ℕ) → a ≢ line_feed → b ≢ line_feed → HasNoFeed (66 ∷ 65 ∷ 78 ∷ 75 ∷ 61 ∷ a ∷ b ∷ [])
no_feed_of a b na nb = (
  (λ e. omega (arith, e)),
  (
    (λ e. omega (arith, e)),
    (
      (λ e. omega (arith, e)),
      (
        (λ e. omega (arith, e)),
        ((λ e. omega (arith, e)), (na, (nb, tt))),
      ),
    ),
  ),
)

pub head_has_no_feed : (bank : ℕ) → HasNoFeed (head bank)
head_has_no_feed bank = no_feed_of (48 + bank / 8 % 8) (48 + bank % 8) (λ e. omega (arith, e)) (λ e. omega (arith, e))
