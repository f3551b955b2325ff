-- The digits of a number, one after another.
use Rattle.std.proofs.Common.{◌≡◌, ℕ, zero, suc, ◌+◌, ◌-◌, ◌/◌, ◌%◌, ◌^◌, ◌<◌, ◌≤◌, List, [], ◌∷◌, ◌++◌, length, decimal, refl, ap, sym}
use Rattle.std.proofs.Common.{◌∙◌, arith, add-one, append_assoc, length-append}
use Rattle.std.proofs.lemmas.Fmt.{decimal_step, decimal_digit, length-decimal-le}
use Rattle.words.specs.Numerals.{octal_text, digit_zero}

-- a number of 64 bits has at most 20 decimal digits
pub short_decimal : (n : ℕ) → n < 2 ^ 64 → length (decimal n) ≤ 20
short_decimal n h = search (arith, length-decimal-le 20)

-- the last two of at least three digits
pub decimal_pair : (n : ℕ) (text : List ℕ) → 100 ≤ n → n < 2 ^ 64
    → decimal n ++ text ≡ decimal (n / 100) ++ (digit_zero + n % 100 / 10) ∷ (digit_zero + n % 100 % 10) ∷ text
decimal_pair n text p q =
    let tens : n / 10 % 10 ≡ n % 100 / 10 = omega arith in
    let ones : n % 10 ≡ n % 100 % 10 = omega arith in
    let front : n / 10 / 10 ≡ n / 100 = omega arith in
    let last = decimal_step n (omega arith) q in
    let before = decimal_step (n / 10) (omega arith) (omega arith) in
    ap (λ ds. ds ++ text) (last ∙ ap (λ ds. ds ++ (digit_zero + n % 10) ∷ []) before)
    ∙ ap (λ ds. ds ++ text) (append_assoc (decimal (n / 10 / 10)) ((digit_zero + n / 10 % 10) ∷ []) ((digit_zero + n % 10) ∷ []))
    ∙ append_assoc (decimal (n / 10 / 10)) ((digit_zero + n / 10 % 10) ∷ (digit_zero + n % 10) ∷ []) text
    ∙ rw (tens, ones, front) refl

-- and two digits that are all
pub decimal_two : (n : ℕ) → 10 ≤ n → n < 100 → decimal n ≡ (digit_zero + n / 10) ∷ (digit_zero + n % 10) ∷ []
decimal_two n p q =
    decimal_step n p (omega arith) ∙ ap (λ ds. ds ++ (digit_zero + n % 10) ∷ []) (decimal_digit (n / 10) (omega arith))

-- a number with some digits after it has at least as many as those
pub decimal_longer : (n : ℕ) → 100 ≤ n → n < 2 ^ 64 → 2 ≤ length (decimal n)
decimal_longer n p q =
    let pair : length (decimal n ++ []) ≡ length (decimal (n / 100)) + 2 = ap length (decimal_pair n [] p q)
    ∙ length-append (decimal (n / 100)) _ in
    omega (arith, pair, length-append (decimal n) [])

-- two halves of one text are as long together
pub decimal_room : (xs ys us vs : List ℕ) → xs ++ ys ≡ us ++ vs → length xs + length ys ≡ length us + length vs
decimal_room xs ys us vs e = sym (length-append xs ys) ∙ ap length e ∙ length-append us vs

-- k octal digits are k bytes
pub length-octal_text : (k n : ℕ) → length (octal_text k n) ≡ k
unfolding octal_text
length-octal_text zero n = refl
length-octal_text (suc k) n = omega (arith, length-append (octal_text k (n / 8)) ((digit_zero + n % 8) ∷ []), length-octal_text k (n / 8))

pub octal_text-none : (n : ℕ) → octal_text 0 n ≡ []
unfolding octal_text
octal_text-none n = refl

pub octal_text-step : (k j n : ℕ) → k ≡ j + 1 → octal_text k n ≡ octal_text j (n / 8) ++ (48 + n % 8) ∷ []
unfolding octal_text
octal_text-step k j n e = rw (e, add-one) refl

pub octal_pushed : (old line : List ℕ) (k n : ℕ) → 0 < k → line ≡ old ++ octal_text (k - 1) (n / 8)
    → line ++ (48 + n % 8) ∷ [] ≡ old ++ octal_text k n
octal_pushed old line k n p e =
    ap (λ (xs : List ℕ). xs ++ (48 + n % 8) ∷ []) e ∙ append_assoc old (octal_text (k - 1) (n / 8)) ((48 + n % 8) ∷ [])
    ∙ ap (λ (xs : List ℕ). old ++ xs) (sym (octal_text-step k (k - 1) n (omega arith)))

pub octal_prepended : (k n : ℕ) (text : List ℕ) → 0 < k → octal_text k n ++ text ≡ octal_text (k - 1) (n / 8) ++ (48 + n % 8) ∷ text
octal_prepended k n text p =
    ap (λ (xs : List ℕ). xs ++ text) (octal_text-step k (k - 1) n (omega arith))
    ∙ append_assoc (octal_text (k - 1) (n / 8)) ((48 + n % 8) ∷ []) text
