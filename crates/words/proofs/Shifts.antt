-- Bits that are shifted into a word.
use Rattle.std.proofs.Common.{◌≡◌, ℕ, zero, suc, ◌+◌, ◌*◌, ◌/◌, ◌%◌, ◌^◌, ◌<◌, ◌≤◌, Bool, true, false, nat_lt, nat_eq, if◌then◌else◌, List}
use Rattle.std.proofs.Common.{[], ◌∷◌, ◌++◌, length, replicate, refl, sym, ap, ◌∙◌, arith}
use Rattle.std.specs.Int.{bit_at}
use Rattle.std.proofs.lemmas.Bool.Decides.{nat_tests}
use Rattle.words.specs.declared.counters.Carry.{Carry}
use Rattle.words.specs.declared.counters.Carry.TheVariants.{No, ShiftedOut}
use Rattle.words.specs.Laws.{shifted, bit, ShiftsIn, shifted_in, shifted_out, number_after, TakesWordIn}
use Rattle.words.proofs.Turns.{bit_of_half, bit_of_low}

shifted_half : (w : ℕ) (b : Bool) → (shifted w b).word / 2 ≡ w % 2 ^ 14
shifted_half w true = omega arith
shifted_half w false = omega arith

shifted_last : (w : ℕ) (b : Bool) → bit_at (shifted w b).word 0 ≡ bit b
shifted_last w true = omega arith
shifted_last w false = omega arith

out_is : (w : ℕ) → w < 32768 → (if nat_lt w 16384 then No else ShiftedOut) ≡ (if nat_eq (bit_at w 14) 1 then ShiftedOut else No)
out_is w p = grind (arith, nat_tests)

carry_is : (w : ℕ) (b : Bool) → (shifted w b).carry ≡ (if nat_lt w 16384 then No else ShiftedOut)
carry_is w true = refl
carry_is w false = refl

pub shifts_in : (w : ℕ) (b : Bool) → w < 32768 → ShiftsIn w b
shifts_in w b p = record {
  up = λ i less. sym (bit_of_half (shifted w b).word i) ∙ ap (λ (m : ℕ). bit_at m i) (shifted_half w b) ∙ bit_of_low w 14 i less;
  last = shifted_last w b;
  first = carry_is w b ∙ out_is w p;
}

-- doubled so many times
abbrev doubled : ℕ → ℕ → ℕ
doubled zero n = n
doubled (suc k) n = doubled k (2 * n)

doubled_more : (k m n : ℕ) → m ≤ n → doubled k m ≤ doubled k n
doubled_more zero m n le = le
doubled_more (suc k) m n le = doubled_more k (2 * m) (2 * n) (omega arith)

doubled_least : (k n : ℕ) → n ≤ doubled k n
doubled_least zero n = omega arith
doubled_least (suc k) n = omega (arith, doubled_least k (2 * n))

-- what stands before bits adds to their number
before : (bits : List Bool) (n m : ℕ) → number_after (n + m) bits ≡ doubled (length bits) n + number_after m bits
before [] n m = refl
before (b ∷ bs) n m =
    let apart : 2 * (n + m) + bit b ≡ 2 * n + (2 * m + bit b) = omega arith in
    ap (λ (x : ℕ). number_after x bs) apart ∙ before bs (2 * n) (2 * m + bit b)

few : (bits : List Bool) (n : ℕ) → number_after n bits + 1 ≤ doubled (length bits) (n + 1)
few [] n = omega arith
few (true ∷ bs) n =
    let more = doubled_more (length bs) (2 * n + 1 + 1) (2 * (n + 1)) (omega arith) in
    omega (arith, few bs (2 * n + 1), more)
few (false ∷ bs) n =
    let more = doubled_more (length bs) (2 * n + 0 + 1) (2 * (n + 1)) (omega arith) in
    omega (arith, few bs (2 * n + 0), more)

-- only the last fifteen bits of what stands before count
alike : (bits : List Bool) (m n : ℕ) → m % 32768 ≡ n % 32768 → number_after m bits % 32768 ≡ number_after n bits % 32768
alike [] m n e = e
alike (b ∷ bs) m n e = alike bs (2 * m + bit b) (2 * n + bit b) (omega arith)

shifted_is : (w : ℕ) (b : Bool) → (shifted w b).word % 32768 ≡ (2 * w + bit b) % 32768
shifted_is w true = omega arith
shifted_is w false = omega arith

shifted_below : (w : ℕ) (b : Bool) → (shifted w b).word < 32768
shifted_below w true = omega arith
shifted_below w false = omega arith

in_is : (bits : List Bool) (w : ℕ) → w < 32768 → shifted_in w bits ≡ number_after w bits % 32768
in_is [] w p = omega arith
in_is (b ∷ bs) w p = in_is bs (shifted w b).word (shifted_below w b) ∙ alike bs (shifted w b).word (2 * w + bit b) (shifted_is w b)

word_in : (w : ℕ) (bits : List Bool) → w < 32768 → length bits ≡ 15 → shifted_in w bits ≡ number_after 0 bits
word_in w bits p e =
    let fifteen : doubled (length bits) w ≡ doubled 15 w = ap (λ (k : ℕ). doubled k w) e in
    let one : doubled (length bits) 1 ≡ doubled 15 1 = ap (λ (k : ℕ). doubled k 1) e in
    let none : w + 0 ≡ w = omega arith in
    let whole : number_after w bits ≡ doubled (length bits) w + number_after 0 bits = ap (λ (x : ℕ). number_after x bits) (sym none)
    ∙ before bits w 0 in
    let below = few bits 0 in
    in_is bits w p ∙ omega (arith, fifteen, one, whole, below)

rises : (k w : ℕ) (b : Bool) → w < 16384 → 32768 ≤ doubled k (2 * w) → 32768 ≤ doubled k (shifted w b).word
rises k w true p low = let more = doubled_more k (2 * w) (shifted w true).word (omega arith) in omega arith
rises k w false p low = let more = doubled_more k (2 * w) (shifted w false).word (omega arith) in omega arith

falls : (k w : ℕ) (b : Bool) → w < 16384 → doubled k (2 * (w + 1)) ≤ 65536 → doubled k ((shifted w b).word + 1) ≤ 65536
falls k w true p high = let more = doubled_more k ((shifted w true).word + 1) (2 * (w + 1)) (omega arith) in omega arith
falls k w false p high = let more = doubled_more k ((shifted w false).word + 1) (2 * (w + 1)) (omega arith) in omega arith

-- a one that stands so many places before the first bit comes out with the last
comes_out : (bits : List Bool) (w k : ℕ) → length bits ≡ suc k → 32768 ≤ doubled (suc k) w → doubled (suc k) (w + 1) ≤ 65536
    → shifted_out w bits ≡ replicate k No ++ ShiftedOut ∷ []
comes_out [] w k e low high = absurd (omega (arith, e))
comes_out (b ∷ []) w zero e low high = let out : (if nat_lt w 16384 then No else ShiftedOut)
    ≡ ShiftedOut = grind (arith, nat_tests) in ap (λ (c : Carry). c ∷ []) (carry_is w b ∙ out)
comes_out (b ∷ c ∷ bs) w zero e low high = absurd (omega (arith, e))
comes_out (b ∷ bs) w (suc k) e low high =
    let least = doubled_least k (2 * (2 * (w + 1))) in
    let small : w < 16384 = omega arith in
    let stays : (if nat_lt w 16384 then No else ShiftedOut) ≡ No = grind (arith, nat_tests) in
    ap (λ (c : Carry). c ∷ shifted_out (shifted w b).word bs) (carry_is w b ∙ stays)
    ∙ ap (λ (cs : List Carry). No ∷ cs) (comes_out bs (shifted w b).word k (omega (arith, e)) (rises (suc k) w b small low)
    (falls (suc k) w b small high))

pub takes_word_in : (w : ℕ) (bits : List Bool) → w < 32768 → length bits ≡ 15 → TakesWordIn w bits
takes_word_in w bits p e = record {
  word = word_in w bits p e;
  full = ap (λ (cs : List Carry). No ∷ cs) (comes_out bits 1 14 e (omega arith) (omega arith));
}
