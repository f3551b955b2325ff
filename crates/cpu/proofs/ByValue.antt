-- What instructions come to by the value.
use Rattle.std.proofs.Common.{◌≡◌, ◌≢◌, ◌≤◌, ◌<◌, ℕ, zero, suc, ◌+◌, ◌-◌, ◌*◌, ◌/◌, ◌%◌, Bool, true, false, cond, ◌==◌, ◌||◌, ◌&&◌, nat_lt}
use Rattle.std.proofs.Common.{if◌then◌else◌, List, [], ◌∷◌, Option, Some, None, refl, ap, ◌∙◌, sym, arith, inl, inr}
use Rattle.std.specs.Prelude.{ℤ, pos, negsuc, ◌+ℤ◌, ◌*ℤ◌, int_lt, unsigned_abs, is_some, nat_le}
use Rattle.std.proofs.lemmas.Int.{ints}
use Rattle.std.proofs.lemmas.Bool.Decides.{nat_tests}
use Rattle.std.proofs.lemmas.Bool.{cases_eq, cases_lt}
use Rattle.std.proofs.Math.IntN.{negsuc-*ℤ-pos, pos-*ℤ-pos}
use Rattle.words.specs.Numbers.{value, value_wide, extend, correct, sum, dabs, neg}
use Rattle.words.specs.Signs.{over, is_minus_wide}
use Rattle.words.specs.declared.wide.Overflow.{Overflow}
use Rattle.words.specs.declared.wide.Overflow.TheVariants.{No, Plus, Minus}
use Rattle.words.specs.declared.counters.Carry.TheVariants as carry'
use Rattle.words.specs.Counters.{pinc}
use Rattle.words.specs.Products.{product, product_is_minus, product_magnitude, quotient, quotient_fits, dividend_magnitude}
use Rattle.words.specs.Products.{dividend_is_minus, is_minus, magnitude, signed}
use Rattle.words.specs.Laws.{Divides}
use Rattle.std.proofs.lemmas.Nat.{mul-lt}
use Rattle.words.proofs.Values.{makes_product, divides, magnitude_small}
use Rattle.rope.specs.Places.{Words}
use Rattle.space.specs.Cells.{Cells, at, get, put, kept, superbank, erasable_bank, fixed_bank, accumulator, lower_accumulator}
use Rattle.space.specs.Cells.{program_counter, cycle_right, edit_opcode, both_banks}
use Rattle.space.specs.Places.{place, selected_bank}
use Rattle.space.specs.declared.place.Linear.{Linear}
use Rattle.space.specs.declared.place.Linear.TheVariants.{Erasable, Fixed}
use Rattle.space.proofs.CellLaws.{at-put, get-put_other, get-put_accumulator, get-put_word}
use Rattle.feed.specs.declared.input.Counter.TheVariants.{Time1}
use Rattle.feed.specs.declared.input.Sequence.TheVariants.{Pinc}
use Rattle.feed.specs.declared.input.Input.{Input}
use Rattle.feed.specs.declared.input.Input.TheVariants.{Count}
use Rattle.cpu.specs.declared.instruction.Instruction.TheVariants.{Ccs, Das, Index, Mp, Dv}
use Rattle.cpu.specs.declared.output.Output.{Output}
use Rattle.cpu.specs.State.{State, Scenario}
use Rattle.cpu.specs.Codes.{Code}
use Rattle.cpu.specs.Effects.{Change, changes, erasable_number, accumulator_of, lower_of, next_address, place_in, operand, erasable_in}
use Rattle.cpu.specs.Effects.{first_of, greatest_short, edits, carry, has_overflow, ccs_skip, after, ccs, mp, dv, das, index}
use Rattle.cpu.specs.Effects.Change.{AtPlace}
use Rattle.cpu.specs.Inputs.{take, counted, is_overflow}
use Rattle.cpu.specs.Next.{fetched_cells, fetched, following_address, instruction_word, word_at_z, executed, entry, least_request, next}
use Rattle.cpu.specs.Laws.{ExecutesCode}
use Rattle.cpu.specs.ByValue.{is_plain, double, MultipliesByValue, DividesByValue, CountsDown, IndexesByValue, AddsDoubles, DoublesByValue}
use Rattle.cpu.specs.ByValue.{TicksAsOne}
use Rattle.cpu.proofs.StepLaws.{by_input, by_code, corrected_twice}
use Rattle.cpu.proofs.Resuming.{fetched_place}

-- ## What a step leaves
step_is : (scenario : Scenario) (s : State) (code : Code) → ExecutesCode scenario s code
    → (next scenario s).0 ≡ executed scenario.rope (fetched s) code
step_is scenario s code e = ap (λ (t : State × Option Output). t.0) (by_code scenario s code e)

-- the fetch moves Z alone
fetched_get : (s : State) (p : ℕ) → p ≢ both_banks → p ≢ program_counter → get (fetched s).cells p ≡ get s.cells p
unfolding fetched
fetched_get s p n6 nz = on s.waiting_word
  where
    on : (o : Option ℕ) → get (fetched_cells s o) p ≡ get s.cells p
    on (Some w) = refl
    on None = get-put_other s.cells program_counter (following_address s) p (λ e. omega arith) n6 nz

-- what is stored again at an editing place changes no register
edits_leave : (l : Linear) (x : ℕ) (s : State) (p : ℕ) → p < 8 → p ≢ both_banks → get (changes s (edits l x)).cells p ≡ get s.cells p
unfolding edits
edits_leave (Fixed bank offset) x s p lt n6 = refl
edits_leave (Erasable q) x s p lt n6 = on (nat_le cycle_right q && nat_le q edit_opcode) refl
  where
    on : (b : Bool) → (nat_le cycle_right q && nat_le q edit_opcode) ≡ b
        → get (changes s (cond b (AtPlace q x ∷ []) [])).cells p ≡ get s.cells p
    on false e = refl
    on true e = let low : 16 ≤ q = grind (arith, nat_tests) in get-put_other s.cells q x p (λ e. omega arith) n6 (λ e. omega arith)

-- nor what else a state holds
edits_keep : (l : Linear) (x : ℕ) (s : State) (f : State → Option ℕ) → ((cells : Cells) → f (record s { cells = cells }) ≡ f s)
    → f (changes s (edits l x)) ≡ f s
unfolding edits
edits_keep (Fixed bank offset) x s f same = refl
edits_keep (Erasable q) x s f same = on (nat_le cycle_right q && nat_le q edit_opcode)
  where
    on : (b : Bool) → f (changes s (cond b (AtPlace q x ∷ []) [])) ≡ f s
    on false = refl
    on true = same (put s.cells q x)

edits_wait : (l : Linear) (x : ℕ) (s : State) → (changes s (edits l x)).waiting_sum ≡ s.waiting_sum
edits_wait l x s = edits_keep l x s (λ u. u.waiting_sum) (λ cells. refl)

edits_word : (l : Linear) (x : ℕ) (s : State) → (changes s (edits l x)).waiting_word ≡ s.waiting_word
edits_word l x s = edits_keep l x s (λ u. u.waiting_word) (λ cells. refl)

-- A and L after both are stored
stored_a : (c : Cells) (x y : ℕ) → get (put (put c accumulator x) lower_accumulator y) accumulator ≡ x
stored_a c x y = get-put_other (put c accumulator x) lower_accumulator y accumulator (λ e. omega arith) (λ e. omega arith)
    (λ e. omega arith) ∙ get-put_accumulator c x

stored_l : (c : Cells) (y : ℕ) → get (put c lower_accumulator y) lower_accumulator ≡ extend (correct y)
unfolding get kept
stored_l c y = ap extend (at-put c lower_accumulator y (λ e. omega arith) (λ e. omega arith))

stored_z : (c : Cells) (y : ℕ) → get (put c program_counter y) program_counter ≡ extend (correct y % 4096)
unfolding get kept
stored_z c y = ap extend (at-put c program_counter y (λ e. omega arith) (λ e. omega arith))

-- ## Words
value_extended : (w : ℕ) → value_wide (extend w) ≡ value w
value_extended w = grind (arith, ints, nat_tests)

minus_extended : (w : ℕ) → is_minus_wide (extend w) ≡ is_minus w
minus_extended w = grind (arith, nat_tests)

back : (w : ℕ) → w < 32768 → correct (extend w) ≡ w
back w lt = grind (arith, nat_tests)

signed_below : (minus : Bool) (m : ℕ) → m < 16384 → signed minus m < 32768
signed_below true m lt = omega arith
signed_below false m lt = omega arith

value_small : (w : ℕ) → w < 32768 → unsigned_abs (value w) < 16384
value_small w lt = magnitude_small w lt

pub corrected_below : (x : ℕ) → correct x < 32768
corrected_below x = grind (arith, nat_tests)

-- ## MP
mp_leaves : (rope : Words) (u : State) (k a x : ℕ) → correct (accumulator_of u) ≡ a → correct (operand rope u k) ≡ x
    → (accumulator_of (executed rope u (record { instruction = Mp; operand = k })) ≡ extend (product a x).high)
    × (lower_of (executed rope u (record { instruction = Mp; operand = k })) ≡ extend (correct (extend (product a x).low)))
unfolding executed after mp
mp_leaves rope u k a x ea ex =
    let p = product (correct (accumulator_of u)) (correct (operand rope u k)) in
    let v = record u { cells = put (put u.cells accumulator (extend p.high)) lower_accumulator (extend p.low) } in
    let l = place_in u k in
    let y = operand rope u k in
    let same : p ≡ product a x = ap (λ b. product b (correct (operand rope u k))) ea ∙ ap (product a) ex in (
      edits_leave l y v accumulator (omega arith) (λ e. omega arith) ∙ stored_a u.cells (extend p.high) (extend p.low)
          ∙ ap (λ q. extend q.high) same,
      edits_leave l y v lower_accumulator (omega arith) (λ e. omega arith)
          ∙ stored_l (put u.cells accumulator (extend p.high)) (extend p.low) ∙ ap (λ q. extend (correct (extend q.low))) same,
    )

product_bounds : (a x : ℕ) → a < 32768 → x < 32768 → ((product a x).high < 32768) × ((product a x).low < 32768)
product_bounds a x p q = (
  signed_below (product_is_minus a x) (product_magnitude a x / 16384) (high_below a x p q),
  signed_below
      (product_is_minus a x) (product_magnitude a x % 16384) (omega arith),
)
  where
    high_below : (a x : ℕ) → a < 32768 → x < 32768 → magnitude a * magnitude x / 16384 < 16384
    high_below a x p q = let small = mul-lt (magnitude a) (magnitude x) 16384 16384 (magnitude_small a p) (magnitude_small x q) in omega
        arith

pub multiplies_by_value : (scenario : Scenario) (s : State) (k a x : ℕ) → a < 32768 → x < 32768 → MultipliesByValue scenario s k a x
multiplies_by_value scenario s k a x p q e ea ex =
    let rope = scenario.rope in
    let t = (next scenario s).0 in
    let leaves = mp_leaves rope (fetched s) k a x (ap correct (fetched_get s accumulator (λ e. omega arith) (λ e. omega arith)) ∙ ea) ex in
    let below = product_bounds a x p q in
    let is = step_is scenario s (record { instruction = Mp; operand = k }) e in
    let high : accumulator_of t ≡ extend (product a x).high = ap accumulator_of is ∙ leaves.0 in
    let low : lower_of t ≡ extend (product a x).low = ap lower_of is ∙ leaves.1 ∙ ap extend (back (product a x).low below.1) in
    let vh : value_wide (accumulator_of t) ≡ value (product a x).high = ap value_wide high ∙ value_extended (product a x).high in
    let vl : value_wide (lower_of t) ≡ value (product a x).low = ap value_wide low ∙ value_extended (product a x).low in
    record {
      product = ap (λ v. double v (value_wide (lower_of t))) vh ∙ ap (double (value (product a x).high)) vl ∙ makes_product a x p q;
      high = rw vh (value_small (product a x).high below.0);
      low = rw vl (value_small (product a x).low below.1);
    }

-- ## DV
dv_leaves : (rope : Words) (u : State) (k a l x : ℕ) → correct (accumulator_of u) ≡ a → correct (lower_of u) ≡ l
    → correct (operand rope u k) ≡ x
    → (accumulator_of (executed rope u (record { instruction = Dv; operand = k })) ≡ extend (quotient a l x).quotient)
    × (lower_of (executed rope u (record { instruction = Dv; operand = k })) ≡ extend (correct (extend (quotient a l x).remainder)))
unfolding executed after dv
dv_leaves rope u k a l x ea el ex =
    let p = quotient (correct (accumulator_of u)) (correct (lower_of u)) (correct (operand rope u k)) in
    let v = record u { cells = put (put u.cells accumulator (extend p.quotient)) lower_accumulator (extend p.remainder) } in
    let place = place_in u k in
    let y = operand rope u k in
    let same : p ≡ quotient a l x = ap (λ b. quotient b (correct (lower_of u)) (correct (operand rope u k))) ea
    ∙ ap (λ b. quotient a b (correct (operand rope u k))) el ∙ ap (quotient a l) ex in (
      edits_leave place y v accumulator (omega arith) (λ e. omega arith) ∙ stored_a u.cells (extend p.quotient) (extend p.remainder)
          ∙ ap (λ q. extend q.quotient) same,
      edits_leave place y v lower_accumulator (omega arith) (λ e. omega arith)
          ∙ stored_l (put u.cells accumulator (extend p.quotient)) (extend p.remainder)
          ∙ ap (λ q. extend (correct (extend q.remainder))) same,
    )

remainder_below : (a l x : ℕ) → x < 32768 → quotient_fits a l x ≡ true → (quotient a l x).remainder < 32768
remainder_below a l x lt fit =
    let is : (quotient a l x).remainder ≡ signed (dividend_is_minus a l) (dividend_magnitude a l % magnitude x) = ap
    (λ (b : Bool). if b then signed (dividend_is_minus a l) (dividend_magnitude a l % magnitude x) else l) fit in
    let some : 0 < magnitude x = grind (arith, nat_tests) in
    let m = magnitude_small x lt in
    let few : dividend_magnitude a l % magnitude x < 16384 = omega arith in
    rw is (signed_below (dividend_is_minus a l) (dividend_magnitude a l % magnitude x) few)

pub divides_by_value : (scenario : Scenario) (s : State) (k a l x : ℕ) → x < 32768 → DividesByValue scenario s k a l x
divides_by_value scenario s k a l x lt e ea el ex less =
    let rope = scenario.rope in
    let t = (next scenario s).0 in
    let fit : quotient_fits a l x ≡ true = grind (arith, nat_tests) in
    let d : Divides a l x = divides a l x lt fit in
    let leaves = dv_leaves rope (fetched s) k a l x (ap correct (fetched_get s accumulator (λ e. omega arith) (λ e. omega arith)) ∙ ea)
    (ap correct (fetched_get s lower_accumulator (λ e. omega arith) (λ e. omega arith)) ∙ el) ex in
    let is = step_is scenario s (record { instruction = Dv; operand = k }) e in
    let q = (quotient a l x).quotient in
    let r = (quotient a l x).remainder in
    let high : accumulator_of t ≡ extend q = ap accumulator_of is ∙ leaves.0 in
    let low : lower_of t ≡ extend r = ap lower_of is ∙ leaves.1 ∙ ap extend (back r (remainder_below a l x lt fit)) in
    let vh : value_wide (accumulator_of t) ≡ value q = ap value_wide high ∙ value_extended q in
    let vl : value_wide (lower_of t) ≡ value r = ap value_wide low ∙ value_extended r in
    record {
      dividend = ap (λ v. v *ℤ value x +ℤ value_wide (lower_of t)) vh ∙ ap (λ v. value q *ℤ value x +ℤ v) vl ∙ d.dividend;
      less = rw vl d.less;
      quotient_sign = ap is_minus_wide high ∙ minus_extended q ∙ d.quotient_sign;
      remainder_sign = ap is_minus_wide low ∙ minus_extended r ∙ d.remainder_sign;
    }

-- ## CCS
ccs_leaves : (rope : Words) (u : State) (k x z : ℕ) → operand rope u k ≡ x → next_address u ≡ z
    → (accumulator_of (executed rope u (record { instruction = Ccs; operand = k })) ≡ dabs x)
    × (next_address (executed rope u (record { instruction = Ccs; operand = k })) ≡ extend (correct (z + ccs_skip x) % 4096))
unfolding executed after ccs
ccs_leaves rope u k x z ex ez =
    let y = operand rope u k in
    let n = next_address u + ccs_skip y in
    let v = record u { cells = put (put u.cells accumulator (dabs y)) program_counter n } in
    let l = place_in u k in (
      edits_leave l y v accumulator (omega arith) (λ e. omega arith)
          ∙ get-put_other (put u.cells accumulator (dabs y)) program_counter n accumulator (λ e. omega arith) (λ e. omega arith)
          (λ e. omega arith) ∙ get-put_accumulator u.cells (dabs y) ∙ ap dabs ex,
      edits_leave l y v program_counter (omega arith) (λ e. omega arith) ∙ stored_z (put u.cells accumulator (dabs y)) n
          ∙ ap (λ m. extend (correct m % 4096)) (ap (λ b. b + ccs_skip y) ez ∙ ap (λ b. z + ccs_skip b) ex),
    )

small_address : (n : ℕ) → n < 16384 → extend (correct n % 4096) ≡ n % 4096
small_address n lt = grind (arith, nat_tests)

dabs_value : (x : ℕ) → x < 65536 → value_wide (dabs x) ≡ pos (unsigned_abs (value_wide x) - 1)
dabs_value x lt = grind (arith, ints, nat_tests)

skip_above : (x : ℕ) → x < 65536 → int_lt (pos 0) (value_wide x) ≡ true → ccs_skip x ≡ 0
skip_above x lt e = grind (arith, ints, nat_tests)

skip_below : (x : ℕ) → x < 65536 → int_lt (value_wide x) (pos 0) ≡ true → ccs_skip x ≡ 2
skip_below x lt e = grind (arith, ints, nat_tests)

skip_few : (x : ℕ) → ccs_skip x ≤ 3
skip_few x = grind (arith, nat_tests)

pub counts_down : (scenario : Scenario) (s : State) (k x z : ℕ) → x < 65536 → z < 4096 → CountsDown scenario s k x z
counts_down scenario s k x z lx lz e ex ez =
    let rope = scenario.rope in
    let t = (next scenario s).0 in
    let leaves = ccs_leaves rope (fetched s) k x z ex ez in
    let is = step_is scenario s (record { instruction = Ccs; operand = k }) e in
    let few = skip_few x in
    let a : accumulator_of t ≡ dabs x = ap accumulator_of is ∙ leaves.0 in
    let n : next_address t ≡ (z + ccs_skip x) % 4096 = ap next_address is ∙ leaves.1 ∙ small_address (z + ccs_skip x) (omega arith) in
    let none : (z + 0) % 4096 ≡ z = omega arith in
    record {
      magnitude = ap value_wide a ∙ dabs_value x lx;
      above_zero = λ above. n ∙ ap (λ k. (z + k) % 4096) (skip_above x lx above) ∙ none;
      plus_zero = λ zero. n ∙ ap (λ w. (z + ccs_skip w) % 4096) zero;
      below_zero = λ below. n ∙ ap (λ k. (z + k) % 4096) (skip_below x lx below);
      minus_zero = λ zero. n ∙ ap (λ w. (z + ccs_skip w) % 4096) zero;
    }

-- ## INDEX
index_leaves : (rope : Words) (u : State) (k x : ℕ) → operand rope u k ≡ x
    → ((executed rope u (record { instruction = Index; operand = k })).waiting_sum ≡ Some x)
    × ((executed rope u (record { instruction = Index; operand = k })).waiting_word ≡ u.waiting_word)
unfolding executed after index
index_leaves rope u k x ex =
    let y = operand rope u k in
    let v = record u { waiting_sum = Some y } in
    (edits_wait (place_in u k) y v ∙ ap Some ex, edits_word (place_in u k) y v)

barred : (b c d : Bool) (o : Option ℕ) → cond (b || true || c || d) None o ≡ None
barred true c d o = refl
barred false c d o = refl

pub sum_bars : (t : State) (x : ℕ) → t.waiting_sum ≡ Some x → entry t ≡ None
unfolding entry
sum_bars t x e =
    let overflows = has_overflow (over (accumulator_of t)) in
    ap (λ (o : Option ℕ). cond (t.inhibit || t.inside || t.extra || is_some o || is_some t.waiting_word || overflows) None
    (least_request t.requests)) e
    ∙ barred (t.inhibit || t.inside || t.extra) (is_some t.waiting_word) overflows (least_request t.requests)

pub indexed : (w x : ℕ) → w < 32768 → x < 32768 → unsigned_abs (value w +ℤ value x) < 16384
    → value (correct (sum (extend w) (extend x))) ≡ value w +ℤ value x
indexed w x p q few = grind (arith, ints, nat_tests)

pub word_of : (rope : Words) (t : State) (x : ℕ) → t.waiting_sum ≡ Some x → t.waiting_word ≡ None
    → instruction_word rope t ≡ correct (sum (extend (word_at_z rope t)) x)
unfolding instruction_word
word_of rope t x es ew = rw (es, ew) refl

pub indexes_by_value : (scenario : Scenario) (s : State) (k x : ℕ) → x < 32768 → IndexesByValue scenario s k x
unfolding fetched executed
indexes_by_value scenario s k x lt e ex =
    let rope = scenario.rope in
    let t = (next scenario s).0 in
    let leaves = index_leaves rope (fetched s) k (extend x) ex in
    let is = step_is scenario s (record { instruction = Index; operand = k }) e in
    let waits : t.waiting_sum ≡ Some (extend x) = ap (λ (v : State). v.waiting_sum) is ∙ leaves.0 in
    let no_word : t.waiting_word ≡ None = ap (λ (v : State). v.waiting_word) is ∙ leaves.1 in
    record {
      sum = λ few. ap value (word_of rope t (extend x) waits no_word)
          ∙ indexed (word_at_z rope t) x (corrected_below (operand rope t (next_address t))) lt few;
      extra = ap (λ (v : State). v.extra) is;
      none_entered = sum_bars t (extend x) waits;
    }

-- ## Sums
-- what an overflow is worth
weight : Overflow → ℤ
weight No = pos 0
weight Plus = pos 16384
weight Minus = negsuc 16383

corrected_value : (x : ℕ) → x < 65536 → value_wide (extend (correct x)) +ℤ weight (over x) ≡ value_wide x
unfolding weight
corrected_value x lt = grind (arith, ints, nat_tests)

sum_value : (x y : ℕ) → x < 65536 → y < 65536 → unsigned_abs (value_wide x +ℤ value_wide y) < 32768
    → value_wide (sum x y) ≡ value_wide x +ℤ value_wide y
sum_value x y p q few = grind (arith, ints, nat_tests)

sum_below : (x y : ℕ) → sum x y < 65536
sum_below x y = grind (arith, nat_tests)

extend_below : (w : ℕ) → w < 32768 → extend w < 65536
extend_below w lt = grind (arith, nat_tests)

carry_below : (o : Overflow) → carry o < 65536
carry_below No = omega arith
carry_below Plus = omega arith
carry_below Minus = omega arith

carry_small : (o : Overflow) → unsigned_abs (value_wide (carry o)) ≤ 1
carry_small No = omega arith
carry_small Plus = omega arith
carry_small Minus = omega arith

carry_weight : (o : Overflow) → value_wide (carry o) *ℤ pos 16384 ≡ weight o
unfolding weight
carry_weight No = refl
carry_weight Plus = refl
carry_weight Minus = refl

weight_twice : (o : Overflow) → weight o *ℤ pos 16384 ≡ value_wide (carry o) *ℤ pos 268435456
unfolding weight
weight_twice No = refl
weight_twice Plus = refl
weight_twice Minus = refl

carry_one_of : (o : Overflow) → (carry o == 0 || carry o == 1 || carry o == extend (neg 1)) ≡ true
carry_one_of No = refl
carry_one_of Plus = refl
carry_one_of Minus = refl

-- 2^14 times a sum
times : (x y z : ℤ) → z ≡ x +ℤ y → z *ℤ pos 16384 ≡ x *ℤ pos 16384 +ℤ y *ℤ pos 16384
times (pos a) (pos b) (pos c) e = let p = pos-*ℤ-pos a 16384 in let q = pos-*ℤ-pos b 16384 in let r = pos-*ℤ-pos c 16384 in omega
    (arith, ints)
times (pos a) (pos b) (negsuc c) e = absurd (omega (arith, ints))
times (pos a) (negsuc b) (pos c) e = let p = pos-*ℤ-pos a 16384 in let q = negsuc-*ℤ-pos b 16384 in let r = pos-*ℤ-pos c 16384 in omega
    (arith, ints)
times (pos a) (negsuc b) (negsuc c) e = let p = pos-*ℤ-pos a 16384 in let q = negsuc-*ℤ-pos b 16384 in let r = negsuc-*ℤ-pos c 16384 in
    omega (arith, ints)
times (negsuc a) (pos b) (pos c) e = let p = negsuc-*ℤ-pos a 16384 in let q = pos-*ℤ-pos b 16384 in let r = pos-*ℤ-pos c 16384 in omega
    (arith, ints)
times (negsuc a) (pos b) (negsuc c) e = let p = negsuc-*ℤ-pos a 16384 in let q = pos-*ℤ-pos b 16384 in let r = negsuc-*ℤ-pos c 16384 in
    omega (arith, ints)
times (negsuc a) (negsuc b) (pos c) e = absurd (omega (arith, ints))
times (negsuc a) (negsuc b) (negsuc c) e = let p = negsuc-*ℤ-pos a 16384 in let q = negsuc-*ℤ-pos b 16384 in let r = negsuc-*ℤ-pos c 16384
    in omega (arith, ints)

-- the low sum and the high one, with the carry
low_value : (l y : ℕ) → l < 32768 → y < 32768 → value_wide (extend (correct (sum (extend l) (extend y)))) +ℤ weight
    (over (sum (extend l) (extend y))) ≡ value l +ℤ value y
low_value l y p q =
    let vl = value_extended l in
    let vy = value_extended y in
    let few : unsigned_abs (value_wide (extend l) +ℤ value_wide (extend y))
    < 32768 = (let sl = value_small l p in let sy = value_small y q in rw (vl, vy) (grind (arith, ints))) in
    corrected_value (sum (extend l) (extend y)) (sum_below (extend l) (extend y))
    ∙ sum_value (extend l) (extend y) (extend_below l p) (extend_below y q) few
    ∙ ap (λ v. v +ℤ value_wide (extend y)) vl ∙ ap (λ v. value l +ℤ v) vy

high_value : (a x : ℕ) (o : Overflow) → a < 65536 → x < 65536 → unsigned_abs (value_wide a +ℤ value_wide x) + 1 < 32768
    → value_wide (sum (sum a x) (carry o)) ≡ (value_wide a +ℤ value_wide x) +ℤ value_wide (carry o)
high_value a x o p q few =
    let first : value_wide (sum a x) ≡ value_wide a +ℤ value_wide x = sum_value a x p q (omega arith) in
    let c = carry_small o in
    let small : unsigned_abs (value_wide (sum a x) +ℤ value_wide (carry o))
    < 32768 = rw first (near (value_wide a +ℤ value_wide x) (value_wide (carry o)) few c) in
    sum_value (sum a x) (carry o) (sum_below a x) (carry_below o) small ∙ ap (λ v. v +ℤ value_wide (carry o)) first
  where
    near : (v w : ℤ) → unsigned_abs v + 1 < 32768 → unsigned_abs w ≤ 1 → unsigned_abs (v +ℤ w) < 32768
    near v w p q = grind (arith, ints)

joined : (a b l o : ℤ) (low high : ℤ) (v w : ℤ) → low +ℤ o ≡ l → v *ℤ pos 16384 ≡ o → high ≡ a +ℤ v → w +ℤ b ≡ high
    → (b *ℤ pos 16384 +ℤ (w *ℤ pos 16384 +ℤ low)) ≡ a *ℤ pos 16384 +ℤ l
joined a b l o low high v w e1 e2 e3 e4 =
    let p = times a v high e3 in
    let q = times w b high (sym e4) in
    omega (arith, ints)

das_value : (a l x y : ℕ) → a < 65536 → l < 32768 → x < 32768 → y < 32768 → unsigned_abs (value_wide a +ℤ value x) + 1 < 32768
    → value_wide (carry (over (sum (sum a (extend x)) (carry (over (sum (extend l) (extend y))))))) *ℤ pos 268435456
    +ℤ double (value_wide (extend (correct (sum (sum a (extend x)) (carry (over (sum (extend l) (extend y))))))))
    (value_wide (extend (correct (sum (extend l) (extend y)))))
    ≡ double (value_wide a +ℤ value x) (value l +ℤ value y)
das_value a l x y pa pl px py few =
    let xl = sum (extend l) (extend y) in
    let o = over xl in
    let yh = sum (sum a (extend x)) (carry o) in
    let vx = value_extended x in
    let high : value_wide yh ≡ (value_wide a +ℤ value x) +ℤ value_wide (carry o) =
    high_value a (extend x) o pa (extend_below x px) (rw vx few) ∙ ap (λ v. (value_wide a +ℤ v) +ℤ value_wide (carry o)) vx in
    ap (λ v. v +ℤ double (value_wide (extend (correct yh))) (value_wide (extend (correct xl)))) (sym (weight_twice (over yh)))
    ∙ joined (value_wide a +ℤ value x) (weight (over yh)) (value l +ℤ value y) (weight o) (value_wide (extend (correct xl))) (value_wide yh)
    (value_wide (carry o)) (value_wide (extend (correct yh)))
    (low_value l y pl py) (carry_weight o) high (corrected_value yh (sum_below (sum a (extend x)) (carry o)))

doubled_value : (a l : ℕ) → a < 65536 → l < 32768 → unsigned_abs (value_wide a +ℤ value_wide a) + 1 < 32768
    → double (value_wide (sum (sum a a) (carry (over (sum (extend l) (extend l))))))
    (value_wide (extend (correct (sum (extend l) (extend l))))) ≡ double (value_wide a +ℤ value_wide a) (value l +ℤ value l)
doubled_value a l pa pl few =
    let o = over (sum (extend l) (extend l)) in
    let high = high_value a a o pa pa few in
    let p = times (value_wide a +ℤ value_wide a) (value_wide (carry o)) (value_wide (sum (sum a a) (carry o))) high in
    let q = low_value l l pl pl in
    let r = carry_weight o in
    omega (arith, ints)

-- ## DAS
fetched_places : (s : State) (k : ℕ) → place_in (fetched s) k ≡ place_in s k
unfolding fetched place_in superbank
fetched_places s k = on s.waiting_word
  where
    on : (o : Option ℕ) → place_in (record s { cells = fetched_cells s o; waiting_sum = None; waiting_word = None }) k ≡ place_in s k
    on (Some w) = refl
    on None = fetched_place s (following_address s) k

fetched_number : (s : State) (k : ℕ) → erasable_in (fetched s) k ≡ erasable_in s k
unfolding erasable_in
fetched_number s k = ap erasable_number (fetched_places s k)

-- the number of a plain place, by its address
number_by : (b c d e : Bool) (x y m n o p q r : ℕ) → b ≡ false → c ≡ false
    → erasable_number (cond b (Erasable x) (cond c (Erasable y) (cond d (Fixed m n) (cond e (Fixed o p) (Fixed q r))))) ≡ 0
number_by false false true e x y m n o p q r f g = refl
number_by false false false true x y m n o p q r f g = refl
number_by false false false false x y m n o p q r f g = refl
number_by true c d e x y m n o p q r f g = absurd (cc)
number_by false true d e x y m n o p q r f g = absurd (cc)

above : (a eb fb : ℕ) (super : Bool) → 1024 ≤ a → erasable_number (place a eb fb super) ≡ 0
unfolding place
above a eb fb super le =
    let one : nat_lt a 768 ≡ false = grind (arith, nat_tests) in
    let two : nat_lt a 1024 ≡ false = grind (arith, nat_tests) in
    number_by (nat_lt a 768) (nat_lt a 1024) (nat_lt a 2048) (nat_lt a 3072) a (eb * 256 + (a - 768)) (selected_bank fb super) (a - 1024) 2
    (a - 2048) 3 (a - 3072) one two

below : (a eb fb : ℕ) (super : Bool) → a < 768 → erasable_number (place a eb fb super) ≡ a
unfolding place
below a eb fb super lt = let one : nat_lt a 768 ≡ true = grind (arith, nat_tests) in rw one refl

between : (a eb fb : ℕ) (super : Bool) → 768 ≤ a → a < 1024 → erasable_number (place a eb fb super) ≡ eb * 256 + (a - 768)
unfolding place
between a eb fb super le lt =
    let one : nat_lt a 768 ≡ false = grind (arith, nat_tests) in
    let two : nat_lt a 1024 ≡ true = grind (arith, nat_tests) in
    rw (one, two) refl

plain_from : (p : ℕ) → is_plain p ≡ true → 8 ≤ p
plain_from p e = grind (arith, nat_tests)

-- the places of two addresses that follow one another
steps_apart : (j eb fb : ℕ) (super : Bool) → 8 ≤ erasable_number (place (suc j) eb fb super)
    → erasable_number (place j eb fb super) ≢ erasable_number (place (suc j) eb fb super)
steps_apart j eb fb super ge same =
    elim (cases_lt (suc j) 768) [
      | inl low ↦ (let x = below j eb fb super (omega arith) in let y = below (suc j) eb fb super low in omega arith)
      | inr high ↦ elim (cases_lt (suc j) 1024) [
        | inl within ↦ elim (cases_lt j 768) [
          | inl last ↦ (let x = below j eb fb super last in let y = between (suc j) eb fb super high within in omega arith)
          | inr in' ↦ (let x = between j eb fb super in' (omega arith) in let y = between (suc j) eb fb super high within in omega arith)
        ]
        | inr over' ↦ (let y = above (suc j) eb fb super over' in omega arith)
      ]
    ]

places_apart : (k eb fb : ℕ) (super : Bool) → 8 ≤ erasable_number (place k eb fb super)
    → erasable_number (place (first_of greatest_short k) eb fb super) ≢ erasable_number (place k eb fb super)
places_apart zero eb fb super ge = let y = below 0 eb fb super (omega arith) in absurd (omega arith)
places_apart (suc j) eb fb super ge =
    let before : first_of greatest_short (suc j) ≡ j = grind (arith, nat_tests) in
    rw before (steps_apart j eb fb super ge)

numbers_apart : (s : State) (k : ℕ) → is_plain (erasable_in s k) ≡ true → erasable_in s (first_of greatest_short k) ≢ erasable_in s k
unfolding erasable_in place_in
numbers_apart s k e = places_apart k (at s.cells erasable_bank) (at s.cells fixed_bank) (superbank s.cells) (plain_from (erasable_in s k) e)

-- what a plain place keeps
kept_plain : (p x : ℕ) → is_plain p ≡ true → kept p x ≡ correct x
unfolding kept
kept_plain p x e = grind (arith, nat_tests)

read_plain : (c : Cells) (p : ℕ) → is_plain p ≡ true → get c p ≡ extend (at c p)
unfolding get
read_plain c p e = grind (arith, nat_tests)

plain_back : (c : Cells) (p x : ℕ) → is_plain p ≡ true → get (put c p (extend (correct x))) p ≡ extend (correct x)
plain_back c p x e =
    let ge = plain_from p e in
    read_plain (put c p (extend (correct x))) p e
    ∙ ap extend (at-put c p (extend (correct x)) (λ e. omega arith) (λ e. omega arith) ∙ kept_plain p (extend (correct x)) e
    ∙ corrected_twice x)

abbrev low_sum : State → ℕ → ℕ
low_sum u k = sum (lower_of u) (get u.cells (erasable_in u k))

abbrev high_sum : State → ℕ → ℕ
high_sum u k = sum (sum (accumulator_of u) (get u.cells (erasable_in u (first_of greatest_short k)))) (carry (over (low_sum u k)))

-- the changes where the pair is not A and L, and where it is
abbrev das_stores : State → ℕ → List Change
das_stores u k =
    AtPlace (erasable_in u k) (extend (correct (low_sum u k)))
    ∷ AtPlace (erasable_in u (first_of greatest_short k)) (extend (correct (high_sum u k)))
    ∷ AtPlace lower_accumulator 0 ∷ AtPlace accumulator (carry (over (high_sum u k))) ∷ []

abbrev das_keeps : State → ℕ → List Change
das_keeps u k = AtPlace lower_accumulator (extend (correct (low_sum u k))) ∷ AtPlace accumulator (high_sum u k) ∷ []

chosen : (b : Bool) (xs ys : List Change) → b ≡ false → cond b xs ys ≡ ys
chosen false xs ys e = refl
chosen true xs ys e = absurd (cc)

chosen_first : (b : Bool) (xs ys : List Change) → b ≡ true → cond b xs ys ≡ xs
chosen_first true xs ys e = refl
chosen_first false xs ys e = absurd (cc)

das_is : (u : State) (k : ℕ) → (erasable_in u (first_of greatest_short k) == accumulator) ≡ false → das u k ≡ das_stores u k
unfolding das
das_is u k e = chosen (erasable_in u (first_of greatest_short k) == accumulator) (das_keeps u k) (das_stores u k) e

das_is_double : (u : State) (k : ℕ) → (erasable_in u (first_of greatest_short k) == accumulator) ≡ true → das u k ≡ das_keeps u k
unfolding das
das_is_double u k e = chosen_first (erasable_in u (first_of greatest_short k) == accumulator) (das_keeps u k) (das_stores u k) e

das_cells : (rope : Words) (u : State) (k : ℕ) (cs : List Change) → das u k ≡ cs
    → (executed rope u (record { instruction = Das; operand = k })).cells ≡ (changes u cs).cells
unfolding executed after
das_cells rope u k cs e = ap (λ (ds : List Change). (changes u ds).cells) e

-- four cells after they are stored
abbrev four : Cells → ℕ → ℕ → ℕ → ℕ → ℕ → Cells
four c p q x y z = put (put (put (put c p (extend (correct x))) q (extend (correct y))) lower_accumulator 0) accumulator z

four_l : (c : Cells) (p q x y z : ℕ) → get (four c p q x y z) lower_accumulator ≡ 0
four_l c p q x y z =
    let d = put (put c p (extend (correct x))) q (extend (correct y)) in
    get-put_other (put d lower_accumulator 0) accumulator z lower_accumulator (λ e. omega arith) (λ e. omega arith) (λ e. omega arith)
    ∙ stored_l d 0

four_q : (c : Cells) (p q x y z : ℕ) → is_plain q ≡ true → get (four c p q x y z) q ≡ extend (correct y)
four_q c p q x y z e =
    let ge = plain_from q e in
    let d = put (put c p (extend (correct x))) q (extend (correct y)) in
    get-put_other (put d lower_accumulator 0) accumulator z q (λ e. omega arith) (λ e. omega arith) (λ e. omega arith)
    ∙ get-put_other d lower_accumulator 0 q (λ e. omega arith) (λ e. omega arith) (λ e. omega arith)
    ∙ plain_back (put c p (extend (correct x))) q y e

four_p : (c : Cells) (p q x y z : ℕ) → is_plain p ≡ true → is_plain q ≡ true → q ≢ p → get (four c p q x y z) p ≡ extend (correct x)
four_p c p q x y z e f ne =
    let ge = plain_from p e in
    let ge' = plain_from q f in
    let d = put (put c p (extend (correct x))) q (extend (correct y)) in
    get-put_other (put d lower_accumulator 0) accumulator z p (λ e. omega arith) (λ e. omega arith) (λ e. omega arith)
    ∙ get-put_other d lower_accumulator 0 p (λ e. omega arith) (λ e. omega arith) (λ e. omega arith)
    ∙ get-put_other (put c p (extend (correct x))) q (extend (correct y)) p (λ e. omega arith) (λ e. omega arith) (λ e. ne (sym e))
    ∙ plain_back c p x e

pub adds_doubles : (scenario : Scenario) (s : State) (k a l x y : ℕ) → a < 65536 → l < 32768 → x < 32768 → y < 32768
    → AddsDoubles scenario s k a l x y
adds_doubles scenario s k a l x y pa pl px py e plain plain' ea el ex ey few =
    let rope = scenario.rope in
    let u = fetched s in
    let j = first_of greatest_short k in
    let first = erasable_in s j in
    let second = erasable_in s k in
    let is = step_is scenario s (record { instruction = Das; operand = k }) e in
    let fj : erasable_in u j ≡ first = fetched_number s j in
    let fk : erasable_in u k ≡ second = fetched_number s k in
    let gj = plain_from first plain in
    let gk = plain_from second plain' in
    let ne : first ≢ second = numbers_apart s k plain' in
    let no : (erasable_in u j == accumulator) ≡ false = rw fj (grind (arith, nat_tests)) in
    let a' : accumulator_of u ≡ a = fetched_get s accumulator (λ e. omega arith) (λ e. omega arith) ∙ ea in
    let l' : lower_of u ≡ extend l = fetched_get s lower_accumulator (λ e. omega arith) (λ e. omega arith) ∙ el in
    let x' : get u.cells (erasable_in u j) ≡ extend x = ap (get u.cells) fj ∙ fetched_get s first (λ e. omega arith) (λ e. omega arith)
    ∙ ex in
    let y' : get u.cells (erasable_in u k) ≡ extend y = ap (get u.cells) fk ∙ fetched_get s second (λ e. omega arith) (λ e. omega arith)
    ∙ ey in
    let xl : low_sum u k ≡ sum (extend l) (extend y) = ap (λ v. sum v (get u.cells (erasable_in u k))) l' ∙ ap (sum (extend l)) y' in
    let yh : high_sum u k ≡ sum (sum a (extend x)) (carry (over (sum (extend l) (extend y)))) =
    ap (λ v. sum (sum v (get u.cells (erasable_in u j))) (carry (over (low_sum u k)))) a'
    ∙ ap (λ v. sum (sum a v) (carry (over (low_sum u k)))) x' ∙ ap (λ v. sum (sum a (extend x)) (carry (over v))) xl in
    let cells : (next scenario s).0.cells ≡ four u.cells second first (low_sum u k) (high_sum u k) (carry (over (high_sum u k))) =
    ap (λ (t : State). t.cells) is ∙ das_cells rope u k (das_stores u k) (das_is u k no)
    ∙ ap (λ p. four u.cells p (erasable_in u j) (low_sum u k) (high_sum u k) (carry (over (high_sum u k)))) fk
    ∙ ap (λ q. four u.cells second q (low_sum u k) (high_sum u k) (carry (over (high_sum u k)))) fj in
    let z = carry (over (high_sum u k)) in
    let ra : accumulator_of (next scenario s).0 ≡ carry (over (sum (sum a (extend x)) (carry (over (sum (extend l) (extend y)))))) =
    ap (λ c. get c accumulator) cells ∙ get-put_accumulator
    (put (put (put u.cells second (extend (correct (low_sum u k)))) first (extend (correct (high_sum u k)))) lower_accumulator 0) z
    ∙ ap (λ v. carry (over v)) yh in
    let rq : get (next scenario s).0.cells first ≡ extend (correct (sum (sum a (extend x)) (carry (over (sum (extend l) (extend y)))))) =
    ap (λ c. get c first) cells ∙ four_q u.cells second first (low_sum u k) (high_sum u k) z plain ∙ ap (λ v. extend (correct v)) yh in
    let rp : get (next scenario s).0.cells second ≡ extend (correct (sum (extend l) (extend y))) =
    ap (λ c. get c second) cells ∙ four_p u.cells second first (low_sum u k) (high_sum u k) z plain' plain ne
    ∙ ap (λ v. extend (correct v)) xl in
    record {
      makes =
          ap (λ v. value_wide v *ℤ pos 268435456 +ℤ double (value_wide (get (next scenario s).0.cells first))
          (value_wide (get (next scenario s).0.cells second))) ra
          ∙ ap (λ v. value_wide (carry (over (sum (sum a (extend x)) (carry (over (sum (extend l) (extend y))))))) *ℤ pos 268435456 +ℤ
          double (value_wide v) (value_wide (get (next scenario s).0.cells second))) rq
          ∙ ap (λ v. value_wide (carry (over (sum (sum a (extend x)) (carry (over (sum (extend l) (extend y))))))) *ℤ pos 268435456 +ℤ
          double (value_wide (extend (correct (sum (sum a (extend x)) (carry (over (sum (extend l) (extend y)))))))) (value_wide v)) rp
          ∙ das_value a l x y pa pl px py few;
      carry = rw ra (carry_one_of (over (sum (sum a (extend x)) (carry (over (sum (extend l) (extend y)))))));
      lower = ap (λ c. get c lower_accumulator) cells ∙ four_l u.cells second first (low_sum u k) (high_sum u k) z;
    }

second_is_l : (s : State) → erasable_in s 1 ≡ 1
unfolding erasable_in place_in place
second_is_l s = refl

first_is_a : (s : State) → erasable_in s (first_of greatest_short 1) ≡ 0
unfolding erasable_in place_in place
first_is_a s = refl

pub doubles_by_value : (scenario : Scenario) (s : State) (a l : ℕ) → a < 65536 → l < 32768 → DoublesByValue scenario s a l
doubles_by_value scenario s a l pa pl e ea el few =
    let u = fetched s in
    let is = step_is scenario s (record { instruction = Das; operand = 1 }) e in
    let a' : accumulator_of u ≡ a = fetched_get s accumulator (λ e. omega arith) (λ e. omega arith) ∙ ea in
    let l' : lower_of u ≡ extend l = fetched_get s lower_accumulator (λ e. omega arith) (λ e. omega arith) ∙ el in
    let f0 : erasable_in u (first_of greatest_short 1) ≡ 0 = first_is_a u in
    let f1 : erasable_in u 1 ≡ 1 = second_is_l u in
    let yes : (erasable_in u (first_of greatest_short 1) == accumulator) ≡ true = rw f0 refl in
    let x' : get u.cells (erasable_in u (first_of greatest_short 1)) ≡ a = ap (get u.cells) f0 ∙ a' in
    let y' : get u.cells (erasable_in u 1) ≡ extend l = ap (get u.cells) f1 ∙ l' in
    let xl : low_sum u 1 ≡ sum (extend l) (extend l) = ap (λ v. sum v (get u.cells (erasable_in u 1))) l' ∙ ap (sum (extend l)) y' in
    let yh : high_sum u 1 ≡ sum (sum a a) (carry (over (sum (extend l) (extend l)))) =
    ap (λ v. sum (sum v (get u.cells (erasable_in u (first_of greatest_short 1)))) (carry (over (low_sum u 1)))) a'
    ∙ ap (λ v. sum (sum a v) (carry (over (low_sum u 1)))) x' ∙ ap (λ v. sum (sum a a) (carry (over v))) xl in
    let cells : (next scenario s).0.cells ≡ put (put u.cells lower_accumulator (extend (correct (low_sum u 1)))) accumulator (high_sum u 1)
    =
    ap (λ (t : State). t.cells) is ∙ das_cells scenario.rope u 1 (das_keeps u 1) (das_is_double u 1 yes) in
    let ra : accumulator_of (next scenario s).0 ≡ sum (sum a a) (carry (over (sum (extend l) (extend l)))) =
    ap (λ c. get c accumulator) cells ∙ get-put_accumulator (put u.cells lower_accumulator (extend (correct (low_sum u 1)))) (high_sum u 1)
    ∙ yh in
    let rl : lower_of (next scenario s).0 ≡ extend (correct (sum (extend l) (extend l))) =
    ap (λ c. get c lower_accumulator) cells
    ∙ get-put_other (put u.cells lower_accumulator (extend (correct (low_sum u 1)))) accumulator (high_sum u 1) lower_accumulator
    (λ e. omega arith) (λ e. omega arith) (λ e. omega arith)
    ∙ stored_l u.cells (extend (correct (low_sum u 1))) ∙ ap extend (corrected_twice (low_sum u 1)) ∙ ap (λ v. extend (correct v)) xl in
    ap (λ v. double (value_wide v) (value_wide (lower_of (next scenario s).0))) ra
    ∙ ap (λ v. double (value_wide (sum (sum a a) (carry (over (sum (extend l) (extend l)))))) (value_wide v)) rl
    ∙ doubled_value a l pa pl few

-- ## TIME2 and TIME1
pinc_value : (w : ℕ) → w < 32768 → w ≢ 16383 → value (pinc w).word ≡ value w +ℤ pos 1
pinc_value w lt ne = grind (arith, ints, nat_tests)

pinc_below : (w : ℕ) → (pinc w).word < 32768
pinc_below w = corrected_below (sum (extend w) 1)

pinc_quiet : (w : ℕ) → w < 32768 → w ≢ 16383 → (pinc w).carry ≡ carry'.No
pinc_quiet w lt ne = grind (arith, nat_tests)

-- a tick that carries nothing, and one that does
plain_tick : (s : State) (t1 : ℕ) (series : Option ℕ) → t1 < 32768 → t1 ≢ 16383 → get s.cells 0o25 ≡ extend t1
    → (take s (Count Time1 Pinc, series)).cells ≡ put s.cells 0o25 (extend (pinc t1).word)
unfolding take counted
plain_tick s t1 series lt ne e =
    let w : correct (get s.cells 0o25) ≡ t1 = ap correct e ∙ back t1 lt in
    let quiet : is_overflow (pinc t1).carry ≡ false = ap is_overflow (pinc_quiet t1 lt ne) in
    rw w (rw quiet refl)

carrying_tick : (s : State) (t2 : ℕ) (series : Option ℕ) → t2 < 32768 → get s.cells 0o25 ≡ 16383 → get s.cells 0o24 ≡ extend t2
    → (take s (Count Time1 Pinc, series)).cells ≡ put (put s.cells 0o25 0) 0o24 (extend (pinc t2).word)
unfolding take counted
carrying_tick s t2 series lt e f =
    let stays : get (put s.cells 0o25 0) 0o24 ≡ extend t2 = get-put_other s.cells 0o25 0 0o24 (omega arith) (omega arith) (omega arith)
    ∙ f in
    let w : correct (get (put s.cells 0o25 0) 0o24) ≡ t2 = ap correct stays ∙ back t2 lt in
    rw e (rw w refl)

-- what TIME2 and TIME1 then hold
plain_clock : (c : Cells) (t1 t2 : ℕ) → t1 < 32768 → t1 ≢ 16383 → get c 0o25 ≡ extend t1 → get c 0o24 ≡ extend t2
    → double (value_wide (get (put c 0o25 (extend (pinc t1).word)) 0o24)) (value_wide (get (put c 0o25 (extend (pinc t1).word)) 0o25))
    ≡ double (value_wide (get c 0o24)) (value_wide (get c 0o25)) +ℤ pos 1
plain_clock c t1 t2 lt ne e f =
    let x = extend (pinc t1).word in
    let two : get (put c 0o25 x) 0o24 ≡ get c 0o24 = get-put_other c 0o25 x 0o24 (omega arith) (omega arith) (omega arith) in
    let one : value_wide (get (put c 0o25 x) 0o25)
    ≡ value (pinc t1).word = ap value_wide (get-put_word c 0o25 x (omega arith) ∙ ap extend (back (pinc t1).word (pinc_below t1)))
    ∙ value_extended (pinc t1).word in
    let was : value_wide (get c 0o25) ≡ value t1 = ap value_wide e ∙ value_extended t1 in
    let more = pinc_value t1 lt ne in
    ap (λ v. double (value_wide v) (value_wide (get (put c 0o25 x) 0o25))) two ∙ omega (arith, ints)

carrying_two : (c : Cells) (t2 : ℕ) → value_wide (get (put (put c 0o25 0) 0o24 (extend (pinc t2).word)) 0o24) ≡ value (pinc t2).word
carrying_two c t2 = ap value_wide (get-put_word (put c 0o25 0) 0o24 (extend (pinc t2).word) (omega arith)
    ∙ ap extend (back (pinc t2).word (pinc_below t2))) ∙ value_extended (pinc t2).word

carrying_one : (c : Cells) (y : ℕ) → value_wide (get (put (put c 0o25 0) 0o24 y) 0o25) ≡ pos 0
carrying_one c y = ap value_wide (get-put_other (put c 0o25 0) 0o24 y 0o25 (omega arith) (omega arith) (omega arith)
    ∙ get-put_word c 0o25 0 (omega arith))

tick_sum : (v w : ℤ) → w ≡ v +ℤ pos 1 → double w (pos 0) ≡ double v (pos 16383) +ℤ pos 1
tick_sum v w e =
    let more = times v (pos 1) w e in
    let unit : pos 1 *ℤ pos 16384 ≡ pos 16384 = refl in
    omega (arith, ints)

carrying_clock : (c : Cells) (t2 : ℕ) → t2 < 32768 → t2 ≢ 16383 → get c 0o25 ≡ 16383 → get c 0o24 ≡ extend t2
    → double (value_wide (get (put (put c 0o25 0) 0o24 (extend (pinc t2).word)) 0o24))
    (value_wide (get (put (put c 0o25 0) 0o24 (extend (pinc t2).word)) 0o25))
    ≡ double (value_wide (get c 0o24)) (value_wide (get c 0o25)) +ℤ pos 1
carrying_clock c t2 lt ne e f =
    let two = carrying_two c t2 in
    let one = carrying_one c (extend (pinc t2).word) in
    let was : value_wide (get c 0o24) ≡ value t2 = ap value_wide f ∙ value_extended t2 in
    let full : value_wide (get c 0o25) ≡ pos 16383 = ap value_wide e in
    ap (λ v. double v (value_wide (get (put (put c 0o25 0) 0o24 (extend (pinc t2).word)) 0o25))) two
    ∙ ap (double (value (pinc t2).word)) one
    ∙ tick_sum (value t2) (value (pinc t2).word) (pinc_value t2 lt ne) ∙ ap (λ v. double v (pos 16383) +ℤ pos 1) (sym was)
    ∙ ap (λ v. double (value_wide (get c 0o24)) v +ℤ pos 1) (sym full)

is_full : (t : ℕ) → t < 32768 → extend t ≡ 16383 → t ≡ 16383
is_full t lt e = grind (arith, nat_tests)

pub ticks_as_one : (scenario : Scenario) (s : State) (t1 t2 : ℕ) (series : Option ℕ) → t1 < 32768 → t2 < 32768
    → TicksAsOne scenario s t1 t2 series
ticks_as_one scenario s t1 t2 series l1 l2 e e1 e2 =
    let given : Input × Option ℕ = (Count Time1 Pinc, series) in
    let t = (next scenario s).0 in
    let is : t.cells ≡ (take s given).cells = ap (λ (x : State × Option Output). x.0.cells) (by_input scenario s given e) in
    record {
      on = λ not_full. elim (cases_eq t1 16383) [
        | inl full ↦ (let at' : get s.cells 0o25 ≡ 16383 = e1 ∙ ap extend full in
            let ne : t2 ≢ 16383 = λ both. absurd (let a : (get s.cells 0o25 == 16383 && get s.cells 0o24 == 16383)
            ≡ true = rw (at', e2, both) refl in cc) in
            ap (λ c. double (value_wide (get c 0o24)) (value_wide (get c 0o25))) (is ∙ carrying_tick s t2 series l2 at' e2)
            ∙ carrying_clock s.cells t2 l2 ne at' e2)
        | inr ne ↦ ap (λ c. double (value_wide (get c 0o24)) (value_wide (get c 0o25))) (is ∙ plain_tick s t1 series l1 ne e1)
            ∙ plain_clock s.cells t1 t2 l1 ne e1 e2
      ];
      again = λ full full'.
          let two : t2 ≡ 16383 = is_full t2 l2 (sym e2 ∙ full') in
          let word : (pinc t2).word ≡ 0 = rw two refl in
          ap (λ c. double (value_wide (get c 0o24)) (value_wide (get c 0o25))) (is ∙ carrying_tick s t2 series l2 full e2)
          ∙ ap (λ v. double v (value_wide (get (put (put s.cells 0o25 0) 0o24 (extend (pinc t2).word)) 0o25)))
          (carrying_two s.cells t2 ∙ ap value word)
          ∙ ap (λ v. double (pos 0) v) (carrying_one s.cells (extend (pinc t2).word));
    }
