-- A word that is no TC of an address of fixed memory makes no call, and none is over where its low bits are not marked.
use Rattle.std.proofs.Common.{◌≡◌, ◌≢◌, ◌⊎◌, ℕ, ◌+◌, ◌-◌, ◌*◌, ◌%◌, ◌<◌, ◌≤◌, ◌==◌, ◌&&◌, ◌||◌, Bool, true}
use Rattle.std.proofs.Common.{false, not, zero, suc, List, [], ◌∷◌, length, get_or, set}
use Rattle.std.proofs.Common.{None, refl, sym, ap, ◌∙◌, arith, inl, inr, find, unwrap_or, ⊎_elim}
use Rattle.std.specs.Prelude.{codes, nat_le, nat_lt, remove, take, slice_get, if◌then◌else◌, ◌++◌}
use Rattle.std.specs.List.{list_all, list_any}
use Rattle.std.proofs.lemmas.Bool.{cases_Bool, cases_eq}
use Rattle.std.proofs.lemmas.Bool.Decides.{nat_tests}
use Rattle.std.proofs.lemmas.List.{get_or-set_same, get_or-set_other}
use Rattle.std.proofs.lemmas.List.Sums.{position_or_len_is}
use Rattle.agc_text.specs.Tables.{same_name}
use Rattle.space.specs.Places.{place, selected_bank, same_place}
use Rattle.space.specs.declared.place.Linear.{Linear}
use Rattle.space.specs.declared.place.Linear.TheVariants.{Erasable, Fixed}
use Rattle.cpu.specs.declared.next_step.Fetched.{Fetched}
use Rattle.cpu.specs.declared.next_step.NextStep.{NextStep}
use Rattle.cpu.specs.declared.next_step.NextStep.TheVariants.{Takes, Enters, Executes}
use Rattle.cpu.specs.Codes.{Range, basic_rows, code_of, extracode_rows, no_range, row_of, serves}
use Rattle.cpu.specs.Effects.{next_address, place_in}
use Rattle.cpu.specs.State.{State}
use Rattle.calls.specs.Calls.{called_place, is_call, is_fixed, is_tc, leads_on}
use Rattle.calls.specs.Waiting.{standing_place}
use Rattle.delays.specs.declared.call.Call.{Call}
use Rattle.delays.specs.declared.mark.Mark.{Mark}
use Rattle.delays.specs.Routines.{call_in, depth, returned, without}
use Rattle.delays.specs.ShortTests.{AreMarked, low_bits, may_call}
use Rattle.delays.specs.Stretches.{no_mark}

-- ## Words
abbrev is_tc_row : Range → Bool
is_tc_row r = same_name (row_of r.instruction).name (codes "TC")

-- a row of TC has small words alone
abbrev is_small : Range → Bool
is_small r = not (is_tc_row r) || nat_lt r.greatest 0o10000

row_apart : (least greatest word : ℕ) → nat_lt greatest 0o10000 ≡ true → (nat_le least word && nat_le word greatest) ≡ true → 0o10000 ≤ word
    → ⊥
row_apart least greatest word small serves large = grind (arith, nat_tests)

small_row : (tc : Bool) (least greatest word : ℕ) → (not tc || nat_lt greatest 0o10000) ≡ true
    → (nat_le least word && nat_le word greatest) ≡ true → 0o10000 ≤ word → tc ≡ false
small_row false least greatest word small serves large = refl
small_row true least greatest word small serves large = absurd (row_apart least greatest word small serves large)

large_by : (rows : List Range) (word : ℕ) → list_all is_small rows ≡ true → 0o10000 ≤ word
    → is_tc_row (unwrap_or (find (serves word) rows) no_range) ≡ false
large_by [] word small large = refl
large_by (r ∷ rs) word small large = elim (cases_Bool (is_small r)) [
  | inl good ↦ elim (cases_Bool (serves word r)) [
    | inl here ↦ rw here (small_row (is_tc_row r) r.least r.greatest word good here large)
    | inr passed ↦ (let rest : list_all is_small rs ≡ true = rw good at small in rw passed (large_by rs word rest large))
  ]
  | inr bad ↦ absurd (let never : false ≡ true = rw bad at small in cc)
]

basic_small : list_all is_small basic_rows ≡ true
unfolding basic_rows
basic_small = refl

large_word : (word : ℕ) → 0o10000 ≤ word → same_name (row_of (code_of false word).instruction).name (codes "TC") ≡ false
unfolding code_of
large_word word large = large_by basic_rows word basic_small large

neither : (b c : Bool) → (b || c) ≡ false → (b ≡ false) × (c ≡ false)
neither true c e = absurd (cc)
neither false c e = (refl, e)

none_by : (rows : List Range) (word : ℕ) → list_any is_tc_row rows ≡ false
    → is_tc_row (unwrap_or (find (serves word) rows) no_range) ≡ false
none_by [] word none = refl
none_by (r ∷ rs) word none =
    let both = neither (is_tc_row r) (list_any is_tc_row rs) none in
    elim (cases_Bool (serves word r)) [
      | inl here ↦ rw here both.0
      | inr passed ↦ rw passed (none_by rs word both.1)
    ]

no_extracode : (word : ℕ) → same_name (row_of (code_of true word).instruction).name (codes "TC") ≡ false
unfolding code_of extracode_rows
no_extracode word = none_by extracode_rows word refl

-- TC of an address of erasable memory calls nothing
below : (k n : ℕ) → k < n → nat_lt k n ≡ true
below k n lt = grind (arith, nat_tests)

in_erasable : (k eb fb : ℕ) (sup : Bool) → k < 0o2000 → is_fixed (place k eb fb sup) ≡ false
unfolding place
in_erasable k eb fb sup lt = elim (cases_Bool (nat_lt k 0o1400)) [
  | inl here ↦ rw here refl
  | inr passed ↦ rw (passed, below k 0o2000 lt) refl
]

not_fixed : (a b c : Bool) → b ≡ false → (a && b && c) ≡ false
not_fixed true b c e = rw e refl
not_fixed false b c e = refl

not_second : (a b : Bool) → b ≡ false → (a && b) ≡ false
not_second true b e = e
not_second false b e = refl

not_first : (a b : Bool) → a ≡ false → (a && b) ≡ false
not_first a b e = rw e refl

small_word : (s : State) (f : Fetched) → f.word < 0o2000 → is_call s f ≡ false
unfolding place_in
small_word s f lt =
    let k = f.word % 0o10000 in
    let small : k < 0o2000 = omega (arith, lt) in
    not_second (is_tc f) (leads_on (standing_place s) (called_place s f))
    (not_fixed (is_fixed (standing_place s)) (is_fixed (called_place s f)) (not (same_place (called_place s f) (standing_place s)))
    (in_erasable k _ _ _ small))

no_tc : (s : State) (f : Fetched) → is_tc f ≡ false → is_call s f ≡ false
no_tc s f e = not_first (is_tc f) (leads_on (standing_place s) (called_place s f)) e

at_least : (k n : ℕ) → nat_lt k n ≡ false → n ≤ k
at_least k n e = grind (arith, nat_tests)

less : (k n : ℕ) → nat_le n k ≡ false → k < n
less k n e = grind (arith, nat_tests)

-- of what the test of a word is made
parts : (extra : Bool) (word : ℕ) → (not extra && (nat_le 0o2000 word && nat_lt word 0o10000)) ≡ false → extra ≡ false
    → (word < 0o2000) ⊎ (0o10000 ≤ word)
parts true word e basic = absurd (cc)
parts false word e basic =
    elim (cases_Bool (nat_le 0o2000 word)) [
      | inl large ↦ inr (let rest : nat_lt word 0o10000 ≡ false = rw large at e in at_least word 0o10000 rest)
      | inr small ↦ inl (less word 0o2000 small)
    ]

no_call : (s : State) (f : Fetched) → (not f.extra && (nat_le 0o2000 f.word && nat_lt f.word 0o10000)) ≡ false → is_call s f ≡ false
no_call s f e = elim (cases_Bool f.extra) [
  | inl extra ↦ no_tc s f (rw extra (no_extracode f.word))
  | inr basic ↦ elim (parts f.extra f.word e basic) [
    | inl small ↦ small_word s f small
    | inr large ↦ no_tc s f (rw basic (large_word f.word large))
  ]
]

pub none_made : (step : NextStep) → may_call step ≡ false → (s : State) (before : Mark) → call_in s step before ≡ None
none_made (Takes input) e s before = refl
none_made (Enters k) e s before = refl
none_made (Executes f) e s before = rw (not_second (not s.inside) (is_call s f) (no_call s f e)) refl

-- ## Low bits
not_true : (b : Bool) → (b ≡ true → ⊥) → b ≡ false
not_true false h = refl
not_true true h = absurd (h refl)

both : (a b : Bool) → (a && b) ≡ true → (a ≡ true) × (b ≡ true)
both true b e = (refl, e)
both false b e = absurd (cc)

equal : (a b : ℕ) → (a == b) ≡ true → a ≡ b
equal a b e = grind (arith, nat_tests)

-- an address leads to a place with its low bits
lead_by : (a b c d : Bool) (k eb bank : ℕ) → (a ≡ false → 0o1400 ≤ k) → (b ≡ false → 0o2000 ≤ k) → (c ≡ false → 0o4000 ≤ k)
    → (d ≡ false → 0o6000 ≤ k)
    → low_bits (if a then Erasable k else (if b then Erasable (eb * 0o400 + (k - 0o1400)) else
    (if c then Fixed bank (k - 0o2000) else (if d then Fixed 2 (k - 0o4000) else Fixed 3 (k - 0o6000))))) ≡ k % 0o400
lead_by true b c d k eb bank h i j l = refl
lead_by false true c d k eb bank h i j l = let some : 0o1400 ≤ k = h refl in omega (arith, some)
lead_by false false true d k eb bank h i j l = let some : 0o2000 ≤ k = i refl in omega (arith, some)
lead_by false false false true k eb bank h i j l = let some : 0o4000 ≤ k = j refl in omega (arith, some)
lead_by false false false false k eb bank h i j l = let some : 0o6000 ≤ k = l refl in omega (arith, some)

leads : (k eb fb : ℕ) (sup : Bool) → low_bits (place k eb fb sup) ≡ k % 0o400
unfolding place
leads k eb fb sup =
    lead_by (nat_lt k 0o1400) (nat_lt k 0o2000) (nat_lt k 0o4000) (nat_lt k 0o6000) k eb (selected_bank fb sup) (at_least k 0o1400)
    (at_least k 0o2000) (at_least k 0o4000) (at_least k 0o6000)

leads_in : (s : State) → low_bits (place_in s (next_address s)) ≡ next_address s % 0o400
unfolding place_in
leads_in s = leads (next_address s) _ _ _

-- one place has the low bits of the other
same_low : (p q : Linear) → same_place p q ≡ true → low_bits p ≡ low_bits q
same_low (Erasable p) (Erasable q) e = ap (λ n. n % 0o400) (equal p q e)
same_low (Erasable p) (Fixed bank offset) e = absurd (let bad : false ≡ true = e in cc)
same_low (Fixed bank offset) (Erasable q) e = absurd (let bad : false ≡ true = e in cc)
same_low (Fixed bank offset) (Fixed b o) e = ap (λ n. n % 0o400) (equal offset o (both (bank == b) (offset == o) e).1)

abbrev some_call : Linear → Call
some_call p = record { back = p; to = p; mark = no_mark }

-- no call returns to a place that is not marked
pub all_before : (marked : List Bool) (calls : List Call) (p : Linear) → AreMarked marked calls → get_or marked (low_bits p) false ≡ false
    → depth p calls ≡ length calls
all_before marked calls p are none =
    let d = some_call p in
    position_or_len_is (λ (c : Call). same_place p c.back) calls (length calls) d (omega arith)
    (λ k h. not_true (same_place p (get_or calls k d).back) (λ same.
    let bad : true ≡ false = sym (are k d h) ∙ ap (λ (n : ℕ). get_or marked n false) (sym (same_low p (get_or calls k d).back same))
    ∙ none in cc))
    (λ h. absurd (omega (arith, h)))

none_past : (calls : List Call) → slice_get calls (length calls) ≡ None
none_past [] = refl
none_past (c ∷ cs) = none_past cs

all_taken : (calls : List Call) → take (length calls) calls ≡ calls
all_taken [] = refl
all_taken (c ∷ cs) = ap (λ (rest : List Call). c ∷ rest) (all_taken cs)

unmarked : (s : State) (marked : List Bool) (calls : List Call) → AreMarked marked calls
    → get_or marked (next_address s % 0o400) false ≡ false
    → depth (place_in s (next_address s)) calls ≡ length calls
unmarked s marked calls are none = all_before marked calls (place_in s (next_address s)) are
    (ap (λ (n : ℕ). get_or marked n false) (leads_in s) ∙ none)

pub none_returned : (s : State) (marked : List Bool) (calls : List Call) → AreMarked marked calls
    → get_or marked (next_address s % 0o400) false ≡ false
    → returned (place_in s (next_address s)) calls ≡ None
none_returned s marked calls are none = ap (λ (n : ℕ). slice_get calls n) (unmarked s marked calls are none) ∙ none_past calls

pub all_left : (s : State) (marked : List Bool) (calls : List Call) → AreMarked marked calls
    → get_or marked (next_address s % 0o400) false ≡ false
    → without (place_in s (next_address s)) calls ≡ calls
all_left s marked calls are none = ap (λ (n : ℕ). take n calls) (unmarked s marked calls are none) ∙ all_taken calls

-- one call more is marked
pub marked_more : (marked : List Bool) (calls : List Call) (n low : ℕ) → low < length marked
    → ((k : ℕ) (d : Call) → k < n → get_or marked (low_bits (get_or calls k d).back) false ≡ true)
    → ((d : Call) → low ≡ low_bits (get_or calls n d).back) → (k : ℕ) (d : Call) → k < n + 1
    → get_or (set marked low true) (low_bits (get_or calls k d).back) false ≡ true
marked_more marked calls n low within before here k d lt =
    let it = low_bits (get_or calls k d).back in
    ⊎_elim
    (λ (e : it ≡ low). ap (λ (m : ℕ). get_or (set marked low true) m false) e ∙ get_or-set_same marked low true false within)
    (λ (other : it ≢ low). get_or-set_other marked low it true false other ∙ before k d
    (last k n lt (λ (same : k ≡ n). other (ap (λ (j : ℕ). low_bits (get_or calls j d).back) same ∙ sym (here d)))))
    (cases_eq it low)
  where
    last : (k n : ℕ) → k < n + 1 → k ≢ n → k < n
    last k n lt apart = omega (arith, lt, apart)

-- of marked calls the first are marked, and those after the first one
taken_are : (calls : List Call) (n k : ℕ) (d : Call) → k < length (take n calls)
    → (get_or (take n calls) k d ≡ get_or calls k d) × (k < length calls)
taken_are calls zero k d lt = absurd (omega (arith, lt))
taken_are [] (suc n) k d lt = absurd (omega (arith, lt))
taken_are (c ∷ cs) (suc n) zero d lt = (refl, omega arith)
taken_are (c ∷ cs) (suc n) (suc k) d lt = let rest = taken_are cs n k d (omega (arith, lt)) in (rest.0, omega (arith, rest.1))

pub marked_taken : (marked : List Bool) (calls : List Call) (n : ℕ) → AreMarked marked calls → AreMarked marked (take n calls)
marked_taken marked calls n are k d lt =
    let rest = taken_are calls n k d lt in
    ap (λ (c : Call). get_or marked (low_bits c.back) false) rest.0 ∙ are k d rest.1

pub marked_rest : (marked : List Bool) (calls : List Call) → AreMarked marked calls → AreMarked marked (remove calls 0)
marked_rest marked [] are k d lt = absurd (omega (arith, lt))
marked_rest marked (c ∷ cs) are k d lt = are (suc k) d (omega (arith, lt))

-- one more is marked by its own mark
at_front : (calls : List Call) (c : Call) (k : ℕ) (d : Call) → k < length calls → get_or (calls ++ c ∷ []) k d ≡ get_or calls k d
at_front [] c k d lt = absurd (omega (arith, lt))
at_front (e ∷ es) c zero d lt = refl
at_front (e ∷ es) c (suc k) d lt = at_front es c k d (omega (arith, lt))

at_end : (calls : List Call) (c d : Call) → get_or (calls ++ c ∷ []) (length calls) d ≡ c
at_end [] c d = refl
at_end (e ∷ es) c d = at_end es c d

length_one : (calls : List Call) (c : Call) → length (calls ++ c ∷ []) ≡ length calls + 1
length_one [] c = refl
length_one (e ∷ es) c = let rest = length_one es c in omega (arith, rest)

pub marked_pushed : (marked : List Bool) (calls : List Call) (c : Call) (low : ℕ) → low < length marked → low ≡ low_bits c.back
    → AreMarked marked calls → AreMarked (set marked low true) (calls ++ c ∷ [])
marked_pushed marked calls c low within is are k d lt =
    marked_more marked (calls ++ c ∷ []) (length calls) low within
    (λ j e h. ap (λ (x : Call). get_or marked (low_bits x.back) false) (at_front calls c j e h) ∙ are j e h)
    (λ e. is ∙ ap (λ (x : Call). low_bits x.back) (sym (at_end calls c e))) k d
    (let long = length_one calls c in omega (arith, lt, long))
