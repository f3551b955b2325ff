-- What a step does not write stays the same.
use Rattle.std.proofs.Common.{◌≡◌, ◌≢◌, ℕ, zero, suc, ◌+◌, ◌-◌, ◌<◌, ◌≤◌, ◌&&◌, not, true, false, Bool, List, [], ◌∷◌}
use Rattle.std.proofs.Common.{Option, Some, None, ltb, eqb, drop, length, get_or, refl, arith, ap, ◌∙◌, inl, inr}
use Rattle.std.specs.Option.{option_map, option_or}
use Rattle.std.proofs.lemmas.Bool.{cases_Bool}
use Rattle.std.proofs.lemmas.List.{drop_all, drop_more}
use Rattle.std.proofs.lemmas.Bool.Decides.{nat_tests}
use Rattle.space.proofs.CellLaws.{same_get}
use Rattle.space.specs.Cells.{Cells, at, both_banks, channel_cell, erasable_count, get_channel, is_cell}
use Rattle.space.specs.Cells.{lower_accumulator_channel, return_address_channel}
use Rattle.cpu.specs.Links.{is_in, link, targets}
use Rattle.cpu.specs.Next.{next}
use Rattle.cpu.specs.State.{Scenario, State}
use Rattle.cpu.proofs.Leaving.{leaves_rest}
use Rattle.differ.specs.States.{apart_after, apart_in, cell_apart, cell_count, first_cell, is_apart, reading, same_cells}

same_channel : (s t : Cells) (n : ℕ) → n ≢ lower_accumulator_channel → n ≢ return_address_channel
    → at t (channel_cell n) ≡ at s (channel_cell n) → get_channel t n ≡ get_channel s n
unfolding get_channel
same_channel s t n low back h = grind (arith, nat_tests)

no_banks : (c : ℕ) → is_cell c ≡ true → c ≢ both_banks
unfolding is_cell
no_banks c is = grind (arith, nat_tests, is)

no_low : (c : ℕ) → erasable_count ≤ c → is_cell c ≡ true → c - erasable_count ≢ lower_accumulator_channel
unfolding is_cell
no_low c le is = grind (arith, nat_tests, is, le)

no_back : (c : ℕ) → erasable_count ≤ c → is_cell c ≡ true → c - erasable_count ≢ return_address_channel
unfolding is_cell
no_back c le is = grind (arith, nat_tests, is, le)

-- what is read at a cell comes of it alone
pub reading_kept : (s t : Cells) (c : ℕ) → is_cell c ≡ true → at t c ≡ at s c → reading t c ≡ reading s c
unfolding reading
reading_kept s t c is same = elim (cases_Bool (ltb c erasable_count)) [
  | inl low ↦ rw low (same_get t s c (no_banks c is) same)
  | inr high ↦
      let le : erasable_count ≤ c = grind (arith, nat_tests, high) in
      let back : channel_cell (c - erasable_count) ≡ c = omega (arith, le) in
      rw high (same_channel s t (c - erasable_count) (no_low c le is) (no_back c le is) (rw back same))
]

-- none of some cells
among : (s t : Cells) (c : ℕ) (cs : List ℕ) → is_in c cs ≡ true → same_cells s t cs ≡ true → is_apart s t c ≡ false
among s t c [] is same = absurd (grind (arith, is))
among s t c (d ∷ ds) is same = elim (cases_Bool (is_apart s t d)) [
  | inl apart ↦ absurd (grind (arith, same, apart))
  | inr alike ↦ elim (cases_Bool (eqb c d)) [
    | inl here ↦ let e : c ≡ d = grind (arith, nat_tests, here) in rw e alike
    | inr there ↦ among s t c ds (grind (arith, is, there)) (grind (arith, same, alike))
  ]
]

some_not : (o : Option ℕ) (n : ℕ) → option_or o (Some n) ≡ None → ⊥
some_not None n none = absurd (grind (arith, none))
some_not (Some c) n none = absurd (grind (arith, none))

first_none : (o : Option ℕ) → option_or o None ≡ None → o ≡ None
first_none None none = refl
first_none (Some c) none = none

-- none below n, one by one
each_alike : (s t : Cells) (n c : ℕ) → first_cell s t n ≡ None → c < n → is_apart s t c ≡ false
unfolding first_cell
each_alike s t zero c none lt = absurd (omega (arith, lt))
each_alike s t (suc n) c none lt = elim (cases_Bool (is_apart s t n)) [
  | inl apart ↦ absurd (some_not (first_cell s t n) n (rw apart at none))
  | inr alike ↦ elim (cases_Bool (eqb c n)) [
    | inl here ↦ let e : c ≡ n = grind (arith, nat_tests, here) in rw e alike
    | inr there ↦ each_alike s t n c (first_none (first_cell s t n) (rw alike at none)) (grind (arith, nat_tests, lt, there))
  ]
]

all_alike : (s t : Cells) (n : ℕ) → ((c : ℕ) → c < n → is_apart s t c ≡ false) → first_cell s t n ≡ None
unfolding first_cell
all_alike s t zero each = refl
all_alike s t (suc n) each =
    let before = all_alike s t n (λ c lt. each c (omega (arith, lt))) in
    rw (before, each n (omega arith)) refl

same_apart : (s t u v : Cells) (c : ℕ) → (is_cell c ≡ true → reading u c ≡ reading s c) → (is_cell c ≡ true → reading v c ≡ reading t c)
    → is_apart s t c ≡ false → is_apart u v c ≡ false
same_apart s t u v c one other before = elim (cases_Bool (is_cell c)) [
  | inl is ↦ rw (one is, other is) before
  | inr away ↦ rw away refl
]

-- a cell that was the same is so after a step of each, where none of those that they write is another
stays : (one other : Scenario) (s t : State) (c : ℕ) → is_apart s.cells t.cells c ≡ false
    → same_cells (next one s).0.cells (next other t).0.cells (targets (link one s)) ≡ true
    → same_cells (next one s).0.cells (next other t).0.cells (targets (link other t)) ≡ true
    → is_apart (next one s).0.cells (next other t).0.cells c ≡ false
stays one other s t c before here there = elim (cases_Bool (is_in c (targets (link one s)))) [
  | inl written ↦ among (next one s).0.cells (next other t).0.cells c (targets (link one s)) written here
  | inr left ↦ elim (cases_Bool (is_in c (targets (link other t)))) [
    | inl written ↦ among (next one s).0.cells (next other t).0.cells c (targets (link other t)) written there
    | inr too ↦ same_apart s.cells t.cells (next one s).0.cells (next other t).0.cells c
        (λ is. reading_kept s.cells (next one s).0.cells c is (leaves_rest one s c left))
        (λ is. reading_kept t.cells (next other t).0.cells c is (leaves_rest other t c too)) before
  ]
]

pub none_parts : (one other : Scenario) (s t : State) → first_cell s.cells t.cells cell_count ≡ None
    → same_cells (next one s).0.cells (next other t).0.cells (targets (link one s)) ≡ true
    → same_cells (next one s).0.cells (next other t).0.cells (targets (link other t)) ≡ true
    → first_cell (next one s).0.cells (next other t).0.cells cell_count ≡ None
none_parts one other s t before here there =
    all_alike (next one s).0.cells (next other t).0.cells cell_count
    (λ c lt. stays one other s t c (each_alike s.cells t.cells cell_count c before lt) here there)

and_no : (b : Bool) → (b && not true) ≡ false
and_no true = refl
and_no false = refl

same_self : (n : ℕ) → eqb n n ≡ true
same_self n = grind (arith, nat_tests)

self_alike : (s : Cells) (c : ℕ) → is_apart s s c ≡ false
self_alike s c = rw (same_self (reading s c)) (and_no (is_cell c))

pub none_at_start : (s t : Cells) → s ≡ t → first_cell s t cell_count ≡ None
none_at_start s t same = rw same (all_alike t t cell_count (λ c lt. self_alike t c))

-- so it is enough to look at those
pub enough : (one other : Scenario) (s t : State) (step : ℕ) → first_cell s.cells t.cells cell_count ≡ None
    → apart_in step (next one s).0.cells (next other t).0.cells (targets (link one s)) (targets (link other t))
    ≡ apart_after step (next one s).0.cells (next other t).0.cells
enough one other s t step before = elim (cases_Bool (same_cells (next one s).0.cells (next other t).0.cells (targets (link one s)))) [
  | inl here ↦ elim (cases_Bool (same_cells (next one s).0.cells (next other t).0.cells (targets (link other t)))) [
    | inl there ↦ rw (here, there, none_parts one other s t before here there) refl
    | inr there ↦ rw (here, there) refl
  ]
  | inr here ↦ rw here refl
]

-- where none is told, none is apart
told_by : (step : ℕ) (here there : Cells) (o : Option ℕ) → option_map (cell_apart step here there) o ≡ None → o ≡ None
told_by step here there None none = refl
told_by step here there (Some c) none = absurd (grind (arith, none))

pub none_told : (step : ℕ) (here there : Cells) → apart_after step here there ≡ None → first_cell here there cell_count ≡ None
none_told step here there none = told_by step here there (first_cell here there cell_count) none

-- cells, one by one
alike_first : (h t : Cells) (c : ℕ) (cs : List ℕ) → is_apart h t c ≡ false → same_cells h t (c ∷ cs) ≡ same_cells h t cs
alike_first h t c cs alike = rw alike refl

apart_first : (h t : Cells) (c : ℕ) (cs : List ℕ) → is_apart h t c ≡ true → same_cells h t (c ∷ cs) ≡ false
apart_first h t c cs apart = rw apart refl

pub same_more : (h t : Cells) (cs : List ℕ) (i c : ℕ) → i < length cs → get_or cs i c ≡ c → is_apart h t c ≡ false
    → same_cells h t (drop i cs) ≡ same_cells h t (drop (i + 1) cs)
same_more h t cs i c within here alike =
    let first : drop i cs ≡ c ∷ drop (i + 1) cs = drop_more cs i c within ∙ ap (λ w. w ∷ drop (i + 1) cs) here in
    rw first (alike_first h t c (drop (i + 1) cs) alike)

pub same_not : (h t : Cells) (cs : List ℕ) (i c : ℕ) → i < length cs → get_or cs i c ≡ c → is_apart h t c ≡ true
    → same_cells h t (drop i cs) ≡ false
same_not h t cs i c within here apart =
    let first : drop i cs ≡ c ∷ drop (i + 1) cs = drop_more cs i c within ∙ ap (λ w. w ∷ drop (i + 1) cs) here in
    rw first (apart_first h t c (drop (i + 1) cs) apart)

pub same_end : (h t : Cells) (cs : List ℕ) (i : ℕ) → length cs ≤ i → same_cells h t (drop i cs) ≡ true
same_end h t cs i past = rw (drop_all i cs past) refl
