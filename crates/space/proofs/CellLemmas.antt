-- The map of cells that a pointwise function gives.
use Rattle.std.proofs.Common.{◌≡◌, ℕ, zero, suc, replicate, ◌+◌, ◌-◌, ◌≤◌, ◌<◌, ◌≢◌, Bool, true, false, cond, ◌&&◌, eqb, ltb, leb}
use Rattle.std.proofs.Common.{List, ◌∷◌, map, filter, Option, Some, None, unwrap_or, get_or, refl, sym, ap, ◌∙◌, arith, ⊎_elim}
use Rattle.std.proofs.lemmas.Bool.Decides.{nat_tests}
use Rattle.std.proofs.lemmas.Bool.{both_ways, cases_eq, cases_lt}
use Rattle.std.proofs.lemmas.List.{length-replicate, get_or-replicate, get_or_past}
use Rattle.std.specs.List.{range_with_len}
use Rattle.std.specs.Ordering.{nat_cmp, eq_by_cmp}
use Rattle.std.specs.Cmp.{nat_cmp_total}
use Rattle.std.specs.FinMap.{find, get-from_entries, get-insert, same_map, nat_cmp-IsAntisymmetric}
use Rattle.std.specs.FinMap as fin
use Rattle.space.specs.Cells.{is_cell, cells_below, Cells, cells_by, at, zero_cells, superbank}
use Rattle.space.specs.Stored.{stored, cell_limit, IsStored, number_by, held_at, superbank_in, selected_by, Holds}
use Rattle.space.specs.Places.{selected_bank}
use Rattle.words.specs.Numbers.{extend, correct}

-- what stands at a place of which the registers or erasable memory hold another number
pub register_here : (r : List ℕ) (b : List ℕ) (c x : ℕ) → c < 8 → get_or r c 0 ≡ x → held_at r b c ≡ x
register_here r b c x lt here = grind (arith, nat_tests)

pub register_others : (r q : List ℕ) (b : List ℕ) (c : ℕ) → ((k : ℕ) → k ≢ c → get_or q k 0 ≡ get_or r k 0) → (k : ℕ) → k ≢ c
    → held_at q b k ≡ held_at r b k
register_others r q b c others k ne = ap (λ x. cond (ltb k 8) x (get_or b k 0)) (others k ne)

pub word_here : (r : List ℕ) (b : List ℕ) (c x : ℕ) → 8 ≤ c → get_or b c 0 ≡ x → held_at r b c ≡ x
word_here r b c x ge here = let above : ltb c 8
    ≡ false = grind (arith, nat_tests) in ap (λ t. cond t (get_or r c 0) (get_or b c 0)) above ∙ here

pub word_others : (r : List ℕ) (b d : List ℕ) (c : ℕ) → ((k : ℕ) → k ≢ c → get_or d k 0 ≡ get_or b k 0) → (k : ℕ) → k ≢ c
    → held_at r d k ≡ held_at r b k
word_others r b d c others k ne = ap (λ x. cond (ltb k 8) (get_or r k 0) x) (others k ne)

find_cons : (f : ℕ → ℕ) (q a : ℕ) (b : Bool) (r : List ℕ)
    → find nat_cmp q (map (λ c. (c, f c)) (cond b (a ∷ r) r)) ≡ cond (eqb q a && b) (Some (f q)) (find nat_cmp q (map (λ c. (c, f c)) r))
find_cons f q a true r = grind (arith, nat_tests)
find_cons f q a false r = grind (arith, nat_tests)

joined : (p : ℕ → Bool) (q a n : ℕ) (x y : Bool) → p a ≡ x → p q ≡ y → (v : Option ℕ)
    → cond (eqb q a && x) v (cond (leb (a + 1) q && ltb q (a + 1 + n) && y) v None) ≡ cond (leb a q && ltb q (a + suc n) && y) v None
joined p q a n true true e d v = grind (arith, nat_tests)
joined p q a n true false e d v =
    let ne : q ≢ a = λ h. both_ways (p q) d (ap p h ∙ e) in grind (arith, nat_tests)
joined p q a n false true e d v =
    let ne : q ≢ a = λ h. both_ways (p q) (ap p h ∙ e) d in grind (arith, nat_tests)
joined p q a n false false e d v = grind (arith, nat_tests)

-- what a list of some numbers, each with its value, gives
find-filter : (f : ℕ → ℕ) (p : ℕ → Bool) (q a n : ℕ)
    → find nat_cmp q (map (λ c. (c, f c)) (filter p (range_with_len a n))) ≡ cond (leb a q && ltb q (a + n) && p q) (Some (f q)) None
find-filter f p q a zero = grind (arith, nat_tests)
find-filter f p q a (suc n) =
    let step = find_cons f q a (p a) (filter p (range_with_len (a + 1) n)) in
    let rest = find-filter f p q (a + 1) n in
    step ∙ ap (cond (eqb q a && p a) (Some (f q))) rest ∙ joined p q a n (p a) (p q) refl refl (Some (f q))

get-cells_by : (f : ℕ → ℕ) (q : ℕ) → fin.get (cells_by f) q ≡ cond (ltb q 2560 && is_cell q) (Some (f q)) None
unfolding cells_by cells_below
get-cells_by f q = get-from_entries nat_cmp_total _ q ∙ find-filter f is_cell q 0 2560 ∙ grind (arith, nat_tests)

-- what a cell holds
pub at-cells_by : (f : ℕ → ℕ) (q : ℕ) → q < 2560 → is_cell q ≡ true → at (cells_by f) q ≡ f q
at-cells_by f q lt c =
    let g : fin.get (cells_by f) q ≡ Some (f q) = get-cells_by f q ∙ grind (arith, nat_tests) in
    ap (λ o. unwrap_or o 0) g

changed_at : (f g : ℕ → ℕ) (c x : ℕ) → c < 2560 → is_cell c ≡ true → g c ≡ x → ((q : ℕ) → q ≢ c → g q ≡ f q) → (q : ℕ)
    → cond (ltb q 2560 && is_cell q) (Some (g q)) None
    ≡ cond (eq_by_cmp nat_cmp q c) (Some x) (cond (ltb q 2560 && is_cell q) (Some (f q)) None)
changed_at f g c x lt is here others q =
    ⊎_elim
    (λ e. let i : is_cell q ≡ true = ap is_cell e ∙ is in let h : g q ≡ x = ap g e ∙ here in grind (arith, nat_tests))
    (λ ne. let h = others q ne in grind (arith, nat_tests))
    (cases_eq q c)

-- the map in which one cell holds another number
pub insert-cells_by : (f g : ℕ → ℕ) (c x : ℕ) → c < 2560 → is_cell c ≡ true → g c ≡ x → ((q : ℕ) → q ≢ c → g q ≡ f q)
    → cells_by g ≡ fin.insert (cells_by f) c x
insert-cells_by f g c x lt is here others =
    same_map nat_cmp_total nat_cmp-IsAntisymmetric _ _ (λ q.
    get-cells_by g q ∙ changed_at f g c x lt is here others q
    ∙ sym (get-insert nat_cmp_total (cells_by f) c x q ∙ ap (cond (eq_by_cmp nat_cmp q c) (Some x)) (get-cells_by f q)))

pub same-cells_by : (f g : ℕ → ℕ) → ((q : ℕ) → f q ≡ g q) → cells_by f ≡ cells_by g
same-cells_by f g h =
    same_map nat_cmp_total nat_cmp-IsAntisymmetric _ _ (λ q.
    get-cells_by f q ∙ ap (λ v. cond (ltb q 2560 && is_cell q) (Some v) None) (h q) ∙ sym (get-cells_by g q))

-- what a representation holds for a place
stored-place : (e : ℕ → ℕ) (ch : List ℕ) (c : ℕ) → c < 2048 → stored e ch c ≡ number_by c (e c)
unfolding stored
stored-place e ch c lt =
    let below : ltb c 2048 ≡ true = grind (arith, nat_tests) in
    ap (λ b. cond b (number_by c (e c)) (get_or ch (c - 2048) 0)) below

pub number_by-register : (c x : ℕ) → c < 8 → number_by c x ≡ x
number_by-register c x lt = grind (arith, nat_tests)

pub number_by-word : (c w : ℕ) → 8 ≤ c → w < 32768 → number_by c (extend w) ≡ w
number_by-word c w le lt = grind (arith, nat_tests)

extended_twice : (w : ℕ) → w < 32768 → extend (correct (extend w)) ≡ extend w
extended_twice w lt = grind (arith, nat_tests)

stored-channel : (e : ℕ → ℕ) (ch : List ℕ) (n : ℕ) → stored e ch (2048 + n) ≡ get_or ch n 0
unfolding stored
stored-channel e ch n =
    let k : (2048 + n) - 2048 ≡ n = omega arith in
    let above : ltb (2048 + n) 2048 ≡ false = grind (arith, nat_tests) in
    ap (λ i. cond (ltb (2048 + n) 2048) (number_by (2048 + n) (e (2048 + n))) (get_or ch i 0)) k
    ∙ ap (λ b. cond b (number_by (2048 + n) (e (2048 + n))) (get_or ch n 0)) above

is_cell-place : (c : ℕ) → c ≢ 6 → c ≢ 7 → c < 2048 → is_cell c ≡ true
unfolding is_cell
is_cell-place c p q lt = grind (arith, nat_tests)

is_cell-channel : (n : ℕ) → n ≢ 1 → n ≢ 2 → is_cell (2048 + n) ≡ true
unfolding is_cell
is_cell-channel n p q = grind (arith, nat_tests)

-- what is held at a place or on a channel, by the view
pub at_view : (e : ℕ → ℕ) (ch : List ℕ) (s : Cells) (c : ℕ) → cells_by (stored e ch) ≡ s → c < 2048 → c ≢ 6 → c ≢ 7
    → at s c ≡ number_by c (e c)
at_view e ch s c v lt n6 n7 =
    ap (λ m. at m c) (sym v) ∙ at-cells_by (stored e ch) c (omega arith) (is_cell-place c n6 n7 lt) ∙ stored-place e ch c lt

pub register_view : (e : ℕ → ℕ) (ch : List ℕ) (s : Cells) (c : ℕ) → cells_by (stored e ch) ≡ s → c < 8 → c ≢ 6 → c ≢ 7 → at s c ≡ e c
register_view e ch s c v lt n6 n7 = at_view e ch s c v (omega arith) n6 n7 ∙ number_by-register c (e c) lt

-- what the registers hold
pub held_view : (r : List ℕ) (b : List ℕ) (ch : List ℕ) (s : Cells) (c : ℕ) → cells_by (stored (held_at r b) ch) ≡ s → c < 8 → c ≢ 6
    → c ≢ 7 → at s c ≡ get_or r c 0
held_view r b ch s c v lt n6 n7 = register_view (held_at r b) ch s c v lt n6 n7 ∙ register_here r b c (get_or r c 0) lt refl

pub word_view : (e : ℕ → ℕ) (ch : List ℕ) (s : Cells) (c : ℕ) → cells_by (stored e ch) ≡ s → c < 2048 → 8 ≤ c → at s c ≡ correct (e c)
word_view e ch s c v lt ge =
    let plain : ltb c 8 ≡ false = grind (arith, nat_tests) in
    at_view e ch s c v lt (λ e. omega arith) (λ e. omega arith) ∙ ap (λ b. cond b (e c) (correct (e c))) plain

pub reading_view : (e : ℕ → ℕ) (ch : List ℕ) (s : Cells) (c : ℕ) → cells_by (stored e ch) ≡ s → IsStored e ch → c < 2048 → 8 ≤ c
    → e c ≡ extend (at s c)
reading_view e ch s c v is lt ge = is.extended c ge ∙ ap extend (sym (word_view e ch s c v lt ge))

pub channel_view : (e : ℕ → ℕ) (ch : List ℕ) (s : Cells) (n : ℕ) → cells_by (stored e ch) ≡ s → n < 512 → n ≢ 1 → n ≢ 2
    → at s (2048 + n) ≡ get_or ch n 0
channel_view e ch s n v lt n1 n2 =
    ap (λ m. at m (2048 + n)) (sym v) ∙ at-cells_by (stored e ch) (2048 + n) (omega arith) (is_cell-channel n n1 n2) ∙ stored-channel e ch n

-- a place holds another number
stored_other-place : (e d : ℕ → ℕ) (ch : List ℕ) (c q : ℕ) → ((k : ℕ) → k ≢ c → d k ≡ e k) → q ≢ c → stored d ch q ≡ stored e ch q
unfolding stored
stored_other-place e d ch c q others ne = ap (λ v. cond (ltb q 2048) (number_by q v) (get_or ch (q - 2048) 0)) (others q ne)

pub view-place : (e d : ℕ → ℕ) (ch : List ℕ) (c x : ℕ) → c < 2048 → c ≢ 6 → c ≢ 7 → number_by c (d c) ≡ x → ((k : ℕ) → k ≢ c → d k ≡ e k)
    → cells_by (stored d ch) ≡ fin.insert (cells_by (stored e ch)) c x
view-place e d ch c x lt n6 n7 here others =
    insert-cells_by _ _ c x (omega arith) (is_cell-place c n6 n7 lt) (stored-place d ch c lt ∙ here)
    (λ q ne. stored_other-place e d ch c q others ne)

-- a channel holds another number
stored_other-channel : (e : ℕ → ℕ) (ch dh : List ℕ) (n q : ℕ) → ((k : ℕ) → k ≢ n → get_or dh k 0 ≡ get_or ch k 0) → q ≢ 2048 + n
    → stored e dh q ≡ stored e ch q
unfolding stored
stored_other-channel e ch dh n q others ne =
    ⊎_elim
    (λ lt. grind (arith, nat_tests))
    (λ ge. ap (λ v. cond (ltb q 2048) (number_by q (e q)) v) (others (q - 2048) (λ h. ne (omega arith))))
    (cases_lt q 2048)

pub view-channel : (e : ℕ → ℕ) (ch dh : List ℕ) (n x : ℕ) → n < 512 → n ≢ 1 → n ≢ 2 → get_or dh n 0 ≡ x
    → ((k : ℕ) → k ≢ n → get_or dh k 0 ≡ get_or ch k 0)
    → cells_by (stored e dh) ≡ fin.insert (cells_by (stored e ch)) (2048 + n) x
view-channel e ch dh n x lt n1 n2 here others =
    insert-cells_by _ _ (2048 + n) x (omega arith) (is_cell-channel n n1 n2) (stored-channel e dh n ∙ here)
    (λ q ne. stored_other-channel e ch dh n q others ne)

-- a change of one number that its cell can hold
below_all : (f g : ℕ → ℕ) (c x : ℕ) → ((q : ℕ) → f q < cell_limit q) → g c ≡ x → x < cell_limit c → ((q : ℕ) → q ≢ c → g q ≡ f q) → (q : ℕ)
    → g q < cell_limit q
below_all f g c x old here lt others q =
    ⊎_elim
    (λ e. let limit : cell_limit q ≡ cell_limit c = ap cell_limit e in let same : g q ≡ x = ap g e ∙ here in omega arith)
    (λ ne. let same : g q ≡ f q = others q ne in omega (arith, old q))
    (cases_eq q c)

same_extended : (e d : ℕ → ℕ) (c : ℕ) → ((q : ℕ) → 8 ≤ q → e q ≡ extend (correct (e q))) → (8 ≤ c → d c ≡ extend (correct (d c)))
    → ((k : ℕ) → k ≢ c → d k ≡ e k) → (q : ℕ) → 8 ≤ q → d q ≡ extend (correct (d q))
same_extended e d c old here others q ge =
    ⊎_elim
    (λ k. let le : 8 ≤ c = omega arith in rw k (here le))
    (λ ne. others q ne ∙ old q ge ∙ ap (λ x. extend (correct x)) (sym (others q ne)))
    (cases_eq q c)

pub IsStored-register : (e d : ℕ → ℕ) (ch : List ℕ) (c x : ℕ) → IsStored e ch → c < 8 → x < cell_limit c → d c ≡ x
    → ((k : ℕ) → k ≢ c → d k ≡ e k) → IsStored d ch
IsStored-register e d ch c x old lt limit here others = record {
  limits =
      below_all (stored e ch) (stored d ch) c x old.limits
      (stored-place d ch c (omega arith) ∙ ap (number_by c) here ∙ number_by-register c x lt) limit
      (λ q ne. stored_other-place e d ch c q others ne);
  extended = same_extended e d c old.extended (λ ge. absurd (omega arith)) others;
}

cell_limit-word : (c : ℕ) → 8 ≤ c → cell_limit c ≡ 32768
unfolding cell_limit
cell_limit-word c ge = grind (arith, nat_tests)

pub IsStored-word : (e d : ℕ → ℕ) (ch : List ℕ) (c w : ℕ) → IsStored e ch → 8 ≤ c → c < 2048 → w < 32768 → d c ≡ extend w
    → ((k : ℕ) → k ≢ c → d k ≡ e k) → IsStored d ch
IsStored-word e d ch c w old ge lt word here others = record {
  limits =
      below_all (stored e ch) (stored d ch) c w old.limits (stored-place d ch c lt ∙ ap (number_by c) here ∙ number_by-word c w ge word)
      (rw (cell_limit-word c ge) word) (λ q ne. stored_other-place e d ch c q others ne);
  extended = same_extended e d c old.extended (λ _. here ∙ sym (extended_twice w word) ∙ ap (λ x. extend (correct x)) (sym here)) others;
}

cell_limit-channel : (n : ℕ) → cell_limit (2048 + n) ≡ 32768
unfolding cell_limit
cell_limit-channel n = grind (arith, nat_tests)

pub IsStored-channel : (e : ℕ → ℕ) (ch dh : List ℕ) (n x : ℕ) → IsStored e ch → x < 32768 → get_or dh n 0 ≡ x
    → ((k : ℕ) → k ≢ n → get_or dh k 0 ≡ get_or ch k 0) → IsStored e dh
IsStored-channel e ch dh n x old limit here others = record {
  limits =
      below_all (stored e ch) (stored e dh) (2048 + n) x old.limits (stored-channel e dh n ∙ here) (rw (cell_limit-channel n) limit)
      (λ q ne. stored_other-channel e ch dh n q others ne);
  extended = old.extended;
}

-- what the numbers of a representation are below
pub register_limit : (e : ℕ → ℕ) (ch : List ℕ) (c : ℕ) → IsStored e ch → c < 8 → e c < cell_limit c
register_limit e ch c is lt =
    let same : stored e ch c ≡ e c = stored-place e ch c (omega arith) ∙ number_by-register c (e c) lt in
    rw (← same) (is.limits c)

pub held_limit : (r : List ℕ) (b : List ℕ) (ch : List ℕ) (c : ℕ) → IsStored (held_at r b) ch → c < 8 → get_or r c 0 < cell_limit c
held_limit r b ch c is lt = rw (← register_here r b c (get_or r c 0) lt refl) (register_limit (held_at r b) ch c is lt)

pub channel_limit : (e : ℕ → ℕ) (ch : List ℕ) (n : ℕ) → IsStored e ch → get_or ch n 0 < 32768
channel_limit e ch n is =
    let below = is.limits (2048 + n) in
    rw (stored-channel e ch n, cell_limit-channel n) at below

-- the arrays that hold 0 everywhere
zero_at : (n q : ℕ) → ◌≡◌ {A = ℕ} (get_or (replicate n 0) q 0) 0
zero_at n q = ⊎_elim (λ lt. get_or-replicate n q 0 0 lt) (λ ge. get_or_past (replicate n 0) q 0 (rw length-replicate ge)) (cases_lt q n)

zero_held : (r m q : ℕ) → held_at (replicate r 0) (replicate m 0) q ≡ 0
zero_held r m q = rw (zero_at r q, zero_at m q) (grind (arith, nat_tests))

stored-zeros : (r m n q : ℕ) → stored (held_at (replicate r 0) (replicate m 0)) (replicate n 0) q ≡ 0
unfolding stored
stored-zeros r m n q = rw (zero_held r m q, zero_at n (q - 2048)) (grind (arith, nat_tests))

pub view-zero : (r m n : ℕ) → cells_by (stored (held_at (replicate r 0) (replicate m 0)) (replicate n 0)) ≡ zero_cells
unfolding zero_cells
view-zero r m n = same-cells_by _ _ (stored-zeros r m n)

cell_limit-positive : (c : ℕ) → 0 < cell_limit c
unfolding cell_limit
cell_limit-positive c = grind (arith, nat_tests)

pub IsStored-zero : (r m n : ℕ) → IsStored (held_at (replicate r 0) (replicate m 0)) (replicate n 0)
IsStored-zero r m n = record {
  limits = λ c. rw (stored-zeros r m n c) (cell_limit-positive c);
  extended = λ c _. zero_held r m c ∙ ap (λ x. extend (correct x)) (sym (zero_held r m c));
}

-- the bank that is selected
pub selects-zero : (r n : ℕ) → 0 ≡ selected_by (replicate r 0) (replicate n 0)
selects-zero r n = rw (zero_at r 4, zero_at n 7) refl

pub selects-registers : (r q ch : List ℕ) (s : ℕ) → get_or q 4 0 ≡ get_or r 4 0 → s ≡ selected_by r ch → s ≡ selected_by q ch
selects-registers r q ch s same before = before ∙ ap (λ f. selected_bank f (superbank_in (get_or ch 7 0))) (sym same)

pub selects-channels : (r ch dh : List ℕ) (s : ℕ) → get_or dh 7 0 ≡ get_or ch 7 0 → s ≡ selected_by r ch → s ≡ selected_by r dh
selects-channels r ch dh s same before = before ∙ ap (λ w. selected_bank (get_or r 4 0) (superbank_in w)) (sym same)

cell_limit-fixed_bank : cell_limit 4 ≡ 32
unfolding cell_limit
cell_limit-fixed_bank = refl

pub fixed_bank_limit : (x : ℕ) → x < 32 → x < cell_limit 4
fixed_bank_limit x lt = rw cell_limit-fixed_bank lt

pub fixed_bank_below : (r b : List ℕ) (ch : List ℕ) → IsStored (held_at r b) ch → get_or r 4 0 < 32
fixed_bank_below r b ch is = rw (← cell_limit-fixed_bank) (held_limit r b ch 4 is (omega arith))

selected_below : (f : ℕ) (b : Bool) → f < 32 → selected_bank f b < 40
selected_below f b lt = grind (arith, nat_tests)

pub selected_limit : (r b ch : List ℕ) (s : ℕ) → Holds r b ch s → s < 40
selected_limit r b ch s is =
    rw is.selects (selected_below (get_or r 4 0) (superbank_in (get_or ch 7 0)) (fixed_bank_below r b ch is.numbers))

superbank_view : (s : Cells) (w : ℕ) → at s (2048 + 7) ≡ w → superbank s ≡ superbank_in w
unfolding superbank
superbank_view s w e = ap superbank_in e

pub selected_view : (r b ch : List ℕ) (n : ℕ) (s : Cells) → cells_by (stored (held_at r b) ch) ≡ s → Holds r b ch n
    → n ≡ selected_bank (at s 4) (superbank s)
selected_view r b ch n s v is =
    let bank = held_view r b ch s 4 v (omega arith) (λ e. omega arith) (λ e. omega arith) in
    let word = channel_view (held_at r b) ch s 7 v (omega arith) (λ e. omega arith) (λ e. omega arith) in
    is.selects ∙ ap (λ f. selected_bank f (superbank_in (get_or ch 7 0))) (sym bank)
    ∙ ap (selected_bank (at s 4)) (sym (superbank_view s (get_or ch 7 0) word))

pub selects-fixed_bank : (r ch : List ℕ) (f s : ℕ) (b : Bool) → get_or r 4 0 ≡ f → b ≡ superbank_in (get_or ch 7 0) → s ≡ selected_bank f b
    → s ≡ selected_by r ch
selects-fixed_bank r ch f s b here bit is =
    is ∙ ap (selected_bank f) bit ∙ ap (λ g. selected_bank g (superbank_in (get_or ch 7 0))) (sym here)

pub selects-superbank : (r ch : List ℕ) (w s : ℕ) (b : Bool) → get_or ch 7 0 ≡ w → b ≡ superbank_in w → s ≡ selected_bank (get_or r 4 0) b
    → s ≡ selected_by r ch
selects-superbank r ch w s b here bit is =
    is ∙ ap (selected_bank (get_or r 4 0)) bit ∙ ap (λ v. selected_bank (get_or r 4 0) (superbank_in v)) (sym here)
