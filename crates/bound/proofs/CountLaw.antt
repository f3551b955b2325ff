-- On a way on which A and the cells hold what its words leave, the head of a counted loop stands at most so often.
use Rattle.std.proofs.Common.{◌≡◌, ℕ, ◌+◌, ◌*◌, ◌≤◌, ◌<◌, ◌%◌, ◌==◌, ◌&&◌, ◌||◌, ◌⊎◌, Bool, true, false, not, cond, nat_le}
use Rattle.std.proofs.Common.{nat_lt, codes, List, refl, sym, ap, subst, ◌∙◌, inl, inr, arith}
use Rattle.std.proofs.lemmas.Bool.{and_from, and_parts, both_ways, eq-eqb, eqb-true, false_from_ne_true, le-leb, leb-true, ltb-true}
use Rattle.std.proofs.lemmas.Bool.{not-true}
use Rattle.std.proofs.lemmas.Bool.{or_from, or_left, or_right}
use Rattle.rope.specs.Places.{Words}
use Rattle.bound.specs.declared.counted.Counted.{Counted}
use Rattle.bound.specs.declared.site.Site.{Site}
use Rattle.bound.specs.declared.turn.Leg.{Leg}
use Rattle.bound.specs.declared.turn.Turn.{Turn}
use Rattle.bound.specs.declared.turn.Turn.TheVariants.{Back, Through, One, Two, Four, Stop}
use Rattle.bound.specs.Bounds.{Counts, Has, IsCounted, IsLeg, entries, rounds}
use Rattle.bound.specs.Bounds.Has.{First, Next}
use Rattle.bound.specs.Bounds.Leads.{On, Past}
use Rattle.bound.specs.CountedWays.{Makes, ValuedWay, Values}
use Rattle.bound.specs.CountedWays.ValuedWay.{Ends, Goes, Calls}
use Rattle.bound.specs.Counting.{counts_down, does, enters, enters_at, first_quiet, first_switched, fits, is_quiet, keeps_to}
use Rattle.bound.specs.Counting.{loads, may_write, shaped}
use Rattle.bound.specs.Counting.{stands_at_count, stands_at_entry, stands_at_head, stands_at_last, stands_in}
use Rattle.bound.specs.Turns.{turn}

-- the addresses and the constant of a loop that counts down
record Down (c : Counted) : Type 0 where
  span : c.head + 2 ≤ c.last
  few : c.from < 0o40000

down_of : (c : Counted) → counts_down c ≡ true → Down c
down_of c d =
    let g = and_parts (nat_le (c.head + 2) c.last && nat_lt c.from 0o40000 && nat_le first_quiet c.cell && nat_lt c.cell 0o2000)
    (nat_lt c.cell first_switched || nat_le first_quiet (c.cell % 0o400)) d in
    let h = and_parts (nat_le (c.head + 2) c.last && nat_lt c.from 0o40000 && nat_le first_quiet c.cell) (nat_lt c.cell 0o2000) g.0 in
    let i = and_parts (nat_le (c.head + 2) c.last && nat_lt c.from 0o40000) (nat_le first_quiet c.cell) h.0 in
    let j = and_parts (nat_le (c.head + 2) c.last) (nat_lt c.from 0o40000) i.0 in
    record { span = leb-true (c.head + 2) c.last j.0; few = ltb-true c.from 0o40000 j.1 }

-- where words stand
head_at : (c : Counted) (p : Site) → stands_at_head c p ≡ true → ((p.bank == c.bank) ≡ true) × (p.address ≡ c.head)
head_at c p h = let b = and_parts (p.bank == c.bank) (p.address == c.head) h in (b.0, eqb-true p.address c.head b.1)

entry_at : (c : Counted) (p : Site) → stands_at_entry c p ≡ true → ((p.bank == c.bank) ≡ true) × (p.address + 1 ≡ c.head)
entry_at c p h = let b = and_parts (p.bank == c.bank) (p.address + 1 == c.head) h in (b.0, eqb-true (p.address + 1) c.head b.1)

last_at : (c : Counted) (p : Site) → stands_at_last c p ≡ true → ((p.bank == c.bank) ≡ true) × (p.address ≡ c.last)
last_at c p h = let b = and_parts (p.bank == c.bank) (p.address == c.last) h in (b.0, eqb-true p.address c.last b.1)

count_at : (c : Counted) (p : Site) → stands_at_count c p ≡ true → ((p.bank == c.bank) ≡ true) × (p.address + 1 ≡ c.last)
count_at c p h = let b = and_parts (p.bank == c.bank) (p.address + 1 == c.last) h in (b.0, eqb-true (p.address + 1) c.last b.1)

in_at : (c : Counted) (p : Site) → stands_in c p ≡ true → (c.head ≤ p.address) × (p.address ≤ c.last)
in_at c p h =
    let b = and_parts (p.bank == c.bank && nat_le c.head p.address) (nat_le p.address c.last) h in
    let d = and_parts (p.bank == c.bank) (nat_le c.head p.address) b.0 in
    (leb-true c.head p.address d.1, leb-true p.address c.last b.1)

inside : (c : Counted) (p : Site) → (p.bank == c.bank) ≡ true → c.head ≤ p.address → p.address ≤ c.last → stands_in c p ≡ true
inside c p b l m =
    and_from (p.bank == c.bank && nat_le c.head p.address) (nat_le p.address c.last)
    (and_from (p.bank == c.bank) (nat_le c.head p.address) b (le-leb c.head p.address l)) (le-leb p.address c.last m)

head_in : (c : Counted) (p : Site) → Down c → stands_at_head c p ≡ true → stands_in c p ≡ true
head_in c p d h =
    let a = head_at c p h in
    let b = a.1 in
    let e = d.span in
    inside c p a.0 (omega (arith, b, e)) (omega (arith, b, e))

last_in : (c : Counted) (p : Site) → Down c → stands_at_last c p ≡ true → stands_in c p ≡ true
last_in c p d h =
    let a = last_at c p h in
    let b = a.1 in
    let e = d.span in
    inside c p a.0 (omega (arith, b, e)) (omega (arith, b, e))

count_in : (c : Counted) (p : Site) → Down c → stands_at_count c p ≡ true → stands_in c p ≡ true
count_in c p d h =
    let a = count_at c p h in
    let b = a.1 in
    let e = d.span in
    inside c p a.0 (omega (arith, b, e)) (omega (arith, b, e))

-- where they do not
no_number : (m n k : ℕ) → m ≡ n → m ≡ k → n + 2 ≤ k → ⊥
no_number m n k e f g = omega arith

head_no_last : (c : Counted) (p : Site) → Down c → stands_at_head c p ≡ true → stands_at_last c p ≡ false
head_no_last c p d h =
    false_from_ne_true (stands_at_last c p) (λ e. no_number p.address c.head c.last (head_at c p h).1 (last_at c p e).1 d.span)

last_no_head : (c : Counted) (p : Site) → Down c → stands_at_last c p ≡ true → stands_at_head c p ≡ false
last_no_head c p d h =
    false_from_ne_true (stands_at_head c p) (λ e. no_number p.address c.head c.last (head_at c p e).1 (last_at c p h).1 d.span)

count_no_head : (c : Counted) (p : Site) → Down c → stands_at_count c p ≡ true → stands_at_head c p ≡ false
count_no_head c p d h =
    false_from_ne_true (stands_at_head c p) (λ e. none p.address c.head c.last (head_at c p e).1 (count_at c p h).1 d.span)
  where
    none : (m n k : ℕ) → m ≡ n → m + 1 ≡ k → n + 2 ≤ k → ⊥
    none m n k e f g = omega arith

count_no_last : (c : Counted) (p : Site) → stands_at_count c p ≡ true → stands_at_last c p ≡ false
count_no_last c p h =
    false_from_ne_true (stands_at_last c p) (λ e. none p.address c.last (last_at c p e).1 (count_at c p h).1)
  where
    none : (m k : ℕ) → m ≡ k → m + 1 ≡ k → ⊥
    none m k e f = omega arith

entry_no_in : (c : Counted) (p : Site) → stands_at_entry c p ≡ true → stands_in c p ≡ false
entry_no_in c p h =
    false_from_ne_true (stands_in c p) (λ e. none p.address c.head (in_at c p e).0 (entry_at c p h).1)
  where
    none : (m n : ℕ) → n ≤ m → m + 1 ≡ n → ⊥
    none m n e f = omega arith

out_no_head : (c : Counted) (p : Site) → Down c → stands_in c p ≡ false → stands_at_head c p ≡ false
out_no_head c p d o = false_from_ne_true (stands_at_head c p) (λ e. both_ways (stands_in c p) o (head_in c p d e))

out_no_last : (c : Counted) (p : Site) → Down c → stands_in c p ≡ false → stands_at_last c p ≡ false
out_no_last c p d o = false_from_ne_true (stands_at_last c p) (λ e. both_ways (stands_in c p) o (last_in c p d e))

-- how often the head may still stand on a way from a word, unless the loop is entered again
left_of : Counted → Site → Values → ℕ
left_of c p s = cond (stands_at_head c p || stands_at_last c p) (s.a + 1) (cond (stands_in c p) (s.cell c.cell) 0)

head_of : Counted → Site → ℕ
head_of c p = cond (stands_at_head c p) 1 0

entry_of : Counted → Site → ℕ
entry_of c p = cond (stands_at_entry c p) 1 0

left_head : (c : Counted) (p : Site) (s : Values) → stands_at_head c p ≡ true → left_of c p s ≡ s.a + 1
unfolding left_of
left_head c p s e = ap (λ b. cond (b || stands_at_last c p) (s.a + 1) (cond (stands_in c p) (s.cell c.cell) 0)) e

left_last : (c : Counted) (p : Site) (s : Values) → stands_at_last c p ≡ true → left_of c p s ≡ s.a + 1
unfolding left_of
left_last c p s e =
    ap (λ b. cond b (s.a + 1) (cond (stands_in c p) (s.cell c.cell) 0)) (or_right (stands_at_head c p) (stands_at_last c p) e)

left_in : (c : Counted) (p : Site) (s : Values) → stands_at_head c p ≡ false → stands_at_last c p ≡ false → stands_in c p ≡ true
    → left_of c p s ≡ s.cell c.cell
unfolding left_of
left_in c p s e f g =
    ap (λ b. cond b (s.a + 1) (cond (stands_in c p) (s.cell c.cell) 0)) (or_from (stands_at_head c p) (stands_at_last c p) e f)
    ∙ ap (λ b. cond b (s.cell c.cell) 0) g

left_out : (c : Counted) (p : Site) (s : Values) → Down c → stands_in c p ≡ false → left_of c p s ≡ 0
unfolding left_of
left_out c p s d o =
    ap (λ b. cond b (s.a + 1) (cond (stands_in c p) (s.cell c.cell) 0))
    (or_from (stands_at_head c p) (stands_at_last c p) (out_no_head c p d o) (out_no_last c p d o))
    ∙ ap (λ b. cond b (s.cell c.cell) 0) o

head_one : (c : Counted) (p : Site) → stands_at_head c p ≡ true → head_of c p ≡ 1
unfolding head_of
head_one c p e = ap (λ b. cond b 1 0) e

head_none : (c : Counted) (p : Site) → stands_at_head c p ≡ false → head_of c p ≡ 0
unfolding head_of
head_none c p e = ap (λ b. cond b 1 0) e

entry_one : (c : Counted) (p : Site) → stands_at_entry c p ≡ true → entry_of c p ≡ 1
unfolding entry_of
entry_one c p e = ap (λ b. cond b 1 0) e

head_left : (c : Counted) (p : Site) (s : Values) → head_of c p ≤ left_of c p s
head_left c p s = go (stands_at_head c p) refl
  where
    go : (b : Bool) → stands_at_head c p ≡ b → head_of c p ≤ left_of c p s
    go true e = let f = head_one c p e in let g = left_head c p s e in omega (arith, f, g)
    go false e = let f = head_none c p e in omega (arith, f)

-- at the head and at the last word A holds a number without overflow and not below 0
abbrev Good : Counted → Site → Values → Type 0
Good c p s = (stands_at_head c p || stands_at_last c p) ≡ true → s.a < 0o40000

record Step (c : Counted) (p q : Site) (s t : Values) : Type 0 where
  good : Good c q t
  falls : head_of c p + left_of c q t ≤ left_of c p s + (c.from + 1) * entry_of c p

implied : (x y : Bool) → (not x || y) ≡ true → x ≡ true → y ≡ true
implied true y e h = e
implied false y e h = absurd (cc)

one_of : (x y : Bool) → (x || y) ≡ true → (x ≡ true) ⊎ (y ≡ true)
one_of true y e = inl refl
one_of false y e = inr e

quiet_is : (i h m : Bool) → ((not i || h) || not m) ≡ true → i ≡ true → h ≡ false → m ≡ false
quiet_is true false m e f g = not-true m e
quiet_is true true m e f g = absurd (cc)
quiet_is false h m e f g = absurd (cc)

record Shaped (words : Words) (c : Counted) (p : Site) : Type 0 where
  entry : stands_at_entry c p ≡ true → loads words p c.from ≡ true
  head : stands_at_head c p ≡ true → does words p (codes "TS") c.cell ≡ true
  count : stands_at_count c p ≡ true → does words p (codes "CCS") c.cell ≡ true
  last : stands_at_last c p ≡ true → does words p (codes "TCF") c.head ≡ true

shaped_is : (words : Words) (c : Counted) (p : Site) → shaped words c p ≡ true → Shaped words c p
shaped_is words c p e =
    let a = not (stands_at_entry c p) || loads words p c.from in
    let b = not (stands_at_head c p) || does words p (codes "TS") c.cell in
    let k = not (stands_at_count c p) || does words p (codes "CCS") c.cell in
    let l = not (stands_at_last c p) || does words p (codes "TCF") c.head in
    let x = and_parts (a && b && k) l e in
    let y = and_parts (a && b) k x.0 in
    let z = and_parts a b y.0 in
    record {
      entry = implied (stands_at_entry c p) (loads words p c.from) z.0;
      head = implied (stands_at_head c p) (does words p (codes "TS") c.cell) z.1;
      count = implied (stands_at_count c p) (does words p (codes "CCS") c.cell) y.1;
      last = implied (stands_at_last c p) (does words p (codes "TCF") c.head) x.1;
    }

-- neither the head nor the last is anything good
no_good : (c : Counted) (q : Site) (t : Values) → stands_at_head c q ≡ false → stands_at_last c q ≡ false → Good c q t
no_good c q t e f = λ g.
    absurd (both_ways (stands_at_head c q || stands_at_last c q) (or_from (stands_at_head c q) (stands_at_last c q) e f) g)

record Facts (words : Words) (c : Counted) (p q : Site) (s t : Values) : Type 0 where
  down : Down c
  shape : Shaped words c p
  quiet : is_quiet words c p ≡ true
  enters : enters_at c p q ≡ true
  makes : Makes words p q s t
  good : Good c p s

falls_by : (h lq lp k e lq2 lp2 h2 e2 : ℕ) → h ≡ h2 → lq ≡ lq2 → lp ≡ lp2 → e ≡ e2 → h2 + lq2 ≤ lp2 + k * e2 → h + lq ≤ lp + k * e
falls_by h lq lp k e lq2 lp2 h2 e2 i j l m f =
    subst (λ x. x + lq ≤ lp + k * e) (sym i) (subst (λ x. h2 + x ≤ lp + k * e) (sym j)
    (subst (λ x. h2 + lq2 ≤ x + k * e) (sym l) (subst (λ x. h2 + lq2 ≤ lp2 + k * x) (sym m) f)))

to_head : (words : Words) (c : Counted) (p q : Site) (s t : Values) → Facts words c p q s t → stands_at_head c q ≡ true → Step c p q s t
to_head words c p q s t f e = elim (one_of (stands_at_entry c p) (stands_at_last c p) (subst (λ b. by b ≡ true) e f.enters)) [
  | inl x ↦
      let o = entry_no_in c p x in
      let is : t.a ≡ c.from = f.makes.loaded c.from (f.shape.entry x) in
      let few = f.down.few in
      record {
        good = λ g. omega (arith, is, few);
        falls = falls_by (head_of c p) (left_of c q t) (left_of c p s) (c.from + 1) (entry_of c p) (t.a + 1) 0 0 1
            (head_none c p (out_no_head c p f.down o)) (left_head c q t e) (left_out c p s f.down o) (entry_one c p x) (omega (arith, is));
      }
  | inr x ↦
      let is : t.a ≡ s.a = f.makes.jumped c.head (f.shape.last x) in
      let few = f.good (or_right (stands_at_head c p) (stands_at_last c p) x) in
      record {
        good = λ g. omega (arith, is, few);
        falls = falls_by (head_of c p) (left_of c q t) (left_of c p s) (c.from + 1) (entry_of c p) (t.a + 1) (s.a + 1) 0 (entry_of c p)
            (head_none c p (last_no_head c p f.down x)) (left_head c q t e) (left_last c p s x) refl (omega (arith, is));
      }
]
  where
    by : Bool → Bool
    by b = cond b (stands_at_entry c p || stands_at_last c p)
        (cond (stands_at_last c q) (stands_at_count c p) (not (stands_in c q) || (stands_in c p && not (stands_at_last c p))))

to_last : (words : Words) (c : Counted) (p q : Site) (s t : Values) → Facts words c p q s t → stands_at_last c q ≡ true
    → stands_at_count c p ≡ true → Step c p q s t
to_last words c p q s t f e x =
    let next : q.address ≡ p.address + 1 = (last_at c q e).1 ∙ sym (count_at c p x).1 in
    let is = f.makes.counted c.cell (f.shape.count x) next in
    let less : t.a + 1 ≡ s.cell c.cell = is.0 in
    let few : s.cell c.cell < 0o40000 = is.1 in
    record {
      good = λ g. omega (arith, less, few);
      falls = falls_by (head_of c p) (left_of c q t) (left_of c p s) (c.from + 1) (entry_of c p) (t.a + 1) (s.cell c.cell) 0 (entry_of c p)
          (head_none c p (count_no_head c p f.down x)) (left_last c q t e)
          (left_in c p s (count_no_head c p f.down x) (count_no_last c p x) (count_in c p f.down x)) refl (omega (arith, less));
    }

to_other : (words : Words) (c : Counted) (p q : Site) (s t : Values) → Facts words c p q s t → stands_at_head c q ≡ false
    → stands_at_last c q ≡ false → (not (stands_in c q) || (stands_in c p && not (stands_at_last c p))) ≡ true → Step c p q s t
to_other words c p q s t f nh nl x = record { good = no_good c q t nh nl; falls = inner (stands_in c q) refl }
  where
    stays : stands_in c q ≡ true → stands_in c p ≡ true → stands_at_last c p ≡ false → (b : Bool) → stands_at_head c p ≡ b
        → head_of c p + left_of c q t ≤ left_of c p s + (c.from + 1) * entry_of c p
    stays iq ip np true e =
        let is : t.cell c.cell ≡ s.a =
        (f.makes.stored c.cell (f.shape.head e) (f.good (or_left (stands_at_head c p) (stands_at_last c p) e))).0 in
        falls_by (head_of c p) (left_of c q t) (left_of c p s) (c.from + 1) (entry_of c p) (t.cell c.cell) (s.a + 1) 1 (entry_of c p)
        (head_one c p e) (left_in c q t nh nl iq) (left_head c p s e) refl (omega (arith, is))
    stays iq ip np false e =
        let is : t.cell c.cell ≡ s.cell c.cell = f.makes.kept c.cell
        (quiet_is (stands_in c p) (stands_at_head c p) (may_write words p c.cell) f.quiet ip e) in
        falls_by (head_of c p) (left_of c q t) (left_of c p s) (c.from + 1) (entry_of c p) (t.cell c.cell) (s.cell c.cell) 0 (entry_of c p)
        (head_none c p e) (left_in c q t nh nl iq) (left_in c p s e np ip) refl (omega (arith, is))

    inner : (b : Bool) → stands_in c q ≡ b → head_of c p + left_of c q t ≤ left_of c p s + (c.from + 1) * entry_of c p
    inner true iq =
        let both = and_parts (stands_in c p) (not (stands_at_last c p))
        (implied (stands_in c q) (stands_in c p && not (stands_at_last c p)) x iq) in
        stays iq both.0 (not-true (stands_at_last c p) both.1) (stands_at_head c p) refl
    inner false iq = let e = left_out c q t f.down iq in let h = head_left c p s in omega (arith, e, h)

step : (words : Words) (c : Counted) (p q : Site) (s t : Values) → Facts words c p q s t → Step c p q s t
step words c p q s t f = go (stands_at_head c q) refl f.enters
  where
    not_head : stands_at_head c q ≡ false → (b : Bool) → stands_at_last c q ≡ b
        → cond b (stands_at_count c p) (not (stands_in c q) || (stands_in c p && not (stands_at_last c p))) ≡ true → Step c p q s t
    not_head nh true e x = to_last words c p q s t f e x
    not_head nh false e x = to_other words c p q s t f nh e x

    go : (b : Bool) → stands_at_head c q ≡ b
        → cond b (stands_at_entry c p || stands_at_last c p)
        (cond (stands_at_last c q) (stands_at_count c p) (not (stands_in c q) || (stands_in c p && not (stands_at_last c p)))) ≡ true
        → Step c p q s t
    go true e x = to_head words c p q s t f e
    go false e x = not_head e (stands_at_last c q) refl x

-- where TS of the head does not skip
no_skip : (c : Counted) (p q : Site) → enters c p q ≡ true → (stands_at_head c p ≡ true → q.address ≡ p.address + 1)
    → enters_at c p q ≡ true
no_skip c p q e next = go (stands_at_head c p) refl e
  where
    go : (b : Bool) → stands_at_head c p ≡ b → ((b && not (q.address == p.address + 1)) || enters_at c p q) ≡ true → enters_at c p q ≡ true
    go true h f =
        subst (λ b. (not b || enters_at c p q) ≡ true) (eq-eqb q.address (p.address + 1) (next h)) f
    go false h f = f

-- a way on from a word enters the loop as it may
enters_by : (c : Counted) (p : Site) (l : Leg) (u : Turn) → keeps_to c p u ≡ true → IsLeg l u → enters c p l.to ≡ true
enters_by c p l (Back n) k i = absurd i
enters_by c p l (Through v m) k i = absurd i
enters_by c p l (Stop why) k i = absurd i
enters_by c p l (One a) k i = subst (λ (x : Leg). enters c p x.to ≡ true) (sym i) k
enters_by c p l (Two a b) k i =
    let both = and_parts (enters c p a.to) (enters c p b.to) k in
    elim i [
      | inl x ↦ subst (λ (y : Leg). enters c p y.to ≡ true) (sym x) both.0
      | inr x ↦ subst (λ (y : Leg). enters c p y.to ≡ true) (sym x) both.1
    ]
enters_by c p l (Four a b d e) k i =
    let halves = and_parts (enters c p a.to && enters c p b.to) (enters c p d.to && enters c p e.to) k in
    let first = and_parts (enters c p a.to) (enters c p b.to) halves.0 in
    let later = and_parts (enters c p d.to) (enters c p e.to) halves.1 in
    elim i [
      | inl x ↦ subst (λ (y : Leg). enters c p y.to ≡ true) (sym x) first.0
      | inr y ↦ elim y [
        | inl x ↦ subst (λ (y : Leg). enters c p y.to ≡ true) (sym x) first.1
        | inr z ↦ elim z [
          | inl x ↦ subst (λ (y : Leg). enters c p y.to ≡ true) (sym x) later.0
          | inr x ↦ subst (λ (y : Leg). enters c p y.to ≡ true) (sym x) later.1
        ]
      ]
    ]

-- a call stands outside of the loop, and the way goes on outside of it
outside_by : (c : Counted) (p q : Site) → Down c → stands_in c p ≡ false → stands_at_entry c p ≡ false → enters_at c p q ≡ true
    → stands_in c q ≡ false
outside_by c p q d o n x = false_from_ne_true (stands_in c q) (λ i. go i (stands_at_head c q) x)
  where
    not_head : stands_in c q ≡ true → (b : Bool)
        → cond b (stands_at_count c p) (not (stands_in c q) || (stands_in c p && not (stands_at_last c p))) ≡ true → ⊥
    not_head i true e = both_ways (stands_in c p) o (count_in c p d e)
    not_head i false e =
        both_ways (stands_in c p) o (and_parts (stands_in c p) (not (stands_at_last c p))
        (implied (stands_in c q) (stands_in c p && not (stands_at_last c p)) e i)).0

    go : stands_in c q ≡ true → (b : Bool)
        → cond b (stands_at_entry c p || stands_at_last c p)
        (cond (stands_at_last c q) (stands_at_count c p) (not (stands_in c q) || (stands_in c p && not (stands_at_last c p)))) ≡ true
        → ⊥
    go i true e = both_ways (stands_at_entry c p || stands_at_last c p)
        (or_from (stands_at_entry c p) (stands_at_last c p) n (out_no_last c p d o)) e
    go i false e = not_head i (stands_at_last c q) e

record Fits (words : Words) (kept : List ℕ) (c : Counted) (p : Site) : Type 0 where
  shape : Shaped words c p
  quiet : is_quiet words c p ≡ true
  keeps : keeps_to c p (turn words kept p) ≡ true

fits_is : (words : Words) (kept : List ℕ) (c : Counted) (p : Site) → fits words kept c p ≡ true → Fits words kept c p
fits_is words kept c p e =
    let x = and_parts (shaped words c p && is_quiet words c p) (keeps_to c p (turn words kept p)) e in
    let y = and_parts (shaped words c p) (is_quiet words c p) x.0 in
    record { shape = shaped_is words c p y.0; quiet = y.1; keeps = x.1 }

law : (words : Words) (kept : List ℕ) (r : Site) (c : Counted) → IsCounted words kept r c → Down c
    → (p : Site) (s : Values) (ps : List Site) → Has words kept r p → ValuedWay words kept p s ps → Good c p s
    → rounds c ps ≤ left_of c p s + (c.from + 1) * entries c ps
unfolding head_of entry_of
law words kept r c is d _ _ _ has (Ends p s) good =
    join (head_of c p) (left_of c p s) (c.from + 1) (entry_of c p) (head_left c p s)
  where
    join : (h x k e : ℕ) → h ≤ x → h + 0 ≤ x + k * (e + 0)
    join h x k e f = omega arith
law words kept r c is d _ _ _ has (Goes p s t l ps i makes way) good =
    let f = fits_is words kept c p (is.each p has) in
    let enters = no_skip c p l.to (enters_by c p l (turn words kept p) f.keeps i)
    (λ h. (makes.stored c.cell (f.shape.head h) (good (or_left (stands_at_head c p) (stands_at_last c p) h))).1) in
    let one = step words c p l.to s t (record {
      down = d;
      shape = f.shape;
      quiet = f.quiet;
      enters = enters;
      makes = makes;
      good = good;
    }) in
    let rest = law words kept r c is d l.to t ps (Next r p l.to has (On p l i)) way one.good in
    join (head_of c p) (left_of c p s) (left_of c l.to t) (rounds c ps) (c.from + 1) (entry_of c p) (entries c ps) one.falls rest
  where
    join : (h x y n k e m : ℕ) → h + y ≤ x + k * e → n ≤ y + k * m → h + n ≤ x + k * (e + m)
    join h x y n k e m f g = omega arith
law words kept r c is d _ _ _ has (Calls p u s t l ps e way) good =
    let f = fits_is words kept c p (is.each p has) in
    let keeps = subst (λ v. keeps_to c p v ≡ true) e f.keeps in
    let x = and_parts (not (stands_in c p) && not (stands_at_entry c p)) (enters c p l.to) keeps in
    let y = and_parts (not (stands_in c p)) (not (stands_at_entry c p)) x.0 in
    let o = not-true (stands_in c p) y.0 in
    let enters = no_skip c p l.to x.1 (λ h. absurd (both_ways (stands_at_head c p) (out_no_head c p d o) h)) in
    let out = outside_by c p l.to d o (not-true (stands_at_entry c p) y.1) enters in
    let rest = law words kept r c is d l.to t ps (Next r p l.to has (Past p u l e)) way
    (no_good c l.to t (out_no_head c l.to d out) (out_no_last c l.to d out)) in
    join (head_of c p) (left_of c p s) (left_of c l.to t) (rounds c ps) (c.from + 1) (entry_of c p) (entries c ps)
    (head_none c p (out_no_head c p d o)) (left_out c l.to t d out) rest
  where
    join : (h x y n k e m : ℕ) → h ≡ 0 → y ≡ 0 → n ≤ y + k * m → h + n ≤ x + k * (e + m)
    join h x y n k e m f g i = omega arith

pub valued_counts : (words : Words) (kept : List ℕ) (r : Site) (s : Values) (ps : List Site) → ValuedWay words kept r s ps
    → Counts words kept r ps
valued_counts words kept r s ps way = λ c is.
    let d = down_of c is.down in
    let most = law words kept r c is d r s ps (First r) way
    (no_good c r s (out_no_head c r d is.outside) (out_no_last c r d is.outside)) in
    let none = left_out c r s d is.outside in
    omega (arith, most, none)
