-- A bound that was checked is one.
use Rattle.std.proofs.Common.{◌≡◌, ℕ, ◌+◌, ◌*◌, ◌≤◌, ◌==◌, ◌&&◌, ◌⊎◌, Bool, true, false, cond, List, [], ◌∷◌, ◌++◌, map, Option, Some, None}
use Rattle.std.proofs.Common.{suc, not, nat_lt, ◌-◌, unwrap_or, find, zero-add, refl, sym, ap, subst, ◌∙◌, inl, inr, arith}
use Rattle.std.specs.List.{list_all}
use Rattle.std.proofs.lemmas.Bool.{and_parts, eqb-true, leb-true, ltb-false, not-true}
use Rattle.std.proofs.Math.Nat.{mul-le-mul_right, suc-mul, zero-mul}
use Rattle.rope.specs.Places.{Words}
use Rattle.bound.specs.declared.charge.Charge.{Charge}
use Rattle.bound.specs.declared.charge.Limit.{Limit}
use Rattle.bound.specs.declared.checking.Count.{Count}
use Rattle.bound.specs.declared.checking.Row.{Row}
use Rattle.bound.specs.declared.counted.Counted.{Counted}
use Rattle.bound.specs.declared.site.Mode.{Mode}
use Rattle.bound.specs.declared.site.Site.{Site}
use Rattle.bound.specs.declared.turn.Leg.{Leg}
use Rattle.bound.specs.declared.turn.Turn.{Turn}
use Rattle.bound.specs.declared.turn.Turn.TheVariants.{Back, Through, One, Two, Four, Stop}
use Rattle.bound.specs.Bounds.{AreCounted, Counts, Has, IsBound, IsCounted, IsLeg, Leads, Way, Within, entries, rounds, stands_at, times}
use Rattle.bound.specs.Bounds.Has.{First, Next}
use Rattle.bound.specs.Bounds.Leads.{On, Past}
use Rattle.bound.specs.Bounds.Way.{Ends, Goes, Calls}
use Rattle.bound.specs.Turns.{turn}
use Rattle.bound.specs.Counting.{all_fit, counts_down, fits, is_counted, stands_at_entry, stands_at_head, stands_in}
use Rattle.bound.specs.Inside.Checks.{AreBounds, all_count, all_hold, allowed, call_holds, gain_at, leg_holds, leg_holds_by}
use Rattle.bound.specs.Inside.Checks.{number_at, number_by, room_after, row_holds, turn_holds_by}
use Rattle.bound.specs.Inside.Checks.{same}
use Rattle.bound.specs.Inside.Checks.{same_bool, same_mode, turn_holds, weight_at}

same_bools : (a b : Bool) → same_bool a b ≡ true → a ≡ b
same_bools true true e = refl
same_bools true false e = absurd (cc)
same_bools false true e = absurd (cc)
same_bools false false e = refl

same_modes : (m n : Mode) → same_mode m n ≡ true → m ≡ n
same_modes m n e =
    let last = and_parts (same_bool m.extra n.extra && same_bool m.indexed n.indexed && same_bool m.held n.held)
    (same_bool m.banked n.banked) e in
    let third = and_parts (same_bool m.extra n.extra && same_bool m.indexed n.indexed) (same_bool m.held n.held) last.0 in
    let first = and_parts (same_bool m.extra n.extra) (same_bool m.indexed n.indexed) third.0 in
    let extra = same_bools m.extra n.extra first.0 in
    let indexed = same_bools m.indexed n.indexed first.1 in
    let held = same_bools m.held n.held third.1 in
    let banked = same_bools m.banked n.banked last.1 in
    λ j. record { extra = extra j; indexed = indexed j; held = held j; banked = banked j }

pub is_same : (p q : Site) → same p q ≡ true → p ≡ q
is_same p q e =
    let last = and_parts (p.bank == q.bank && p.address == q.address) (same_mode p.mode q.mode) e in
    let first = and_parts (p.bank == q.bank) (p.address == q.address) last.0 in
    let bank = eqb-true p.bank q.bank first.0 in
    let address = eqb-true p.address q.address first.1 in
    let mode = same_modes p.mode q.mode last.1 in
    λ j. record { bank = bank j; address = address j; mode = mode j }

-- a row that is found in a table whose rows all pass a test
record Found (test : Row → Bool) (p : Site) (v : ℕ) : Type 0 where
  row : Row
  site : row.site ≡ p
  number : row.number ≡ v
  holds : test row ≡ true

found : (test : Row → Bool) (rows : List Row) (p : Site) (v : ℕ) → number_at rows p ≡ Some v → list_all test rows ≡ true → Found test p v
found test [] p v e all = absurd (cc)
found test (row ∷ rows) p v e all =
    go (same row.site p) refl e (λ f. found test rows p v f (and_parts (test row) (list_all test rows) all).1)
  where
    go : (b : Bool) → same row.site p ≡ b → number_by (cond b (Some row) (find (λ r. same r.site p) rows)) ≡ Some v
        → (number_at rows p ≡ Some v → Found test p v) → Found test p v
    go true is f later = record {
      row = row;
      site = is_same row.site p is;
      number = ap (λ o. unwrap_or o 0) f;
      holds = (and_parts (test row) (list_all test rows) all).0;
    }
    go false is f later = later f

-- there is room for a way on
record HasRoom (rows : List Row) (room more : ℕ) (l : Leg) : Type 0 where
  number : ℕ
  there : number_at rows l.to ≡ Some number
  within : number + (l.cycles + more) ≤ room

has_room : (rows : List Row) (room more : ℕ) (l : Leg) → leg_holds rows room more l ≡ true → HasRoom rows room more l
has_room rows room more l e = go (number_at rows l.to) refl e
  where
    go : (o : Option ℕ) → number_at rows l.to ≡ o → leg_holds_by room (l.cycles + more) o ≡ true → HasRoom rows room more l
    go None is f = absurd (cc)
    go (Some n) is f = record { number = n; there = is; within = leb-true (n + (l.cycles + more)) room f }

room_for : (rows : List Row) (room : ℕ) (a l : Leg) → l ≡ a → leg_holds rows room 0 a ≡ true → HasRoom rows room 0 l
room_for rows room a l i h = has_room rows room 0 l (subst (λ (x : Leg). leg_holds rows room 0 x ≡ true) (sym i) h)

leg_has_room : (known rows : List Row) (base room : ℕ) (t : Turn) (l : Leg) → turn_holds known rows base room t ≡ true → IsLeg l t
    → HasRoom rows room 0 l
leg_has_room known rows base room (Back n) l h i = absurd i
leg_has_room known rows base room (Through s m) l h i = absurd i
leg_has_room known rows base room (Stop why) l h i = absurd i
leg_has_room known rows base room (One a) l h i = room_for rows room a l i h
leg_has_room known rows base room (Two a b) l h (inl i) =
    room_for rows room a l i (and_parts (leg_holds rows room 0 a) (leg_holds rows room 0 b) h).0
leg_has_room known rows base room (Two a b) l h (inr i) =
    room_for rows room b l i (and_parts (leg_holds rows room 0 a) (leg_holds rows room 0 b) h).1
leg_has_room known rows base room (Four a b c d) l h i =
    let halves = and_parts (leg_holds rows room 0 a && leg_holds rows room 0 b) (leg_holds rows room 0 c && leg_holds rows room 0 d) h in
    let first = and_parts (leg_holds rows room 0 a) (leg_holds rows room 0 b) halves.0 in
    let later = and_parts (leg_holds rows room 0 c) (leg_holds rows room 0 d) halves.1 in
    elim i [
      | inl x ↦ room_for rows room a l x first.0
      | inr y ↦ elim y [
        | inl x ↦ room_for rows room b l x first.1
        | inr z ↦ elim z [
          | inl x ↦ room_for rows room c l x later.0
          | inr x ↦ room_for rows room d l x later.1
        ]
      ]
    ]

-- there is room for a call
record HasCall (known rows : List Row) (room : ℕ) (t : Site) (l : Leg) : Type 0 where
  cycles : ℕ
  there : number_at known t ≡ Some cycles
  leg : HasRoom rows room cycles l

has_call : (known rows : List Row) (room : ℕ) (t : Site) (l : Leg) → call_holds rows room (number_at known t) l ≡ true
    → HasCall known rows room t l
has_call known rows room t l e = go (number_at known t) refl e
  where
    go : (o : Option ℕ) → number_at known t ≡ o → call_holds rows room o l ≡ true → HasCall known rows room t l
    go None is f = absurd (cc)
    go (Some m) is f = record { cycles = m; there = is; leg = has_room rows room m l f }

-- what it costs to enter counted loops at a word
spend_at : List Count → Site → ℕ
spend_at [] p = 0
spend_at (c ∷ cs) p = cond (stands_at_entry c.counted p) ((c.counted.from + 1) * c.weight) 0 + spend_at cs p

-- what is left of room once that is paid
room_left : (counts : List Count) (p : Site) (room left : ℕ) → room_after counts p room ≡ Some left → room ≡ left + spend_at counts p
unfolding spend_at
room_left [] p room left e = let is : room ≡ left = ap (λ o. unwrap_or o 0) e in omega (arith, is)
room_left (c ∷ cs) p room left e = go (stands_at_entry c.counted p) e (λ r f. room_left cs p r left f)
  where
    k : ℕ
    k = (c.counted.from + 1) * c.weight

    join : (n r d l s : ℕ) → n ≤ r → d ≡ r - n → d ≡ l + s → r ≡ l + (n + s)
    join n r d l s e f g = omega arith

    paid_for : (b : Bool) → nat_lt room k ≡ b → cond b None (room_after cs p (room - k)) ≡ Some left
        → ((r : ℕ) → room_after cs p r ≡ Some left → r ≡ left + spend_at cs p) → room ≡ left + (k + spend_at cs p)
    paid_for true is f later = absurd (cc)
    paid_for false is f later =
        let enough : k ≤ room = ltb-false room k is in
        let rest : room - k ≡ left + spend_at cs p = later (room - k) f in
        join k room (room - k) left (spend_at cs p) enough refl rest

    go : (b : Bool) → cond b (cond (nat_lt room k) None (room_after cs p (room - k))) (room_after cs p room) ≡ Some left
        → ((r : ℕ) → room_after cs p r ≡ Some left → r ≡ left + spend_at cs p) → room ≡ left + (cond b k 0 + spend_at cs p)
    go true f later = paid_for (nat_lt room k) refl f later
    go false f later = let rest = later room f in omega (arith, rest)

-- what is left of room at a word
record HasLeft (known rows : List Row) (base : ℕ) (counts : List Count) (p : Site) (room : ℕ) (t : Turn) : Type 0 where
  left : ℕ
  is : room ≡ left + spend_at counts p
  holds : turn_holds known rows base left t ≡ true

has_left : (known rows : List Row) (base : ℕ) (counts : List Count) (p : Site) (room : ℕ) (t : Turn)
    → turn_holds_by known rows base (room_after counts p room) t ≡ true → HasLeft known rows base counts p room t
has_left known rows base counts p room t e = go (room_after counts p room) refl e
  where
    go : (o : Option ℕ) → room_after counts p room ≡ o → turn_holds_by known rows base o t ≡ true
        → HasLeft known rows base counts p room t
    go None is f = absurd (cc)
    go (Some left) is f = record { left = left; is = room_left counts p room left is; holds = f }

-- the number of a word in a table that was checked has room for where the word leads
holds_at : (words : Words) (kept : List ℕ) (charges : List Charge) (counts : List Count) (known rows : List Row) (base : ℕ)
    → all_hold words kept charges counts known rows base ≡ true → (p : Site) (v : ℕ) → number_at rows p ≡ Some v
    → HasLeft known rows base counts p (v + weight_at charges p + gain_at counts p) (turn words kept p)
unfolding all_hold
holds_at words kept charges counts known rows base all p v e =
    let f = found (row_holds words kept charges counts known rows base) rows p v e all in
    has_left known rows base counts p (v + weight_at charges p + gain_at counts p) (turn words kept p)
    (subst (λ (s : Site). holds_by v s ≡ true) f.site (subst (λ n. holds_by n f.row.site ≡ true) f.number f.holds))
  where
    holds_by : ℕ → Site → Bool
    holds_by n s =
        turn_holds_by known rows base (room_after counts s (n + weight_at charges s + gain_at counts s)) (turn words kept s)

-- what it costs to stand at some words; by counted loops; and to enter these
passed : List Charge → List Site → ℕ
passed charges [] = 0
passed charges (p ∷ ps) = weight_at charges p + passed charges ps

gained : List Count → List Site → ℕ
gained counts [] = 0
gained counts (p ∷ ps) = gain_at counts p + gained counts ps

spent : List Count → List Site → ℕ
spent counts [] = 0
spent counts (p ∷ ps) = spend_at counts p + spent counts ps

-- a way takes at most what the number of its first word and its costs have room for
record HasWay (words : Words) (kept : List ℕ) (limits : List Limit) (charges : List Charge) (counts : List Count) (known rows : List Row)
    (base : ℕ) : Type 0 where
  all : all_hold words kept charges counts known rows base ≡ true
  bounds : AreBounds words kept limits known

sound : (words : Words) (kept : List ℕ) (limits : List Limit) (charges : List Charge) (counts : List Count) (known rows : List Row)
    (base : ℕ) → HasWay words kept limits charges counts known rows base
    → (p : Site) (ps : List Site) (n v : ℕ) → Way words kept limits p ps n → number_at rows p ≡ Some v
    → n + base + spent counts ps ≤ v + passed charges ps + gained counts ps
unfolding passed gained spent
sound words kept limits charges counts known rows base x _ _ _ v (Ends p n is) e =
    let h = holds_at words kept charges counts known rows base x.all p v e in
    let room = leb-true (n + base) h.left (subst (λ t. turn_holds known rows base h.left t ≡ true) is h.holds) in
    omega (arith, room, h.is)
sound words kept limits charges counts known rows base x _ _ _ v (Goes p l ps n i way) e =
    let h = holds_at words kept charges counts known rows base x.all p v e in
    let r = leg_has_room known rows base h.left (turn words kept p) l h.holds i in
    let rest = sound words kept limits charges counts known rows base x l.to ps n r.number way r.there in
    omega (arith, r.within, rest, h.is)
sound words kept limits charges counts known rows base x _ _ _ v (Calls p t l qs ps m n is inner within count way) e =
    let h = holds_at words kept charges counts known rows base x.all p v e in
    let r = has_call known rows h.left t l (subst (λ u. turn_holds known rows base h.left u ≡ true) is h.holds) in
    let most : m ≤ r.cycles = x.bounds t r.cycles r.there qs m inner within count in
    let rest = sound words kept limits charges counts known rows base x l.to ps n r.leg.number way r.leg.there in
    omega (arith, r.leg.within, rest, most, h.is)

-- what it costs to come to a place as often as some words do
paid : Charge → List Site → ℕ
paid c [] = 0
paid c (p ∷ ps) = cond (stands_at c.limit p) c.weight 0 + paid c ps

paid_once : (w k m : ℕ) → m ≡ k * w → w + m ≡ (1 + k) * w
paid_once w k m e =
    let more : 1 + k ≡ suc k = omega arith in
    let whole : (1 + k) * w ≡ k * w + w = subst (λ x. x * w ≡ k * w + w) (sym more) (suc-mul k w) in
    join (k * w) ((1 + k) * w) w m e whole
  where
    join : (a b v n : ℕ) → n ≡ a → b ≡ a + v → v + n ≡ b
    join a b v n f g = omega arith

paid_not : (w k m : ℕ) → m ≡ k * w → 0 + m ≡ (0 + k) * w
paid_not w k m e = zero-add m ∙ e ∙ ap (λ x. x * w) (sym (zero-add k))

paid_times : (c : Charge) (ps : List Site) → paid c ps ≡ times c.limit ps * c.weight
unfolding paid
paid_times c [] = sym (zero-mul c.weight)
paid_times c (p ∷ ps) = go (stands_at c.limit p) (paid_times c ps)
  where
    go : (b : Bool) → paid c ps ≡ times c.limit ps * c.weight
        → cond b c.weight 0 + paid c ps ≡ (cond b 1 0 + times c.limit ps) * c.weight
    go true e = paid_once c.weight (times c.limit ps) (paid c ps) e
    go false e = paid_not c.weight (times c.limit ps) (paid c ps) e

-- what it costs to stand at some words is what it costs to come to the place of one limit, and to stand there by the others
passed_none : (ps : List Site) → passed [] ps ≡ 0
unfolding passed
passed_none [] = refl
passed_none (p ∷ ps) = zero-add (passed [] ps) ∙ passed_none ps

passed_split : (c : Charge) (cs : List Charge) (ps : List Site) → passed (c ∷ cs) ps ≤ paid c ps + passed cs ps
unfolding passed paid
passed_split c cs [] = omega arith
passed_split c cs (p ∷ ps) = go (stands_at c.limit p) (passed_split c cs ps)
  where
    go : (b : Bool) → passed (c ∷ cs) ps ≤ paid c ps + passed cs ps
        → cond b c.weight (weight_at cs p) + passed (c ∷ cs) ps ≤ (cond b c.weight 0 + paid c ps) + (weight_at cs p + passed cs ps)
    go true e = omega (arith, e)
    go false e = omega (arith, e)

abbrev pub limits_of : List Charge → List Limit
limits_of charges = map (λ c. c.limit) charges

passed_within : (charges : List Charge) (ps : List Site) → Within (limits_of charges) ps → passed charges ps ≤ allowed charges
passed_within [] ps w = omega (arith, passed_none ps)
passed_within (c ∷ cs) ps w =
    let split = passed_split c cs ps in
    let is = paid_times c ps in
    let few : times c.limit ps * c.weight ≤ c.limit.most * c.weight = mul-le-mul_right c.weight w.0 in
    let rest = passed_within cs ps w.1 in
    join (paid c ps) (times c.limit ps * c.weight) (c.limit.most * c.weight) (passed cs ps) (allowed cs) (passed (c ∷ cs) ps)
    is few rest split
  where
    join : (a b m q d n : ℕ) → a ≡ b → b ≤ m → q ≤ d → n ≤ a + q → n ≤ m + d
    join a b m q d n e f g h = omega arith

-- each word of a routine stands in a table that was checked and has the routine's first
record HasNumber (rows : List Row) (p : Site) : Type 0 where
  number : ℕ
  there : number_at rows p ≡ Some number

closed : (words : Words) (kept : List ℕ) (limits : List Limit) (charges : List Charge) (counts : List Count) (known rows : List Row)
    (base : ℕ) → HasWay words kept limits charges counts known rows base
    → (r p : Site) (v : ℕ) → number_at rows r ≡ Some v → Has words kept r p → HasNumber rows p
closed words kept limits charges counts known rows base x _ _ v e (First r) = record { number = v; there = e }
closed words kept limits charges counts known rows base x _ _ v e (Next r p q has leads) =
    on p q leads (closed words kept limits charges counts known rows base x r p v e has)
  where
    on : (a b : Site) → Leads words kept a b → HasNumber rows a → HasNumber rows b
    on _ _ (On p l i) h =
        let holds = holds_at words kept charges counts known rows base x.all p h.number h.there in
        let room = leg_has_room known rows base holds.left (turn words kept p) l holds.holds i in
        record { number = room.number; there = room.there }
    on _ _ (Past p t l is) h =
        let holds = holds_at words kept charges counts known rows base x.all p h.number h.there in
        let call = has_call known rows holds.left t l (subst (λ u. turn_holds known rows base holds.left u ≡ true) is holds.holds) in
        record { number = call.leg.number; there = call.leg.there }

-- loops that were checked are counted ones
one_is_counted : (words : Words) (kept : List ℕ) (limits : List Limit) (charges : List Charge) (counts : List Count)
    (known rows : List Row) (base : ℕ) → HasWay words kept limits charges counts known rows base
    → (r : Site) (v : ℕ) → number_at rows r ≡ Some v → (c : Counted) → is_counted words kept rows r c ≡ true → IsCounted words kept r c
unfolding all_fit
one_is_counted words kept limits charges counts known rows base x r v e c is =
    let parts = and_parts (counts_down c && not (stands_in c r)) (list_all (λ row. fits words kept c row.site) rows) is in
    let first = and_parts (counts_down c) (not (stands_in c r)) parts.0 in
    record {
      down = first.0;
      outside = not-true (stands_in c r) first.1;
      each = λ q has.
          let n = closed words kept limits charges counts known rows base x r q v e has in
          let f = found (λ row. fits words kept c row.site) rows q n.number n.there parts.1 in
          subst (λ (s : Site). fits words kept c s ≡ true) f.site f.holds;
    }

are_counted : (words : Words) (kept : List ℕ) (limits : List Limit) (charges : List Charge) (counts : List Count) (known rows : List Row)
    (base : ℕ) → HasWay words kept limits charges counts known rows base
    → (r : Site) (v : ℕ) → number_at rows r ≡ Some v → (cs : List Count) → all_count words kept rows r cs ≡ true
    → AreCounted words kept r (map (λ c. c.counted) cs)
are_counted words kept limits charges counts known rows base x r v e [] all = tt
are_counted words kept limits charges counts known rows base x r v e (c ∷ cs) all =
    let parts = and_parts (is_counted words kept rows r c.counted) (all_count words kept rows r cs) all in (
      one_is_counted words kept limits charges counts known rows base x r v e c.counted parts.0,
      are_counted words kept limits charges counts known rows base x r v e cs parts.1,
    )

-- what it costs to stand at some words by counted loops is at most what it costs to enter these
gained_split : (c : Count) (cs : List Count) (ps : List Site) → gained (c ∷ cs) ps ≤ rounds c.counted ps * c.weight + gained cs ps
unfolding gained
gained_split c cs [] = omega arith
gained_split c cs (p ∷ ps) = go (stands_at_head c.counted p) (gained_split c cs ps)
  where
    go : (b : Bool) → gained (c ∷ cs) ps ≤ rounds c.counted ps * c.weight + gained cs ps
        → cond b c.weight (gain_at cs p) + gained (c ∷ cs) ps
        ≤ (cond b 1 0 + rounds c.counted ps) * c.weight + (gain_at cs p + gained cs ps)
    go true e = omega (arith, e, paid_once c.weight (rounds c.counted ps) (rounds c.counted ps * c.weight) refl)
    go false e = omega (arith, e, paid_not c.weight (rounds c.counted ps) (rounds c.counted ps * c.weight) refl)

spent_split : (c : Count) (cs : List Count) (ps : List Site)
    → spent (c ∷ cs) ps ≡ entries c.counted ps * ((c.counted.from + 1) * c.weight) + spent cs ps
unfolding spent spend_at
spent_split c cs [] = omega arith
spent_split c cs (p ∷ ps) = go (stands_at_entry c.counted p) (spent_split c cs ps)
  where
    k : ℕ
    k = (c.counted.from + 1) * c.weight

    once : (w m r x y z : ℕ) → w + m ≡ r → x ≡ m + z → (w + y) + x ≡ r + (y + z)
    once w m r x y z f g = omega arith

    never : (m r x y z : ℕ) → 0 + m ≡ r → x ≡ m + z → (0 + y) + x ≡ r + (y + z)
    never m r x y z f g = omega arith

    go : (b : Bool) → spent (c ∷ cs) ps ≡ entries c.counted ps * k + spent cs ps
        → (cond b k 0 + spend_at cs p) + spent (c ∷ cs) ps ≡ (cond b 1 0 + entries c.counted ps) * k + (spend_at cs p + spent cs ps)
    go true e = once k (entries c.counted ps * k) ((1 + entries c.counted ps) * k) (spent (c ∷ cs) ps) (spend_at cs p) (spent cs ps)
        (paid_once k (entries c.counted ps) (entries c.counted ps * k) refl) e
    go false e = never (entries c.counted ps * k) ((0 + entries c.counted ps) * k) (spent (c ∷ cs) ps) (spend_at cs p) (spent cs ps)
        (paid_not k (entries c.counted ps) (entries c.counted ps * k) refl) e

gained_none : (ps : List Site) → gained [] ps ≡ 0
unfolding gained
gained_none [] = refl
gained_none (p ∷ ps) = zero-add (gained [] ps) ∙ gained_none ps

gained_within : (words : Words) (kept : List ℕ) (p : Site) (counts : List Count) (ps : List Site) → Counts words kept p ps
    → AreCounted words kept p (map (λ c. c.counted) counts) → gained counts ps ≤ spent counts ps
gained_within words kept p [] ps count are = omega (arith, gained_none ps)
gained_within words kept p (c ∷ cs) ps count are =
    join (rounds c.counted ps * c.weight) (entries c.counted ps * ((c.counted.from + 1) * c.weight)) (gained cs ps) (spent cs ps)
    (gained (c ∷ cs) ps) (spent (c ∷ cs) ps) most (gained_split c cs ps) (spent_split c cs ps)
    (gained_within words kept p cs ps count are.1)
  where
    by_times : (r k e w : ℕ) → r * w ≤ (k * e) * w → r * w ≤ e * (k * w)
    by_times r k e w f = omega (arith, f)

    most : rounds c.counted ps * c.weight ≤ entries c.counted ps * ((c.counted.from + 1) * c.weight)
    most = by_times (rounds c.counted ps) (c.counted.from + 1) (entries c.counted ps) c.weight
        (mul-le-mul_right c.weight (count c.counted are.0))

    join : (a b g s x y : ℕ) → a ≤ b → x ≤ a + g → y ≡ b + s → g ≤ s → x ≤ y
    join a b g s x y e f h i = omega arith

-- what was checked is a bound
pub bound_is : (words : Words) (kept : List ℕ) (charges : List Charge) (counts : List Count) (known rows : List Row) (base : ℕ)
    → all_hold words kept charges counts known rows base ≡ true → AreBounds words kept (limits_of charges) known
    → (p : Site) (number most : ℕ) → number_at rows p ≡ Some number → all_count words kept rows p counts ≡ true
    → number + allowed charges ≤ most + base
    → IsBound words kept (limits_of charges) p most
bound_is words kept charges counts known rows base all bounds p number most e counted le ps n way within count =
    let x : HasWay words kept (limits_of charges) charges counts known rows base = record { all = all; bounds = bounds } in
    let most_of = sound words kept (limits_of charges) charges counts known rows base x p ps n number way e in
    let costs = passed_within charges ps within in
    let loops = gained_within words kept p counts ps count
    (are_counted words kept (limits_of charges) charges counts known rows base x p number e counts counted) in
    omega (arith, most_of, costs, loops, le)

-- and loops that were checked are counted ones
pub counted_are : (words : Words) (kept : List ℕ) (charges : List Charge) (counts : List Count) (known rows : List Row) (base : ℕ)
    → all_hold words kept charges counts known rows base ≡ true → AreBounds words kept (limits_of charges) known
    → (p : Site) (number : ℕ) → number_at rows p ≡ Some number → all_count words kept rows p counts ≡ true
    → AreCounted words kept p (map (λ c. c.counted) counts)
counted_are words kept charges counts known rows base all bounds p number e counted =
    are_counted words kept (limits_of charges) charges counts known rows base (record { all = all; bounds = bounds }) p number e counts
    counted

-- a table of bounds has one more
number_grown : (known : List Row) (row : Row) (p : Site) (most : ℕ) → number_at (known ++ row ∷ []) p ≡ Some most
    → (number_at known p ≡ Some most) ⊎ ((row.site ≡ p) × (row.number ≡ most))
number_grown [] row p most e = go (same row.site p) refl e
  where
    go : (b : Bool) → same row.site p ≡ b → number_by (cond b (Some row) None) ≡ Some most
        → (number_at [] p ≡ Some most) ⊎ ((row.site ≡ p) × (row.number ≡ most))
    go true is f = inr (is_same row.site p is, ap (λ o. unwrap_or o 0) f)
    go false is f = absurd (cc)
number_grown (k ∷ ks) row p most e = go (same k.site p) e (number_grown ks row p most)
  where
    go : (b : Bool) → number_by (cond b (Some k) (find (λ r. same r.site p) (ks ++ row ∷ []))) ≡ Some most
        → (number_at (ks ++ row ∷ []) p ≡ Some most → (number_at ks p ≡ Some most) ⊎ ((row.site ≡ p) × (row.number ≡ most)))
        → (number_by (cond b (Some k) (find (λ r. same r.site p) ks)) ≡ Some most) ⊎ ((row.site ≡ p) × (row.number ≡ most))
    go true f later = inl f
    go false f later = later f

pub bounds_none : (words : Words) (kept : List ℕ) (limits : List Limit) → AreBounds words kept limits []
bounds_none words kept limits p most e = absurd (cc)

pub bounds_more : (words : Words) (kept : List ℕ) (limits : List Limit) (known : List Row) (row : Row) → AreBounds words kept limits known
    → IsBound words kept limits row.site row.number → AreBounds words kept limits (known ++ row ∷ [])
bounds_more words kept limits known row bounds one p most e = elim (number_grown known row p most e) [
  | inl before ↦ bounds p most before
  | inr last ↦ subst (λ (q : Site). IsBound words kept limits q most) last.0
      (subst (λ n. IsBound words kept limits row.site n) last.1 one)
]
