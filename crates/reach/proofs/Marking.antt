-- Spots are come to, one after another.
use Rattle.std.proofs.Common.{◌≡◌, ℕ, zero, suc, ◌+◌, ◌*◌, ◌<◌, ◌≤◌, ◌==◌, ◌⊎◌, Bool, true, false, cond, List, [], ◌∷◌, ◌++◌}
use Rattle.std.proofs.Common.{length, take, get_or, set, refl, sym, ap, subst, ◌∙◌, inl, inr, arith, length-append}
use Rattle.std.proofs.lemmas.Bool.{cases_eq, cases_lt}
use Rattle.std.proofs.lemmas.List.{get_or-set_same, get_or-set_other, get_or_past, length-set, take-append-le}
use Rattle.reach.specs.declared.spot.How.{How}
use Rattle.reach.specs.declared.spot.How.TheVariants.{Executes, Reads}
use Rattle.reach.specs.declared.spot.Spot.{Spot}
use Rattle.reach.specs.Ways.{Among}
use Rattle.reach.specs.Marks.{IsSpot, has, how_number, number, spots}
use Rattle.reach.specs.Inside.Seen.{Agree, IsNothing, marks_all, marks_by, order_all, order_by, unmarked, with_mark}
use Rattle.reach.proofs.Lists.{among_either, among_left, among_one, among_right}

-- the way to come to a word, by its number
how_at : ℕ → How
how_at n =
    cond (n == 0) (Executes false false) (cond (n == 1) (Executes true false)
    (cond (n == 2) (Executes false true) (cond (n == 3) (Executes true true) Reads)))

how_back : (h : How) → how_at (how_number h) ≡ h
unfolding how_at
how_back (Executes false false) = refl
how_back (Executes true false) = refl
how_back (Executes false true) = refl
how_back (Executes true true) = refl
how_back Reads = refl

same_how : (h k : How) → how_number h ≡ how_number k → h ≡ k
same_how h k e = sym (how_back h) ∙ ap how_at e ∙ how_back k

few_hows : (h : How) → how_number h ≤ 4
few_hows (Executes false false) = omega arith
few_hows (Executes true false) = omega arith
few_hows (Executes false true) = omega arith
few_hows (Executes true true) = omega arith
few_hows Reads = omega arith

-- no two spots have one number
record Parts (b a h c d k : ℕ) : Type 0 where
  bank : b ≡ c
  address : a ≡ d
  how : h ≡ k

parts : (b a h c d k : ℕ) → a < 4096 → h ≤ 4 → d < 4096 → k ≤ 4 → (b * 4096 + a) * 5 + h ≡ (c * 4096 + d) * 5 + k → Parts b a h c d k
parts b a h c d k la lh ld lk e = record { bank = omega arith; address = omega arith; how = omega arith }

pub same_spot : (p q : Spot) → IsSpot p → IsSpot q → number p ≡ number q → p ≡ q
same_spot p q ip iq e =
    let same = parts p.bank p.address (how_number p.how) q.bank q.address (how_number q.how) ip.1 (few_hows p.how) iq.1 (few_hows q.how) e
    in
    let how = same_how p.how q.how same.how in
    λ j. record { bank = same.bank j; address = same.address j; how = how j }

pub number_within : (p : Spot) → IsSpot p → number p < spots
number_within p i = omega (arith, few_hows p.how, i.0, i.1)

-- a spot is marked, and no other
marked_here : (marks : List Bool) (q : Spot) → length marks ≡ spots → IsSpot q → has (with_mark marks q) q ≡ true
marked_here marks q each i = get_or-set_same marks (number q) true false (omega (arith, each, number_within q i))

marked_else : (marks : List Bool) (p q : Spot) → (number p ≡ number q → ⊥) → has (with_mark marks q) p ≡ has marks p
marked_else marks p q apart = get_or-set_other marks (number q) (number p) true false apart

marks_stay : (marks : List Bool) (p q : Spot) → length marks ≡ spots → IsSpot q → has marks p ≡ true → has (with_mark marks q) p ≡ true
marks_stay marks p q each i h = elim (cases_eq (number p) (number q)) [
  | inl same ↦ ap (λ n. get_or (with_mark marks q) n false) same ∙ marked_here marks q each i
  | inr apart ↦ marked_else marks p q apart ∙ h
]

-- one fewer is not marked
fewer : (marks : List Bool) (n : ℕ) → n < length marks → get_or marks n false ≡ false → unmarked (set marks n true) + 1 ≡ unmarked marks
fewer [] n lt e = absurd (omega (arith, lt))
fewer (true ∷ marks) zero lt e = absurd (cc)
fewer (false ∷ marks) zero lt e = omega arith
fewer (m ∷ marks) (suc n) lt e = omega (arith, fewer marks n (omega (arith, lt)) e)

-- what is so once a spot is come to
record ComeTo (marks : List Bool) (order : List Spot) (q : Spot) (m : List Bool) (o : List Spot) : Type 0 where
  agree : Agree m o
  here : has m q ≡ true
  grows : (p : Spot) → has marks p ≡ true → has m p ≡ true
  among : (p : Spot) → Among p o → Among p order ⊎ (p ≡ q)
  stays : (p : Spot) → Among p order → Among p o
  longer : length order ≤ length o
  front : (n : ℕ) → n ≤ length order → take n o ≡ take n order
  less : 2 * unmarked m + length o ≤ 2 * unmarked marks + length order

come_new : (marks : List Bool) (order : List Spot) (q : Spot) → Agree marks order → IsSpot q → has marks q ≡ false
    → ComeTo marks order q (with_mark marks q) (order ++ q ∷ [])
come_new marks order q a i not_so =
    let grows : (p : Spot) → has marks p ≡ true → has (with_mark marks q) p ≡ true = λ p h. marks_stay marks p q a.each i h in
    let here = marked_here marks q a.each i in
    let more = length-append order (q ∷ []) in
    record {
      agree = record {
        each = length-set marks (number q) true ∙ a.each;
        inside = λ p h. elim (among_either p order (q ∷ []) h) [
          | inl before ↦ a.inside p before
          | inr last ↦ subst IsSpot (sym (among_one p q last)) i
        ];
        marked = λ p h. elim (among_either p order (q ∷ []) h) [
          | inl before ↦ grows p (a.marked p before)
          | inr last ↦ subst (λ (r : Spot). has (with_mark marks q) r ≡ true) (sym (among_one p q last)) here
        ];
        found = λ p ip h. elim (cases_eq (number p) (number q)) [
          | inl same ↦ among_right p order (q ∷ []) (inl (same_spot p q ip i same))
          | inr apart ↦ among_left p order (q ∷ []) (a.found p ip (sym (marked_else marks p q apart) ∙ h))
        ];
      };
      here = here;
      grows = grows;
      among = λ p h. elim (among_either p order (q ∷ []) h) [ inl before ↦ inl before | inr last ↦ inr (among_one p q last) ];
      stays = λ p h. among_left p order (q ∷ []) h;
      longer = omega (arith, more);
      front = λ n le. take-append-le n order (q ∷ []) le;
      less = omega (arith, more, fewer marks (number q) (omega (arith, a.each, number_within q i)) not_so);
    }

come_again : (marks : List Bool) (order : List Spot) (q : Spot) → Agree marks order → has marks q ≡ true → ComeTo marks order q marks order
come_again marks order q a so = record {
  agree = a;
  here = so;
  grows = λ p h. h;
  among = λ p h. inl h;
  stays = λ p h. h;
  longer = omega arith;
  front = λ n le. refl;
  less = omega arith;
}

come_to : (marks : List Bool) (order : List Spot) (q : Spot) → Agree marks order → IsSpot q
    → ComeTo marks order q (marks_by marks q) (order_by marks order q)
come_to marks order q a i = go (has marks q) refl
  where
    go : (b : Bool) → has marks q ≡ b → ComeTo marks order q (cond b marks (with_mark marks q)) (cond b order (order ++ q ∷ []))
    go true so = come_again marks order q a so
    go false not_so = come_new marks order q a i not_so

-- what is so once some are
pub record ComeToAll (marks : List Bool) (order : List Spot) (qs : List Spot) (m : List Bool) (o : List Spot) : Type 0 where
  pub agree : Agree m o
  pub here : (q : Spot) → Among q qs → has m q ≡ true
  pub grows : (p : Spot) → has marks p ≡ true → has m p ≡ true
  pub among : (p : Spot) → Among p o → Among p order ⊎ Among p qs
  pub stays : (p : Spot) → Among p order → Among p o
  pub longer : length order ≤ length o
  pub front : (n : ℕ) → n ≤ length order → take n o ≡ take n order
  pub less : 2 * unmarked m + length o ≤ 2 * unmarked marks + length order

pub come_to_all : (marks : List Bool) (order : List Spot) (qs : List Spot) → Agree marks order → ((q : Spot) → Among q qs → IsSpot q)
    → ComeToAll marks order qs (marks_all marks qs) (order_all marks order qs)
come_to_all marks order [] a i = record {
  agree = a;
  here = λ q h. absurd h;
  grows = λ p h. h;
  among = λ p h. inl h;
  stays = λ p h. h;
  longer = omega arith;
  front = λ n le. refl;
  less = omega arith;
}
come_to_all marks order (q ∷ qs) a i =
    let one = come_to marks order q a (i q (inl refl)) in
    let rest = come_to_all (marks_by marks q) (order_by marks order q) qs one.agree (λ p h. i p (inr h)) in
    record {
      agree = rest.agree;
      here = λ p h. here_of p h one.here rest.grows rest.here;
      grows = λ p h. rest.grows p (one.grows p h);
      among = λ p h. among_of p (rest.among p h) one.among;
      stays = λ p h. rest.stays p (one.stays p h);
      longer = omega (arith, one.longer, rest.longer);
      front = λ n le. rest.front n (omega (arith, le, one.longer)) ∙ one.front n le;
      less = omega (arith, one.less, rest.less);
    }
  where
    here_of : (p : Spot) → Among p (q ∷ qs) → has (marks_by marks q) q ≡ true
        → ((r : Spot) → has (marks_by marks q) r ≡ true → has (marks_all (marks_by marks q) qs) r ≡ true)
        → ((r : Spot) → Among r qs → has (marks_all (marks_by marks q) qs) r ≡ true) → has (marks_all (marks_by marks q) qs) p ≡ true
    here_of p (inl same) first grows later = subst (λ (r : Spot). has (marks_all (marks_by marks q) qs) r ≡ true) (sym same) (grows q first)
    here_of p (inr more) first grows later = later p more

    among_of : (p : Spot) → Among p (order_by marks order q) ⊎ Among p qs
        → ((r : Spot) → Among r (order_by marks order q) → Among r order ⊎ (r ≡ q)) → Among p order ⊎ Among p (q ∷ qs)
    among_of p (inl before) one = elim (one p before) [ inl old ↦ inl old | inr same ↦ inr (inl same) ]
    among_of p (inr more) one = inr (inr more)

-- nothing is come to
pub nothing_agrees : (marks : List Bool) → IsNothing marks → Agree marks []
nothing_agrees marks e = record {
  each = e.each;
  inside = λ q h. absurd h;
  marked = λ q h. absurd h;
  found = λ q i h. absurd (let none : has marks q ≡ false = e.none (number q) in cc);
}

-- all are made without a mark
pub none_marked : (marks : List Bool) (n old : ℕ) → length marks ≡ n → n ≡ spots → old ≡ 0
    → ((k : ℕ) (d : Bool) → true ≡ true → old ≤ k → k < spots → get_or marks k d ≡ false) → IsNothing marks
none_marked marks n old each is none h = record {
  each = each ∙ is;
  none = λ k. elim (cases_lt k spots) [
    | inl within ↦ h k false refl (omega (arith, none)) within
    | inr beyond ↦ get_or_past marks k false (omega (arith, each, is, beyond))
  ];
}
