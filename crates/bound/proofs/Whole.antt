-- Where all words of a routine are found each leads on.
use Rattle.std.proofs.Common.{◌≡◌, ℕ, zero, suc, ◌+◌, ◌<◌, ◌≤◌, ◌||◌, Bool, true, false, cond, not, List, [], ◌∷◌, ◌++◌, All}
use Rattle.std.proofs.Common.{Option, Some, None, get_or, length, is_some, unwrap_or, arith, refl, sym, ap, subst, ◌∙◌, inl, inr}
use Rattle.std.specs.List.{position, position_or_len}
use Rattle.std.proofs.lemmas.Bool.{cases_eq, cases_lt, le-ltb}
use Rattle.std.proofs.lemmas.List.Elements.{All-cons, All-head, All-nil, All-tail}
use Rattle.rope.specs.Places.{Words}
use Rattle.bound.specs.declared.charge.Limit.{Limit}
use Rattle.bound.specs.declared.checking.Row.{Row}
use Rattle.bound.specs.declared.graph.Explored.{Explored}
use Rattle.bound.specs.declared.graph.Explored.TheVariants as explored
use Rattle.bound.specs.declared.site.Site.{Site}
use Rattle.bound.specs.declared.turn.Leg.{Leg}
use Rattle.bound.specs.declared.turn.Turn.{Turn}
use Rattle.bound.specs.declared.turn.Turn.TheVariants.{Back, Through, One, Two, Four, Stop}
use Rattle.bound.specs.Bounds.{Has, IsLeg, IsWhole, Leads}
use Rattle.bound.specs.Bounds.Has.{First, Next}
use Rattle.bound.specs.Bounds.Leads.{On, Past}
use Rattle.bound.specs.Inside.Checks.{AreBounds, number_at, same}
use Rattle.bound.specs.Inside.Searches.{AllLeadOn, IsExplored, IsFoundWhole, IsNew, is_in, leads_on, stop_at, targets, with_all, with_site}
use Rattle.bound.specs.Turns.{turn}
use Rattle.bound.proofs.Apart.{same_refl}
use Rattle.bound.proofs.Chains.{calls, stops}
use Rattle.bound.proofs.Sound.{is_same}

-- ## Some words and more
-- a word among some is among more
in_front : (ps qs : List Site) (q : Site) → is_in ps q ≡ true → is_in (ps ++ qs) q ≡ true
in_front [] qs q e = absurd (cc)
in_front (p ∷ ps) qs q e = go (same p q) e (λ f. in_front ps qs q f)
  where
    go : (b : Bool) → (b || is_in ps q) ≡ true → (is_in ps q ≡ true → is_in (ps ++ qs) q ≡ true) → (b || is_in (ps ++ qs) q) ≡ true
    go true f later = refl
    go false f later = later f

in_last : (ps : List Site) (q : Site) → is_in (ps ++ q ∷ []) q ≡ true
in_last [] q = ap (λ (b : Bool). b || false) (same_refl q)
in_last (p ∷ ps) q = go (same p q) (in_last ps q)
  where
    go : (b : Bool) → is_in (ps ++ q ∷ []) q ≡ true → (b || is_in (ps ++ q ∷ []) q) ≡ true
    go true f = refl
    go false f = f

in_to : (ps : List Site) (q : Site) → position_or_len (λ p. same p q) ps < length ps → is_in ps q ≡ true
in_to [] q lt = absurd (omega (arith, lt))
in_to (p ∷ ps) q lt = go (same p q) lt (λ f. in_to ps q f)
  where
    go : (b : Bool) → cond (not b) (1 + position_or_len (λ r. same r q) ps) 0 < suc (length ps)
        → (position_or_len (λ r. same r q) ps < length ps → is_in ps q ≡ true) → (b || is_in ps q) ≡ true
    go true f later = refl
    go false f later = later (omega (arith, f))

in_from : (ps : List Site) (q : Site) → is_some (position (λ p. same p q) ps) ≡ true → is_in ps q ≡ true
in_from ps q e = elim (cases_lt (position_or_len (λ p. same p q) ps) (length ps)) [
  | inl within ↦ in_to ps q within
  | inr beyond ↦ absurd (let none : is_some (position (λ p. same p q) ps) ≡ false =
      ap (λ (b : Bool). is_some (cond b (Some (position_or_len (λ p. same p q) ps)) None))
      (le-ltb (position_or_len (λ p. same p q) ps) (length ps) beyond) in cc)
]

-- some words, and then more
record Grows (ps qs : List Site) : Type 0 where
  more : List Site
  is : qs ≡ ps ++ more

append_none : (ps : List Site) → ps ≡ ps ++ []
append_none [] = refl
append_none (p ∷ ps) = ap (λ rs. p ∷ rs) (append_none ps)

append_more : (ps qs rs : List Site) → (ps ++ qs) ++ rs ≡ ps ++ (qs ++ rs)
append_more [] qs rs = refl
append_more (p ∷ ps) qs rs = ap (λ xs. p ∷ xs) (append_more ps qs rs)

grows_one : (ps : List Site) (q : Site) → Grows ps (with_site ps q)
grows_one ps q = go (is_some (position (λ p. same p q) ps))
  where
    go : (b : Bool) → Grows ps (cond b ps (ps ++ q ∷ []))
    go true = record { more = []; is = append_none ps }
    go false = record { more = q ∷ []; is = refl }

grows_all : (ps qs : List Site) → Grows ps (with_all ps qs)
grows_all ps [] = record { more = []; is = append_none ps }
grows_all ps (q ∷ qs) =
    let one = grows_one ps q in
    let all = grows_all (with_site ps q) qs in
    record { more = one.more ++ all.more; is = all.is ∙ ap (λ xs. xs ++ all.more) one.is ∙ append_more ps one.more all.more }

in_grown : (ps qs : List Site) (q : Site) → Grows ps qs → is_in ps q ≡ true → is_in qs q ≡ true
in_grown ps qs q g e = subst (λ xs. is_in xs q ≡ true) (sym g.is) (in_front ps g.more q e)

in_one : (ps : List Site) (q : Site) → is_in (with_site ps q) q ≡ true
in_one ps q = go (is_some (position (λ p. same p q) ps)) refl
  where
    go : (b : Bool) → is_some (position (λ p. same p q) ps) ≡ b → is_in (cond b ps (ps ++ q ∷ [])) q ≡ true
    go true e = in_from ps q e
    go false e = in_last ps q

in_all : (ps qs : List Site) → All (λ q. is_in (with_all ps qs) q ≡ true) qs
in_all ps [] = All-nil (λ q. is_in ps q ≡ true)
in_all ps (q ∷ qs) =
    All-cons (λ r. is_in (with_all (with_site ps q) qs) r ≡ true) q qs
    (in_grown (with_site ps q) (with_all (with_site ps q) qs) q (grows_all (with_site ps q) qs) (in_one ps q))
    (in_all (with_site ps q) qs)

-- ## Words that lead on
-- a word leads on, to some words
pub record LeadsTo (words : Words) (kept : List ℕ) (known : List Row) (ps : List Site) (p : Site) : Type 0 where
  pub on : leads_on known (turn words kept p) ≡ true
  pub there : All (λ q. is_in ps q ≡ true) (targets (turn words kept p))

-- so does each of the first of some
abbrev pub FirstLeadOn : Words → List ℕ → List Row → List Site → ℕ → Type 0
FirstLeadOn words kept known ps n = (k : ℕ) (d : Site) → k < n → k < length ps → LeadsTo words kept known ps (get_or ps k d)

leads_grown : (words : Words) (kept : List ℕ) (known : List Row) (ps qs : List Site) (p : Site) → Grows ps qs
    → LeadsTo words kept known ps p → LeadsTo words kept known qs p
leads_grown words kept known ps qs p g h =
    record { on = h.on; there = λ k d lt. in_grown ps qs (get_or (targets (turn words kept p)) k d) g (h.there k d lt) }

any_default : (ps : List Site) (n : ℕ) (d e : Site) → n < length ps → get_or ps n d ≡ get_or ps n e
any_default [] n d e lt = absurd (omega (arith, lt))
any_default (p ∷ ps) zero d e lt = refl
any_default (p ∷ ps) (suc n) d e lt = any_default ps n d e (omega (arith, lt))

in_place : (ps qs : List Site) (n : ℕ) (d : Site) → n < length ps → get_or (ps ++ qs) n d ≡ get_or ps n d
in_place [] qs n d lt = absurd (omega (arith, lt))
in_place (p ∷ ps) qs zero d lt = refl
in_place (p ∷ ps) qs (suc n) d lt = in_place ps qs n d (omega (arith, lt))

pub one_leads : (words : Words) (kept : List ℕ) (known : List Row) (ps qs : List Site) (n : ℕ) (p : Site) (t : Turn)
    → FirstLeadOn words kept known ps n → n < length ps → p ≡ get_or ps n p → t ≡ turn words kept p → leads_on known t ≡ true
    → qs ≡ with_all ps (targets t) → FirstLeadOn words kept known qs (n + 1)
one_leads words kept known ps qs n p t done lt here is on made k d le lq =
    subst (λ (x : Site). LeadsTo words kept known qs x) (sym (ap (λ xs. get_or xs k d) grown.is ∙ in_place ps grown.more k d inside))
    leads
  where
    grown : Grows ps qs
    grown = subst (λ xs. Grows ps xs) (sym made) (grows_all ps (targets t))

    inside : k < length ps
    inside = omega (arith, le, lt)

    this : LeadsTo words kept known qs p
    this = record {
      on = subst (λ u. leads_on known u ≡ true) is on;
      there =
          subst (λ u. All (λ q. is_in qs q ≡ true) (targets u)) is
          (subst (λ xs. All (λ q. is_in xs q ≡ true) (targets t)) (sym made) (in_all ps (targets t)));
    }

    leads : LeadsTo words kept known qs (get_or ps k d)
    leads = elim (cases_eq k n) [
      | inl same ↦ subst (λ (x : Site). LeadsTo words kept known qs x)
          (here ∙ any_default ps n p d lt ∙ ap (λ m. get_or ps m d) (sym same)) this
      | inr other ↦ leads_grown words kept known ps qs (get_or ps k d) grown (done k d (omega (arith, le, other)) inside)
    ]

pub first_stays : (r : Site) (ps qs ts : List Site) → is_in ps r ≡ true → qs ≡ with_all ps ts → is_in qs r ≡ true
first_stays r ps qs ts e made = subst (λ xs. is_in xs r ≡ true) (sym made) (in_grown ps (with_all ps ts) r (grows_all ps ts) e)

pub first_in : (r : Site) (ps : List Site) → ps ≡ r ∷ [] → is_in ps r ≡ true
first_in r ps e = subst (λ xs. is_in xs r ≡ true) (sym e) (in_last [] r)

-- ## All words of a routine
of_all : (P : Site → Type 0) (ps : List Site) (q : Site) → All P ps → is_in ps q ≡ true → P q
of_all P [] q all e = absurd (cc)
of_all P (p ∷ ps) q all e = go (same p q) refl e (λ f. of_all P ps q (All-tail P p ps all) f)
  where
    go : (b : Bool) → same p q ≡ b → (b || is_in ps q) ≡ true → (is_in ps q ≡ true → P q) → P q
    go true is f later = subst P (is_same p q is) (All-head P p ps all)
    go false is f later = later f

leg_among : (P : Site → Type 0) (l : Leg) (t : Turn) → IsLeg l t → All P (targets t) → P l.to
leg_among P l (Back n) i all = absurd i
leg_among P l (Through t m) i all = absurd i
leg_among P l (Stop why) i all = absurd i
leg_among P l (One a) i all = subst (λ (x : Leg). P x.to) (sym i) (All-head P a.to [] all)
leg_among P l (Two a b) (inl i) all = subst (λ (x : Leg). P x.to) (sym i) (All-head P a.to (b.to ∷ []) all)
leg_among P l (Two a b) (inr i) all =
    subst (λ (x : Leg). P x.to) (sym i) (All-head P b.to [] (All-tail P a.to (b.to ∷ []) all))
leg_among P l (Four a b c d) (inl i) all = subst (λ (x : Leg). P x.to) (sym i) (All-head P a.to (b.to ∷ c.to ∷ d.to ∷ []) all)
leg_among P l (Four a b c d) (inr (inl i)) all =
    subst (λ (x : Leg). P x.to) (sym i) (All-head P b.to (c.to ∷ d.to ∷ []) (All-tail P a.to (b.to ∷ c.to ∷ d.to ∷ []) all))
leg_among P l (Four a b c d) (inr (inr (inl i))) all =
    subst (λ (x : Leg). P x.to) (sym i)
    (All-head P c.to (d.to ∷ []) (All-tail P b.to (c.to ∷ d.to ∷ []) (All-tail P a.to (b.to ∷ c.to ∷ d.to ∷ []) all)))
leg_among P l (Four a b c d) (inr (inr (inr i))) all =
    subst (λ (x : Leg). P x.to) (sym i)
    (All-head P d.to [] (All-tail P c.to (d.to ∷ []) (All-tail P b.to (c.to ∷ d.to ∷ []) (All-tail P a.to (b.to ∷ c.to ∷ d.to ∷ []) all))))

next_among : (words : Words) (kept : List ℕ) (P : Site → Type 0) (p q : Site) → Leads words kept p q
    → All P (targets (turn words kept p)) → P q
next_among words kept P _ _ (On p l i) all = leg_among P l (turn words kept p) i all
next_among words kept P _ _ (Past p t l is) all = All-head P l.to [] (subst (λ u. All P (targets u)) is all)

all_in : (words : Words) (kept : List ℕ) (known : List Row) (ps : List Site) → All (λ p. LeadsTo words kept known ps p) ps
    → (r q : Site) → is_in ps r ≡ true → Has words kept r q → is_in ps q ≡ true
all_in words kept known ps all _ _ first (First r) = first
all_in words kept known ps all _ _ first (Next r p q has leads) =
    next_among words kept (λ x. is_in ps x ≡ true) p q leads
    (of_all (λ x. LeadsTo words kept known ps x) ps p all (all_in words kept known ps all r p first has)).there

pub all_lead_on : (words : Words) (kept : List ℕ) (known : List Row) (ps : List Site) (n : ℕ) (r : Site)
    → FirstLeadOn words kept known ps n → length ps ≤ n → is_in ps r ≡ true → AllLeadOn words kept known r
all_lead_on words kept known ps n r done le first p has =
    let all : All (λ x. LeadsTo words kept known ps x) ps = λ k d lt. done k d (omega (arith, lt, le)) lt in
    (of_all (λ x. LeadsTo words kept known ps x) ps p all (all_in words kept known ps all r p first has)).on

-- ## Words that do not lead on
some_same : {x y : Explored} → Some x ≡ Some y → x ≡ y
some_same {x} {y} e = ap (λ o. unwrap_or o x) e

pub leads_where_none : (p : Site) (known : List Row) (t : Turn) → None ≡ stop_at p known t → leads_on known t ≡ true
leads_where_none p known (Back n) e = refl
leads_where_none p known (One a) e = refl
leads_where_none p known (Two a b) e = refl
leads_where_none p known (Four a b c d) e = refl
leads_where_none p known (Stop why) e = absurd (cc)
leads_where_none p known (Through t l) e = go (is_some (number_at known t)) e
  where
    go : (b : Bool) → None ≡ cond b None (Some (explored.Calls p t)) → b ≡ true
    go true f = refl
    go false f = absurd (cc)

-- what is found there
pub stop_is : (words : Words) (kept : List ℕ) (known : List Row) (r p : Site) (t : Turn) (x : Explored) → Has words kept r p
    → t ≡ turn words kept p → Some x ≡ stop_at p known t
    → IsExplored words kept r x × IsNew known x × IsFoundWhole words kept known r x
stop_is words kept known r p (Back n) x h is e = absurd (cc)
stop_is words kept known r p (One a) x h is e = absurd (cc)
stop_is words kept known r p (Two a b) x h is e = absurd (cc)
stop_is words kept known r p (Four a b c d) x h is e = absurd (cc)
stop_is words kept known r p (Stop why) x h is e =
    subst (λ (y : Explored). IsExplored words kept r y × IsNew known y × IsFoundWhole words kept known r y) (sym (some_same e))
    (stops words kept r p why (Stop why) h is refl, tt, tt)
stop_is words kept known r p (Through t l) x h is e = go (number_at known t) refl e
  where
    go : (o : Option ℕ) → number_at known t ≡ o → Some x ≡ cond (is_some o) None (Some (explored.Calls p t))
        → IsExplored words kept r x × IsNew known x × IsFoundWhole words kept known r x
    go (Some n) none f = absurd (cc)
    go None none f =
        subst (λ (y : Explored). IsExplored words kept r y × IsNew known y × IsFoundWhole words kept known r y) (sym (some_same f))
        (calls words kept r p t l (Through t l) h is refl, none, tt)

-- ## A routine that is whole
has_some : (o : Option ℕ) → is_some o ≡ true → (n : ℕ) × (o ≡ Some n)
has_some None e = absurd (cc)
has_some (Some n) e = (n, refl)

pub whole_is : (words : Words) (kept : List ℕ) (limits : List Limit) (known : List Row) (r : Site) → AreBounds words kept limits known
    → AllLeadOn words kept known r → IsWhole words kept limits r
whole_is words kept limits known r bounds all = record {
  tells = λ p why has is. absurd (let on : leads_on known (Stop why) ≡ true =
      subst (λ u. leads_on known u ≡ true) is (all p has) in cc);
  bounded = λ p t at.
      let some = has_some (number_at known t) (subst (λ u. leads_on known u ≡ true) at.calls (all p at.has)) in
      (some.0, bounds t some.0 some.1);
}
