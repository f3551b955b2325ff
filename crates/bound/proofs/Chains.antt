-- Routines in progress, and words of loops.
use Rattle.std.proofs.Common.{◌≡◌, ℕ, zero, suc, ◌||◌, ◌⊎◌, Bool, true, false, not, List, [], ◌∷◌, ◌++◌, All, Option}
use Rattle.std.proofs.Common.{◌<◌, length, arith, refl, sym, subst, ◌∙◌, inl, inr}
use Rattle.std.specs.List.{list_all, list_any}
use Rattle.std.specs.Option.{option_to_list}
use Rattle.std.proofs.lemmas.Bool.{and_parts}
use Rattle.std.proofs.lemmas.List.Elements.{All-cons, All-nil}
use Rattle.rope.specs.Places.{Words}
use Rattle.bound.specs.declared.charge.Limit.{Limit}
use Rattle.bound.specs.declared.counted.Counted.{Counted}
use Rattle.bound.specs.declared.site.Site.{Site}
use Rattle.bound.specs.declared.turn.Leg.{Leg}
use Rattle.bound.specs.declared.turn.Turn.{Turn}
use Rattle.bound.specs.declared.turn.Turn.TheVariants.{Back, Through, One, Two, Four, Stop}
use Rattle.bound.specs.declared.turn.Why.{Why}
use Rattle.bound.specs.declared.turn.Why.TheVariants.{Recursive, Unbounded, ManyCycles, ManyWords}
use Rattle.bound.specs.Bounds.{AreApart, AreCounted, AreCountedOf, CallsAt, GoesOn, Has, IsFree, IsLeg, IsReason, IsWhole, Leads, Uses}
use Rattle.bound.specs.Bounds.{most_words, stands_at}
use Rattle.bound.specs.Bounds.Has.{First}
use Rattle.bound.specs.Bounds.Leads.{On, Past}
use Rattle.bound.specs.Bounds.Uses.{Itself, Calls}
use Rattle.bound.specs.Inside.Checks.{same}
use Rattle.bound.specs.Inside.Searches.{AreOf, Fails, IsChain, all_stay, is_free, is_in, last_of, leads_into}
use Rattle.bound.specs.Inside.Searches.{stays_in}
use Rattle.bound.specs.Turns.{turn}
use Rattle.bound.proofs.Sound.{is_same}

-- each routine of a chain uses the last of it
pub uses_last : (words : Words) (kept : List ℕ) (t r : Site) (ss : List Site) → Uses words kept t r → IsChain words kept r ss
    → Uses words kept t (last_of r ss)
uses_last words kept t r [] u c = u
uses_last words kept t r (s ∷ ss) u c = uses_last words kept t s ss (Calls t r c.0.place s u c.0.at) c.1

pub first_uses : (words : Words) (kept : List ℕ) (r : Site) (ss : List Site) → IsChain words kept r ss → Uses words kept r (last_of r ss)
first_uses words kept r ss c = uses_last words kept r r ss (Itself r) c

pub one_uses : (words : Words) (kept : List ℕ) (r : Site) (ss : List Site) (t : Site) → IsChain words kept r ss → is_in ss t ≡ true
    → Uses words kept t (last_of r ss)
one_uses words kept r [] t c e = absurd (cc)
one_uses words kept r (s ∷ ss) t c e = go (same s t) refl e (λ f. one_uses words kept s ss t c.1 f)
  where
    go : (b : Bool) → same s t ≡ b → (b || list_any (λ p. same p t) ss) ≡ true
        → (is_in ss t ≡ true → Uses words kept t (last_of s ss)) → Uses words kept t (last_of s ss)
    go true is f later = uses_last words kept t s ss (subst (λ (x : Site). Uses words kept t x) (sym (is_same s t is)) (Itself t)) c.1
    go false is f later = later f

-- each of a chain is used by the first
pub all_used : (words : Words) (kept : List ℕ) (t r : Site) (ss : List Site) → Uses words kept t r → IsChain words kept r ss
    → All (λ q. Uses words kept t q) ss
all_used words kept t r [] u c = All-nil (λ q. Uses words kept t q)
all_used words kept t r (s ∷ ss) u c =
    let next = Calls t r c.0.place s u c.0.at in
    All-cons (λ q. Uses words kept t q) s ss next (all_used words kept t s ss next c.1)

-- a routine that the last of a chain calls makes it longer
pub chain_longer : (words : Words) (kept : List ℕ) (r : Site) (ss : List Site) (p t : Site) → IsChain words kept r ss
    → CallsAt words kept (last_of r ss) p t → IsChain words kept r (ss ++ t ∷ [])
chain_longer words kept r [] p t c at = (record { place = p; at = at }, tt)
chain_longer words kept r (s ∷ ss) p t c at = (c.0, chain_longer words kept s ss p t c.1 at)

-- the first of a chain are one
pub chain_shorter : (words : Words) (kept : List ℕ) (r : Site) (ss : List Site) (o : Option Site)
    → IsChain words kept r (ss ++ option_to_list o) → IsChain words kept r ss
chain_shorter words kept r [] o c = tt
chain_shorter words kept r (s ∷ ss) o c = (c.0, chain_shorter words kept s ss o c.1)

-- a word that stands at no place of a limit
free_is : (limits : List Limit) (p : Site) → is_free limits p ≡ true → IsFree limits p
free_is [] p e = tt
free_is (limit ∷ limits) p e = go (stands_at limit p) refl e (λ f. free_is limits p f)
  where
    go : (b : Bool) → stands_at limit p ≡ b → not (b || list_any (λ l. stands_at l p) limits) ≡ true
        → (is_free limits p ≡ true → IsFree limits p) → (stands_at limit p ≡ false) × IsFree limits p
    go true is f later = absurd (cc)
    go false is f later = (is, later f)

-- a word of some to which another leads
record LeadsInto (words : Words) (kept : List ℕ) (ps : List Site) (p : Site) : Type 0 where
  next : Site
  leads : Leads words kept p next
  here : is_in ps next ≡ true

or_parts : (a b : Bool) → (a || b) ≡ true → (a ≡ true) ⊎ (b ≡ true)
or_parts true b e = inl refl
or_parts false b e = inr e

into : (words : Words) (kept : List ℕ) (ps : List Site) (p : Site) (l : Leg) → IsLeg l (turn words kept p) → is_in ps l.to ≡ true
    → LeadsInto words kept ps p
into words kept ps p l i e = record { next = l.to; leads = On p l i; here = e }

leads_is : (words : Words) (kept : List ℕ) (ps : List Site) (p : Site) (t : Turn) → turn words kept p ≡ t → leads_into ps t ≡ true
    → LeadsInto words kept ps p
leads_is words kept ps p (Back n) is e = absurd (cc)
leads_is words kept ps p (Stop why) is e = absurd (cc)
leads_is words kept ps p (Through t l) is e = record { next = l.to; leads = Past p t l is; here = e }
leads_is words kept ps p (One a) is e = into words kept ps p a (subst (λ t. IsLeg a t) (sym is) refl) e
leads_is words kept ps p (Two a b) is e = elim (or_parts (is_in ps a.to) (is_in ps b.to) e) [
  | inl x ↦ into words kept ps p a (subst (λ t. IsLeg a t) (sym is) (inl refl)) x
  | inr x ↦ into words kept ps p b (subst (λ t. IsLeg b t) (sym is) (inr refl)) x
]
leads_is words kept ps p (Four a b c d) is e =
    elim (or_parts (is_in ps a.to || is_in ps b.to) (is_in ps c.to || is_in ps d.to) e) [
      | inl x ↦ elim (or_parts (is_in ps a.to) (is_in ps b.to) x) [
        | inl y ↦ into words kept ps p a (subst (λ t. IsLeg a t) (sym is) (inl refl)) y
        | inr y ↦ into words kept ps p b (subst (λ t. IsLeg b t) (sym is) (inr (inl refl))) y
      ]
      | inr x ↦ elim (or_parts (is_in ps c.to) (is_in ps d.to) x) [
        | inl y ↦ into words kept ps p c (subst (λ t. IsLeg c t) (sym is) (inr (inr (inl refl)))) y
        | inr y ↦ into words kept ps p d (subst (λ t. IsLeg d t) (sym is) (inr (inr (inr refl)))) y
      ]
    ]

-- of words that pass a test one passes it
passes : (test : Site → Bool) (ps : List Site) (q : Site) → list_all test ps ≡ true → is_in ps q ≡ true → test q ≡ true
passes test [] q all e = absurd (cc)
passes test (p ∷ ps) q all e = go (same p q) refl e (λ f. passes test ps q (and_parts (test p) (list_all test ps) all).1 f)
  where
    go : (b : Bool) → same p q ≡ b → (b || list_any (λ r. same r q) ps) ≡ true → (is_in ps q ≡ true → test q ≡ true) → test q ≡ true
    go true is f later = subst (λ (x : Site). test x ≡ true) (is_same p q is) (and_parts (test p) (list_all test ps) all).0
    go false is f later = later f

-- from each of some words that lead to one another, at no place of a limit, ways lead on for as many words as one may name
pub goes_on : (words : Words) (kept : List ℕ) (limits : List Limit) (ps : List Site) → all_stay words kept limits ps ≡ true
    → (n : ℕ) (p : Site) → is_in ps p ≡ true → GoesOn words kept limits n p
goes_on words kept limits ps all zero p e =
    let stays = passes (stays_in words kept limits ps) ps p all e in
    free_is limits p (and_parts (is_free limits p) (leads_into ps (turn words kept p)) stays).0
goes_on words kept limits ps all (suc n) p e =
    let stays = passes (stays_in words kept limits ps) ps p all e in
    let both = and_parts (is_free limits p) (leads_into ps (turn words kept p)) stays in
    let on = leads_is words kept ps p (turn words kept p) refl both.1 in
    (free_is limits p both.0, (on.next, on.leads, goes_on words kept limits ps all n on.next on.here))

-- why no bound is told
pub many_cycles : (words : Words) (kept : List ℕ) (limits : List Limit) (r : Site) → IsWhole words kept limits r
    → Fails words kept limits r r ManyCycles
many_cycles words kept limits r whole = record { has = First r; cause = inr whole }

pub many_words : (words : Words) (kept : List ℕ) (r : Site) (ps : List Site) → AreOf words kept r ps → AreApart ps → most_words < length ps
    → (limits : List Limit) → Fails words kept limits r r ManyWords
many_words words kept r ps each apart many limits =
    record { has = First r; cause = inr (record { sites = ps; each = each; apart = apart; many = omega (arith, many) }) }

pub stops : (words : Words) (kept : List ℕ) (r p : Site) (why : Why) (t : Turn) → Has words kept r p → t ≡ turn words kept p → t ≡ Stop why
    → (limits : List Limit) → Fails words kept limits r p why
stops words kept r p why t h is e limits = record { has = h; cause = inl (sym is ∙ e) }

pub calls : (words : Words) (kept : List ℕ) (r p s : Site) (l : Leg) (t : Turn) → Has words kept r p → t ≡ turn words kept p
    → t ≡ Through s l → CallsAt words kept r p s
calls words kept r p s l t h is e = record { has = h; after = l; calls = sym is ∙ e }

pub loops : (words : Words) (kept : List ℕ) (limits : List Limit) (r : Site) (ps : List Site) (p : Site) → Has words kept r p
    → is_in ps p ≡ true → all_stay words kept limits ps ≡ true → Fails words kept limits r p Unbounded
loops words kept limits r ps p h here all = record { has = h; cause = inr (λ n. goes_on words kept limits ps all n p here) }

pub fails_within : (words : Words) (kept : List ℕ) (limits : List Limit) (r s : Site) (ss : List Site) (p : Site) (why : Why)
    → IsChain words kept r ss → s ≡ last_of r ss → Fails words kept limits s p why → IsReason words kept limits r p why
fails_within words kept limits r s ss p why c is f = record {
  owner = s;
  uses = subst (λ (x : Site). Uses words kept r x) (sym is) (first_uses words kept r ss c);
  has = f.has;
  cause = f.cause;
}

pub calls_again : (words : Words) (kept : List ℕ) (limits : List Limit) (r s : Site) (ss : List Site) (p t : Site) → IsChain words kept r ss
    → s ≡ last_of r ss → CallsAt words kept s p t → (same t r ≡ true) ⊎ (is_in ss t ≡ true) → IsReason words kept limits r p Recursive
calls_again words kept limits r s ss p t c is at again =
    fails_within words kept limits r s ss p Recursive c is (record {
      has = at.has;
      cause = inr (record { called = t; at = at; uses = subst (λ (x : Site). Uses words kept t x) (sym is) used });
    })
  where
    used : Uses words kept t (last_of r ss)
    used = elim again [
      | inl e ↦ subst (λ (x : Site). Uses words kept x (last_of r ss)) (sym (is_same t r e)) (first_uses words kept r ss c)
      | inr e ↦ one_uses words kept r ss t c e
    ]

-- loops that are counted of one more routine
pub counted_more : (words : Words) (kept : List ℕ) (r s : Site) (ss : List Site) (cs ds : List Counted) → IsChain words kept r ss
    → s ≡ last_of r ss → AreCountedOf words kept r cs → AreCounted words kept s ds → AreCountedOf words kept r (cs ++ ds)
counted_more words kept r s ss cs ds c is of are = go cs of
  where
    used : Uses words kept r s
    used = subst (λ (x : Site). Uses words kept r x) (sym is) (first_uses words kept r ss c)

    all_of : (ds : List Counted) → AreCounted words kept s ds → AreCountedOf words kept r ds
    all_of [] are = tt
    all_of (d ∷ ds) are = (record { owner = s; uses = used; counted = are.0 }, all_of ds are.1)

    go : (cs : List Counted) → AreCountedOf words kept r cs → AreCountedOf words kept r (cs ++ ds)
    go [] of = all_of ds are
    go (c ∷ cs) of = (of.0, go cs of.1)
