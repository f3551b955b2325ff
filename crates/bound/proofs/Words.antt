-- The words of a routine that are found are its.
use Rattle.std.proofs.Common.{◌≡◌, ℕ, ◌<◌, Bool, true, false, cond, get_or, List, [], ◌∷◌, ◌++◌, All, length, is_some, refl, sym, subst}
use Rattle.std.proofs.Common.{inl, inr}
use Rattle.std.specs.List.{position}
use Rattle.std.proofs.lemmas.List.Elements.{All-cons, All-head, All-nil, All-push, All-tail}
use Rattle.rope.specs.Places.{Words}
use Rattle.bound.specs.declared.site.Site.{Site}
use Rattle.bound.specs.declared.turn.Leg.{Leg}
use Rattle.bound.specs.declared.turn.Turn.{Turn}
use Rattle.bound.specs.declared.turn.Turn.TheVariants.{Back, Through, One, Two, Four, Stop}
use Rattle.bound.specs.Bounds.{Has, IsLeg}
use Rattle.bound.specs.Bounds.Has.{First, Next}
use Rattle.bound.specs.Bounds.Leads.{On, Past}
use Rattle.bound.specs.Inside.Checks.{same}
use Rattle.bound.specs.Inside.Searches.{AreOf, targets, with_all, with_site}
use Rattle.bound.specs.Turns.{turn}

one_more : (P : Site → Type 0) (ps : List Site) (q : Site) → All P ps → P q → All P (with_site ps q)
one_more P ps q all h = go (is_some (position (λ p. same p q) ps))
  where
    go : (b : Bool) → All P (cond b ps (ps ++ q ∷ []))
    go true = all
    go false = All-push P ps q all h

all_more : (P : Site → Type 0) (ps qs : List Site) → All P ps → All P qs → All P (with_all ps qs)
all_more P ps [] all more = all
all_more P ps (q ∷ qs) all more =
    all_more P (with_site ps q) qs (one_more P ps q all (All-head P q qs more)) (All-tail P q qs more)

targets_are : (words : Words) (kept : List ℕ) (r p : Site) (t : Turn) → Has words kept r p → turn words kept p ≡ t
    → AreOf words kept r (targets t)
targets_are words kept r p t h is = go t is
  where
    P : Site → Type 0
    P q = Has words kept r q

    on : (l : Leg) (u : Turn) → turn words kept p ≡ u → IsLeg l u → Has words kept r l.to
    on l u e i = Next r p l.to h (On p l (subst (λ x. IsLeg l x) (sym e) i))

    go : (u : Turn) → turn words kept p ≡ u → AreOf words kept r (targets u)
    go (Back n) e = All-nil P
    go (Stop why) e = All-nil P
    go (Through s l) e = All-cons P l.to [] (Next r p l.to h (Past p s l e)) (All-nil P)
    go (One a) e = All-cons P a.to [] (on a (One a) e refl) (All-nil P)
    go (Two a b) e =
        All-cons P a.to (b.to ∷ []) (on a (Two a b) e (inl refl)) (All-cons P b.to [] (on b (Two a b) e (inr refl)) (All-nil P))
    go (Four a b c d) e =
        All-cons P a.to (b.to ∷ c.to ∷ d.to ∷ []) (on a (Four a b c d) e (inl refl))
        (All-cons P b.to (c.to ∷ d.to ∷ []) (on b (Four a b c d) e (inr (inl refl)))
        (All-cons P c.to (d.to ∷ []) (on c (Four a b c d) e (inr (inr (inl refl))))
        (All-cons P d.to [] (on d (Four a b c d) e (inr (inr (inr refl)))) (All-nil P))))

-- a routine's first word is one of its
pub first_is : (words : Words) (kept : List ℕ) (r : Site) (ps : List Site) → ps ≡ r ∷ [] → AreOf words kept r ps
first_is words kept r ps e =
    subst (λ qs. AreOf words kept r qs) (sym e) (All-cons (λ q. Has words kept r q) r [] (First r) (All-nil (λ q. Has words kept r q)))

-- one of its words by its number
pub one_is : (words : Words) (kept : List ℕ) (r : Site) (ps : List Site) (n : ℕ) (p : Site) → AreOf words kept r ps → n < length ps
    → p ≡ get_or ps n p → Has words kept r p
one_is words kept r ps n p are lt is = subst (λ (q : Site). Has words kept r q) (sym is) (are n p lt)

-- with those to which one of its words leads
pub more_are : (words : Words) (kept : List ℕ) (r p : Site) (t : Turn) (ps qs : List Site) → AreOf words kept r ps → Has words kept r p
    → t ≡ turn words kept p → qs ≡ with_all ps (targets t) → AreOf words kept r qs
more_are words kept r p t ps qs are h is e =
    subst (λ xs. AreOf words kept r xs) (sym e)
    (all_more (λ q. Has words kept r q) ps (targets t) are (targets_are words kept r p t h (sym is)))
