-- Spots of a list are come to in turn.
use Rattle.std.proofs.Common.{◌≡◌, ℕ, ◌+◌, ◌<◌, ◌≤◌, Bool, List, length, take, drop, get_or, sym, ap, subst, ◌∙◌, inl}
use Rattle.std.proofs.Common.{inr}
use Rattle.std.proofs.lemmas.List.{drop_more, drop_all, take_all}
use Rattle.reach.specs.declared.spot.Spot.{Spot}
use Rattle.reach.specs.Ways.{Among}
use Rattle.reach.specs.Marks.{IsSpot}
use Rattle.reach.specs.Inside.Seen.{marks_all, marks_by, order_all, order_by}
use Rattle.reach.proofs.Lists.{among_taken}

pub marks_more : (final m n : List Bool) (qs : List Spot) (i : ℕ) (q : Spot) → i < length qs → q ≡ get_or qs i q → n ≡ marks_by m q
    → marks_all m (drop i qs) ≡ final
    → marks_all n (drop (i + 1) qs) ≡ final
marks_more final m n qs i q lt is e before =
    ap (λ ms. marks_all ms (drop (i + 1) qs)) e
    ∙ ap (λ (p : Spot). marks_all (marks_by m p) (drop (i + 1) qs)) is
    ∙ sym (ap (marks_all m) (drop_more qs i q lt)) ∙ before

pub order_more : (final : List Spot) (m n : List Bool) (o r : List Spot) (qs : List Spot) (i : ℕ) (q : Spot) → i < length qs
    → q ≡ get_or qs i q → n ≡ marks_by m q → r ≡ order_by m o q
    → order_all m o (drop i qs) ≡ final → order_all n r (drop (i + 1) qs) ≡ final
order_more final m n o r qs i q lt is e f before =
    (λ j. order_all (e j) (f j) (drop (i + 1) qs))
    ∙ ap (λ (p : Spot). order_all (marks_by m p) (order_by m o p) (drop (i + 1) qs)) is
    ∙ sym (ap (order_all m o) (drop_more qs i q lt)) ∙ before

pub are_more : (qs : List Spot) (i : ℕ) (q : Spot) → i < length qs → q ≡ get_or qs i q → IsSpot q
    → ((p : Spot) → Among p (take i qs) → IsSpot p) → (p : Spot) → Among p (take (i + 1) qs) → IsSpot p
are_more qs i q lt is here before p h = elim (among_taken p q qs i lt h) [
  | inl earlier ↦ before p earlier
  | inr last ↦ subst IsSpot (is ∙ sym last) here
]

pub marks_end : (final m : List Bool) (qs : List Spot) (i : ℕ) → length qs ≤ i → marks_all m (drop i qs) ≡ final → m ≡ final
marks_end final m qs i le e = sym (ap (marks_all m) (drop_all i qs le)) ∙ e

pub order_end : (final : List Spot) (m : List Bool) (o qs : List Spot) (i : ℕ) → length qs ≤ i → order_all m o (drop i qs) ≡ final
    → o ≡ final
order_end final m o qs i le e = sym (ap (order_all m o) (drop_all i qs le)) ∙ e

pub are_end : (qs : List Spot) (i : ℕ) → length qs ≤ i → ((p : Spot) → Among p (take i qs) → IsSpot p) → (p : Spot) → Among p qs → IsSpot p
are_end qs i le before p h = before p (subst (λ ps. Among p ps) (sym (take_all i qs le)) h)
