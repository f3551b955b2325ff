-- No two words share a place.
use Rattle.std.proofs.Common.{◌≡◌, ℕ, zero, suc, ◌+◌, ◌<◌, ◌≤◌, Bool, true, false, List, [], ◌∷◌, ◌++◌, Some, refl, subst, inl, inr, take}
use Rattle.std.proofs.Common.{append_assoc, append-nil, arith}
use Rattle.std.proofs.lemmas.Bool.{cases_Bool, cases_eq}
use Rattle.std.proofs.lemmas.Bool.Decides.{nat_tests}
use Rattle.std.specs.Prelude.{slice_get}
use Rattle.std.specs.List.{list_any}
use Rattle.agc_text.specs.Lines.{lines}
use Rattle.yayul.specs.Layout.{Request, start, width, stands_at, layout_after}
use Rattle.yayul.specs.Inside.Sound.{AreApart, meets}
use Rattle.yayul.specs.Language.{Language, Constant, Content}
use Rattle.yayul.specs.Laws.{ShareNoPlace, WordsShareNoPlace}
use Rattle.yayul.proofs.LineRequests.{ordered}
use Rattle.yayul.proofs.TakenPlaces.{meets_not}

-- what passes a test among the first items passes it among these
passes_before : (test : Request → Bool) (xs : List Request) (i j : ℕ) (q : Request) → i < j → slice_get xs i ≡ Some q → test q ≡ true
    → list_any test (take j xs) ≡ true
passes_before test [] i j q lt e yes' = absurd (cc)
passes_before test (x ∷ xs) i zero q lt e yes' = absurd (omega arith)
passes_before test (x ∷ xs) zero (suc j) q lt e yes' = let same : x ≡ q = cc in rw same (rw yes' refl)
passes_before test (x ∷ xs) (suc i) (suc j) q lt e yes' =
    elim (cases_Bool (test x)) [
      | inl passes ↦ rw passes refl
      | inr fails ↦ rw fails (passes_before test xs i j q (omega arith) e yes')
    ]

-- a request meets none of those before it
meets_before : (before rs : List Request) (j : ℕ) (r : Request) → AreApart before rs → slice_get rs j ≡ Some r
    → meets (before ++ take j rs) r ≡ false
meets_before before [] j r apart e = absurd (cc)
meets_before before (x ∷ xs) zero r apart e =
    let same : x ≡ r = cc in
    let none : meets before r ≡ false = subst (λ (y : Request). meets before y ≡ false) same apart.0 in
    rw append-nil none
meets_before before (x ∷ xs) (suc j) r apart e =
    let rest : meets ((before ++ x ∷ []) ++ take j xs) r ≡ false = meets_before (before ++ x ∷ []) xs j r apart.1 e in
    rw append_assoc at rest

pub few_words : (content : Content) → width content ≤ 2
few_words (Constant number) = omega arith
few_words content = omega arith

-- a word of a request stands at its first place, or at the next
first_or_next : (bank offset : ℕ) (r : Request) → stands_at bank offset r ≡ true
    → (bank ≡ r.bank) × ((r.offset ≤ offset) × (offset < r.offset + width r.content))
first_or_next bank offset r e = (grind (arith, nat_tests), (grind (arith, nat_tests), grind (arith, nat_tests)))

share_no_place : (rs : List Request) → AreApart [] rs → ShareNoPlace rs
share_no_place rs apart = λ i j q r lt eq er bank offset here.
    let none = meets_not (take j rs) r (meets_before [] rs j r apart er) in
    elim (cases_Bool (stands_at bank offset r)) [
      | inl both ↦ absurd (
          let at = first_or_next bank offset r both in
          let few = few_words r.content in
          let found : list_any (stands_at bank offset) (take j rs) ≡ true = passes_before (stands_at bank offset) rs i j q lt eq here in
          elim (cases_eq offset r.offset) [
            | inl first ↦ (
                let there : list_any (stands_at r.bank r.offset) (take j rs)
                ≡ true = subst (λ (b : ℕ). list_any (stands_at b r.offset) (take j rs) ≡ true) at.0
                (subst (λ (o : ℕ). list_any (stands_at bank o) (take j rs) ≡ true) first found) in
                let not_there = none.0 in cc)
            | inr other ↦ (
                let next : offset ≡ r.offset + 1 = omega (arith, other) in
                let two : 1 < width r.content = omega (arith, other) in
                let there : list_any (stands_at r.bank (r.offset + 1)) (take j rs)
                ≡ true = subst (λ (b : ℕ). list_any (stands_at b (r.offset + 1)) (take j rs) ≡ true) at.0
                (subst (λ (o : ℕ). list_any (stands_at bank o) (take j rs) ≡ true) next found) in
                let not_there = none.1 two in cc)
          ])
      | inr neither ↦ neither
    ]

pub words_share_no_place : (language : Language) (source : List ℕ) → WordsShareNoPlace language source
words_share_no_place language source = λ none. share_no_place (layout_after 1 (start language) (lines source)).requests
    (ordered (lines source) (start language) (layout_after 1 (start language) (lines source)) refl refl none).1
