-- The least fault, when those of one request more are told.
use Rattle.std.proofs.Common.{◌≡◌, ◌≢◌, ℕ, ◌+◌, ◌≤◌, List, [], ◌∷◌, ◌++◌, fold, Some, ◌⊎◌, inl, inr, refl, ap, sym, ◌∙◌, arith, append-nil}
use Rattle.std.proofs.lemmas.Bool.{cases_lt}
use Rattle.std.proofs.lemmas.Bool.Decides.{nat_tests}
use Rattle.yayul.specs.Layout.{on_line}
use Rattle.yayul.specs.Program.{least}
use Rattle.yayul.specs.Language.{Fault, FaultKind}
use Rattle.yayul.specs.Inside.Answers.{lesser_kind, least_kind}
use Rattle.yayul.specs.Inside.Waiting.{lesser_on}
use Rattle.yayul.proofs.Least.{told, fold-append, fold-on_line, lesser}
use Rattle.yayul.proofs.LeastOfSet.{StandsIn, AreAmong, fold_is_least, least_of_set}

-- no fault stands on a line
abbrev pub StandOff : ℕ → List Fault → Type 0
StandOff line fs = (f : Fault) → StandsIn fs f → f.line ≢ line

-- what stands in two lists stands in one of them
parts : (fs gs : List Fault) (f : Fault) → StandsIn (fs ++ gs) f → StandsIn fs f ⊎ StandsIn gs f
parts [] gs f stands = inr stands
parts (g ∷ fs) gs f (inl same) = inl (inl same)
parts (g ∷ fs) gs f (inr later) = elim (parts fs gs f later) [ inl first ↦ inl (inr first) | inr second ↦ inr second ]

in_first : (fs gs : List Fault) (f : Fault) → StandsIn fs f → StandsIn (fs ++ gs) f
in_first [] gs f stands = absurd stands
in_first (g ∷ fs) gs f (inl same) = inl same
in_first (g ∷ fs) gs f (inr later) = inr (in_first fs gs f later)

in_second : (fs gs : List Fault) (f : Fault) → StandsIn gs f → StandsIn (fs ++ gs) f
in_second [] gs f stands = stands
in_second (g ∷ fs) gs f stands = inr (in_second fs gs f stands)

pub off-append : (line : ℕ) (fs gs : List Fault) → StandOff line fs → StandOff line gs → StandOff line (fs ++ gs)
off-append line fs gs p q = λ f stands. elim (parts fs gs f stands) [ inl first ↦ p f first | inr second ↦ q f second ]

-- the faults in the middle may be told last
last_too : (fs ks gs : List Fault) → AreAmong (fs ++ (ks ++ gs)) ((fs ++ gs) ++ ks)
last_too fs ks gs f stands =
    elim (parts (fs ++ gs) ks f stands) [
      | inl others ↦
          elim (parts fs gs f others) [
            | inl first ↦ in_first fs (ks ++ gs) f first
            | inr last ↦ in_second fs (ks ++ gs) f
                (in_second ks gs f last)
          ]
      | inr here ↦ in_second fs (ks ++ gs) f (in_first ks gs f here)
    ]

middle_too : (fs ks gs : List Fault) → AreAmong ((fs ++ gs) ++ ks) (fs ++ (ks ++ gs))
middle_too fs ks gs f stands =
    elim (parts fs (ks ++ gs) f stands) [
      | inl first ↦ in_first (fs ++ gs) ks f (in_first fs gs f first)
      | inr others ↦
          elim (parts ks gs f others) [
            | inl here ↦ in_second (fs ++ gs) ks f here
            | inr last ↦ in_first (fs ++ gs) ks f
                (in_second fs gs f last)
          ]
    ]

-- a fault of a lesser line stays the least
stays : (line : ℕ) (m : Fault) (ks : List FaultKind) → m.line + 1 ≤ line → fold lesser m (on_line line ks) ≡ m
stays line m [] lt = refl
stays line m (k ∷ ks) lt =
    let kept : lesser m (told line k) ≡ m = grind (arith, nat_tests) in
    ap (λ f. fold lesser f (on_line line ks)) kept ∙ stays line m ks lt

-- a fault of a greater line gives way
gives_way : (line : ℕ) (m : Fault) (k : FaultKind) → line + 1 ≤ m.line → lesser m (told line k) ≡ told line k
gives_way line m k lt = grind (arith, nat_tests)

-- the faults of a line after others of other lines
pub told_last : (line : ℕ) (fs : List Fault) (ks : List FaultKind) → StandOff line fs
    → least (fs ++ on_line line ks) ≡ lesser_on (least fs) line (least_kind ks)
told_last line [] [] off = refl
told_last line [] (k ∷ ks) off = ap (λ f. Some f) (fold-on_line line k ks)
told_last line (f ∷ fs) [] off = ap least (append-nil (f ∷ fs))
told_last line (f ∷ fs) (k ∷ ks) off =
    let m : Fault = fold lesser f fs in
    let other : m.line ≢ line = off (fold lesser f fs) (fold_is_least f fs).0 in
    let all : Fault = told line (fold lesser_kind k ks) in
    let by_line : fold lesser m (told line k ∷ on_line line ks) ≡ lesser m all =
    elim (cases_lt m.line line) [
      | inl before ↦ stays line m (k ∷ ks) (omega arith) ∙ sym (stays line m (fold lesser_kind k ks ∷ []) (omega arith))
      | inr after ↦
          ap (λ g. fold lesser g (on_line line ks)) (gives_way line m k (omega (arith, other)))
          ∙ fold-on_line line k ks ∙ sym (gives_way line m (fold lesser_kind k ks) (omega (arith, other)))
    ] in
    ap (λ g. Some g) (fold-append lesser f fs (told line k ∷ on_line line ks) ∙ by_line)

-- the faults of a line among others of other lines
pub told_among : (line : ℕ) (fs gs : List Fault) (ks : List FaultKind) → StandOff line fs → StandOff line gs
    → least (fs ++ (on_line line ks ++ gs)) ≡ lesser_on (least (fs ++ gs)) line (least_kind ks)
told_among line fs gs ks before after =
    least_of_set (fs ++ (on_line line ks ++ gs)) ((fs ++ gs) ++ on_line line ks) (middle_too fs (on_line line ks) gs)
    (last_too fs (on_line line ks) gs)
    ∙ told_last line (fs ++ gs) ks (off-append line fs gs before after)
