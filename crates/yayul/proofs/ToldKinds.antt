-- What is told of a line: each kind of its faults that does not follow from another.
use Rattle.std.proofs.Common.{◌≡◌, ℕ, ◌==◌, Bool, true, false, not, ◌&&◌, ◌||◌, cond, List, [], ◌∷◌, ◌++◌, map, Option, refl, ap, sym}
use Rattle.std.proofs.Common.{subst, ◌∙◌, inl, inr, ◌⊎◌}
use Rattle.std.specs.List.{list_any, filter}
use Rattle.std.proofs.lemmas.Bool.{and_from, eq-eqb}
use Rattle.std.proofs.lemmas.List.Folds.{list_any-append}
use Rattle.yayul.specs.Layout.{fault_number}
use Rattle.yayul.specs.Laws.{is_of}
use Rattle.yayul.specs.Survey.{finding, follows, is_beyond, is_one_of, kinds_in_order, kinds_on, told_of}
use Rattle.yayul.specs.Language.{BadBank, BadLabel, BadOperand, BankFull, CodeInErasable, FaultKind, Language, LongLine, NeedsExtend}
use Rattle.yayul.specs.Language.{NoMemory, NotAscii, NotExtracode, OutOfRange, PlaceTaken, TooManyLines, TwiceDefined, Undefined}
use Rattle.yayul.specs.Language.{UnknownOperator, UsedTooEarly, WrongKindOfAddress}
use Rattle.yayul.specs.declared.doubt.Doubt.{Doubt}
use Rattle.yayul.proofs.Least as least_fault

-- a kind is one of some
abbrev pub IsAmong : FaultKind → List FaultKind → Type 0
IsAmong kind [] = ⊥
IsAmong kind (k ∷ kinds) = (kind ≡ k) ⊎ IsAmong kind kinds

pub any_front : {A : Type 0} (test : A → Bool) (xs ys : List A) → list_any test xs ≡ true → list_any test (xs ++ ys) ≡ true
any_front test xs ys e = list_any-append test xs ys ∙ ap (λ b. b || list_any test ys) e

pub any_back : {A : Type 0} (test : A → Bool) (xs ys : List A) → list_any test ys ≡ true → list_any test (xs ++ ys) ≡ true
any_back test xs ys e = list_any-append test xs ys ∙ ap (λ b. list_any test xs || b) e ∙ or_true (list_any test xs)
  where
    or_true : (b : Bool) → (b || true) ≡ true
    or_true true = refl
    or_true false = refl

pub one_of_among : (kind : FaultKind) (kinds : List FaultKind) → IsAmong kind kinds → is_one_of kinds kind ≡ true
one_of_among kind [] none = absurd none
one_of_among kind (k ∷ kinds) (inl same) = ap (λ b. b || is_one_of kinds kind)
    (eq-eqb (fault_number k) (fault_number kind) (ap fault_number (sym same)))
one_of_among kind (k ∷ kinds) (inr more) = any_back (λ other. fault_number other == fault_number kind) (k ∷ []) kinds
    (one_of_among kind kinds more)

-- a kind that passes a test is told
told_among : (test : FaultKind → Bool) (language : Language) (line : ℕ) (text : List ℕ) (taken : Option ℕ) (kind : FaultKind)
    (kinds : List FaultKind) → IsAmong kind kinds → test kind ≡ true
    → list_any (is_of (least_fault.told line kind)) (map (finding language line text taken) (filter test kinds)) ≡ true
told_among test language line text taken kind [] none e = absurd none
told_among test language line text taken kind (k ∷ kinds) (inl same) e =
    let passes : test k ≡ true = ap test (sym same) ∙ e in
    ap (λ b. list_any (is_of (least_fault.told line kind))
    (map (finding language line text taken) (cond b (k ∷ filter test kinds) (filter test kinds)))) passes
    ∙ ap (λ b. b || list_any (is_of (least_fault.told line kind)) (map (finding language line text taken) (filter test kinds)))
    (and_from (line == line) (fault_number k == fault_number kind) (eq-eqb line line refl)
    (eq-eqb (fault_number k) (fault_number kind) (ap fault_number (sym same))))
told_among test language line text taken kind (k ∷ kinds) (inr more) e = by_test
    (told_among test language line text taken kind kinds more e) (test k)
  where
    by_test : list_any (is_of (least_fault.told line kind)) (map (finding language line text taken) (filter test kinds)) ≡ true
        → (b : Bool) → list_any (is_of (least_fault.told line kind))
        (map (finding language line text taken) (cond b (k ∷ filter test kinds) (filter test kinds))) ≡ true
    by_test later true = any_back (is_of (least_fault.told line kind)) (finding language line text taken k ∷ [])
        (map (finding language line text taken) (filter test kinds)) later
    by_test later false = later

in_order : (kind : FaultKind) → IsAmong kind kinds_in_order
in_order BadLabel = inl refl
in_order TwiceDefined = inr (inl refl)
in_order NotAscii = inr (inr (inl refl))
in_order TooManyLines = inr (inr (inr (inl refl)))
in_order UnknownOperator = inr (inr (inr (inr (inl refl))))
in_order BankFull = inr (inr (inr (inr (inr (inl refl)))))
in_order PlaceTaken = inr (inr (inr (inr (inr (inr (inl refl))))))
in_order CodeInErasable = inr (inr (inr (inr (inr (inr (inr (inl refl)))))))
in_order NeedsExtend = inr (inr (inr (inr (inr (inr (inr (inr (inl refl))))))))
in_order NotExtracode = inr (inr (inr (inr (inr (inr (inr (inr (inr (inl refl)))))))))
in_order BadOperand = inr (inr (inr (inr (inr (inr (inr (inr (inr (inr (inl refl))))))))))
in_order Undefined = inr (inr (inr (inr (inr (inr (inr (inr (inr (inr (inr (inl refl)))))))))))
in_order UsedTooEarly = inr (inr (inr (inr (inr (inr (inr (inr (inr (inr (inr (inr (inl refl))))))))))))
in_order BadBank = inr (inr (inr (inr (inr (inr (inr (inr (inr (inr (inr (inr (inr (inl refl)))))))))))))
in_order WrongKindOfAddress = inr (inr (inr (inr (inr (inr (inr (inr (inr (inr (inr (inr (inr (inr (inl refl))))))))))))))
in_order OutOfRange = inr (inr (inr (inr (inr (inr (inr (inr (inr (inr (inr (inr (inr (inr (inr (inl refl)))))))))))))))
in_order LongLine = inr (inr (inr (inr (inr (inr (inr (inr (inr (inr (inr (inr (inr (inr (inr (inr (inl refl))))))))))))))))
in_order NoMemory = inr (inr (inr (inr (inr (inr (inr (inr (inr (inr (inr (inr (inr (inr (inr (inr (inr (inl refl)))))))))))))))))

-- a kind is one of those that pass a test, or of those that do not
among_half : (test : FaultKind → Bool) (kind : FaultKind) (kinds : List FaultKind) → IsAmong kind kinds
    → IsAmong kind (filter (λ k. not (test k)) kinds ++ filter test kinds)
among_half test kind kinds among = either_half (test kind) refl
  where
    passes : (pass : FaultKind → Bool) (ks : List FaultKind) → pass kind ≡ true → IsAmong kind ks → IsAmong kind (filter pass ks)
    passes pass [] is none = none
    passes pass (k ∷ ks) is (inl same) = subst (λ (b : Bool). IsAmong kind (cond b (k ∷ filter pass ks) (filter pass ks)))
        (sym (ap pass (sym same) ∙ is)) (inl same)
    passes pass (k ∷ ks) is (inr more) = by_test (passes pass ks is more) (pass k)
      where
        by_test : IsAmong kind (filter pass ks) → (b : Bool) → IsAmong kind (cond b (k ∷ filter pass ks) (filter pass ks))
        by_test rest true = inr rest
        by_test rest false = rest

    front : (xs ys : List FaultKind) → IsAmong kind xs → IsAmong kind (xs ++ ys)
    front [] ys none = absurd none
    front (x ∷ xs) ys (inl same) = inl same
    front (x ∷ xs) ys (inr more) = inr (front xs ys more)

    back : (xs ys : List FaultKind) → IsAmong kind ys → IsAmong kind (xs ++ ys)
    back [] ys more = more
    back (x ∷ xs) ys more = inr (back xs ys more)

    either_half : (b : Bool) → test kind ≡ b → IsAmong kind (filter (λ k. not (test k)) kinds ++ filter test kinds)
    either_half true is = back (filter (λ k. not (test k)) kinds) (filter test kinds) (passes test kinds is among)
    either_half false is = front (filter (λ k. not (test k)) kinds) (filter test kinds) (passes (λ k. not (test k)) kinds (ap not is) among)

-- a fault of a line that does not follow from another is told
pub told_here : (language : Language) (d : Doubt) (line : ℕ) (text : List ℕ) (taken : Option ℕ) (kinds : List FaultKind) (kind : FaultKind)
    → is_one_of kinds kind ≡ true → follows d kind ≡ false
    → list_any (is_of (least_fault.told line kind)) (told_of language d line text taken kinds) ≡ true
told_here language d line text taken kinds kind stands alone =
    told_among (λ k. is_one_of kinds k && not (follows d k)) language line text taken kind (kinds_on language text)
    (among_half (is_beyond language text) kind kinds_in_order (in_order kind))
    (ap (λ b. b && not (follows d kind)) stands ∙ ap not alone)
