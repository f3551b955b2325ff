-- The least fault of a list that grows, and of the faults of lines in order.
use Rattle.std.proofs.Common.{◌≡◌, ℕ, ◌+◌, ◌<◌, ◌≤◌, List, [], ◌∷◌, ◌++◌, length, take, get_or, fold, Option, Some, None, refl, ap, ◌∙◌}
use Rattle.std.proofs.Common.{arith}
use Rattle.std.specs.Prelude.{if◌then◌else◌}
use Rattle.std.proofs.lemmas.Bool.Decides.{nat_tests}
use Rattle.std.proofs.lemmas.List.{take_more}
use Rattle.yayul.specs.Layout.{fault_number, standing, on_line}
use Rattle.yayul.specs.Program.{least, is_before}
use Rattle.yayul.specs.Inside.Answers.{lesser_kind, least_kind, lesser_if}
use Rattle.yayul.specs.declared.faults.FaultKind.{FaultKind}
use Rattle.yayul.specs.declared.faults.Fault.{Fault}

fold-one_more : {A B : Type 0} (f : B → A → B) (x : B) (xs : List A) (y : A) → fold f x (xs ++ y ∷ []) ≡ f (fold f x xs) y
fold-one_more f x [] y = refl
fold-one_more f x (z ∷ xs) y = fold-one_more f (f x z) xs y

standing-one_more : (cs : List (Option FaultKind)) (c : Option FaultKind) → standing (cs ++ c ∷ []) ≡ standing cs ++ standing (c ∷ [])
standing-one_more [] c = refl
standing-one_more (None ∷ cs) c = standing-one_more cs c
standing-one_more (Some k ∷ cs) c = ap (λ ks. k ∷ ks) (standing-one_more cs c)

-- of two faults, the one before the other
abbrev pub lesser : Fault → Fault → Fault
lesser a b = if is_before b a then b else a

-- one condition more
least_kind-one_more : (ks : List FaultKind) (c : Option FaultKind) → least_kind (ks ++ standing (c ∷ [])) ≡ lesser_if (least_kind ks) c
least_kind-one_more [] None = refl
least_kind-one_more [] (Some k) = refl
least_kind-one_more (k ∷ ks) None = ap least_kind (append_nil (k ∷ ks))
  where
    append_nil : (xs : List FaultKind) → xs ++ [] ≡ xs
    append_nil [] = refl
    append_nil (x ∷ xs) = ap (λ r. x ∷ r) (append_nil xs)
least_kind-one_more (k ∷ ks) (Some j) = ap (λ x. Some x) (fold-one_more lesser_kind k ks j)

pub least_standing-more : (cs : List (Option FaultKind)) (i : ℕ) → i < length cs
    → least_kind (standing (take (i + 1) cs)) ≡ lesser_if (least_kind (standing (take i cs))) (get_or cs i None)
least_standing-more cs i lt =
    ap (λ xs. least_kind (standing xs)) (take_more cs i None lt)
    ∙ ap least_kind (standing-one_more (take i cs) (get_or cs i None))
    ∙ least_kind-one_more (standing (take i cs)) (get_or cs i None)

-- a kind of fault on a line
abbrev pub told : ℕ → FaultKind → Fault
told line kind = record { line = line; number = fault_number kind }

-- faults on lines from a number on
abbrev pub StandFrom : ℕ → List Fault → Type 0
StandFrom line [] = Unit {0}
StandFrom line (f ∷ fs) = (line ≤ f.line) × StandFrom line fs

-- a fault of a later line is not the lesser
kept : (f g : Fault) → f.line + 1 ≤ g.line → lesser f g ≡ f
kept f g le = grind (arith, nat_tests)

fold-later : (f : Fault) (gs : List Fault) → StandFrom (f.line + 1) gs → fold lesser f gs ≡ f
fold-later f [] p = refl
fold-later f (g ∷ gs) p = ap (λ h. fold lesser h gs) (kept f g p.0) ∙ fold-later f gs p.1

pub fold-append : {A B : Type 0} (f : B → A → B) (x : B) (xs ys : List A) → fold f x (xs ++ ys) ≡ fold f (fold f x xs) ys
fold-append f x [] ys = refl
fold-append f x (z ∷ xs) ys = fold-append f (f x z) xs ys

-- of two faults on one line
same_line : (line : ℕ) (a b : FaultKind) → lesser (told line a) (told line b) ≡ told line (lesser_kind a b)
same_line line a b = grind (arith, nat_tests)

pub fold-on_line : (line : ℕ) (k : FaultKind) (ks : List FaultKind)
    → fold lesser (told line k) (on_line line ks) ≡ told line (fold lesser_kind k ks)
fold-on_line line k [] = refl
fold-on_line line k (j ∷ ks) = ap (λ f. fold lesser f (on_line line ks)) (same_line line k j) ∙ fold-on_line line (lesser_kind k j) ks

-- the least fault of a line with faults, where all others stand on later lines
pub least_here : (line : ℕ) (ks : List FaultKind) (k : FaultKind) (later : List Fault) → least_kind ks ≡ Some k → StandFrom (line + 1) later
    → least (on_line line ks ++ later) ≡ Some (told line k)
least_here line [] k later e p = absurd (let bad : None ≡ Some k = e in cc)
least_here line (j ∷ ks) k later e p =
    let same : fold lesser_kind j ks ≡ k = cc in
    let first : fold lesser (told line j) (on_line line ks) ≡ told line k = fold-on_line line j ks ∙ ap (told line) same in
    ap (λ x. Some x) (fold-append lesser (told line j) (on_line line ks) later ∙ ap (λ f. fold lesser f later) first
    ∙ fold-later (told line k) later p)

pub StandFrom-append : (line : ℕ) (fs gs : List Fault) → StandFrom line fs → StandFrom line gs → StandFrom line (fs ++ gs)
StandFrom-append line [] gs p q = q
StandFrom-append line (f ∷ fs) gs p q = (p.0, StandFrom-append line fs gs p.1 q)

pub StandFrom-later : (a b : ℕ) (fs : List Fault) → a ≤ b → StandFrom b fs → StandFrom a fs
StandFrom-later a b [] le p = tt
StandFrom-later a b (f ∷ fs) le p = (omega (arith, p.0), StandFrom-later a b fs le p.1)

pub StandFrom-on_line : (a line : ℕ) (ks : List FaultKind) → a ≤ line → StandFrom a (on_line line ks)
StandFrom-on_line a line [] le = tt
StandFrom-on_line a line (k ∷ ks) le = (le, StandFrom-on_line a line ks le)

-- a list of kinds with no least one is empty
pub none_least : (ks : List FaultKind) → least_kind ks ≡ None → ks ≡ []
none_least [] e = refl
none_least (k ∷ ks) e = absurd (cc)
