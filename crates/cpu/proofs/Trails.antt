-- Trails of flows, and their targets.
use Rattle.std.proofs.Common.{◌≡◌, ℕ, Bool, true, false, ◌||◌, ◌==◌, List, [], ◌∷◌, ◌++◌, fold, refl, sym, ◌∙◌}
use Rattle.std.proofs.lemmas.List.{append_assoc, append-nil}
use Rattle.cpu.specs.Links.{Flow, is_in, sources_by, targets_by}
use Rattle.cpu.specs.Trails.{Trace, gathered, passed}

-- flows after flows
pub fold_append : {S : Type 0} (after : S → Flow → S) (s : S) (fs gs : List Flow)
    → fold after s (fs ++ gs) ≡ fold after (fold after s fs) gs
fold_append after s [] gs = refl
fold_append after s (f ∷ fs) gs = fold_append after (after s f) fs gs

-- a trail gathers the sources
pub passed_from : (fs : List Flow) (t : Trace) → (fold passed t fs).from ≡ sources_by fs t.cell t.from
passed_from [] t = refl
passed_from (f ∷ fs) t = passed_from fs (passed t f)

-- gathered one by one, the targets are those of the flows
pub gathered_targets : (fs : List Flow) (cells : List ℕ) → fold gathered cells fs ≡ (cells ++ targets_by fs)
gathered_targets [] cells = sym (append-nil cells)
gathered_targets (f ∷ fs) cells = gathered_targets fs (cells ++ f.into) ∙ append_assoc cells f.into (targets_by fs)

pub first_false : (b d : Bool) → (b || d) ≡ false → b ≡ false
first_false true d e = e
first_false false d e = refl

pub second_false : (b d : Bool) → (b || d) ≡ false → d ≡ false
second_false true d e = absurd (cc)
second_false false d e = e

pub both_false : (b d : Bool) → b ≡ false → d ≡ false → (b || d) ≡ false
both_false true d e h = e
both_false false d e h = h

-- what is among neither of two lists
pub not_first : (c : ℕ) (xs ys : List ℕ) → is_in c (xs ++ ys) ≡ false → is_in c xs ≡ false
not_first c [] ys h = refl
not_first c (d ∷ xs) ys h = both_false (c == d) (is_in c xs) (first_false (c == d) (is_in c (xs ++ ys)) h)
    (not_first c xs ys (second_false (c == d) (is_in c (xs ++ ys)) h))

pub not_second : (c : ℕ) (xs ys : List ℕ) → is_in c (xs ++ ys) ≡ false → is_in c ys ≡ false
not_second c [] ys h = h
not_second c (d ∷ xs) ys h = not_second c xs ys (second_false (c == d) (is_in c (xs ++ ys)) h)
